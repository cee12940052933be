use Rattle.std.proofs.Common.{◌≡◌, ◌++◌, drop, string_bytes}
use Rattle.judge.specs.Verdicts.{numbers}
use Rattle.bookask.specs.Replies.{letters_words}
use Rattle.bookask.proofs.replies.letters_line.Given as goal

abbrev pub invariant-loop-letter : goal.invariant-loop-letter
invariant-loop-letter l = string_bytes l.line ++ numbers (drop l.letter-index l.rest) ≡ letters_words l.letters

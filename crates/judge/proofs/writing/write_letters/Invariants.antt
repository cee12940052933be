use Rattle.std.proofs.Common.{◌≡◌, ◌≤◌, ◌+◌, ◌*◌, ◌++◌, length, drop}
use Rattle.judge.specs.Texts.{said}
use Rattle.judge.specs.Verdicts.{numbers}
use Rattle.judge.proofs.writing.write_letters.Given as goal

abbrev pub invariant-loop-letter : goal.invariant-loop-letter
invariant-loop-letter l = record {
  left : said l.text ++ numbers (drop l.letter-index l.letters) ≡ said l.fn.text ++ numbers l.letters;
  short : length (said l.text) ≤ 128 + 3 * l.letter-index;
}

use Rattle.std.proofs.Common.{◌≡◌, ℕ, ◌<◌, drop}
use Rattle.theory.specs.Tables.{member}
use Rattle.judge.specs.Sheets.{tables, along}
use Rattle.judge.proofs.sheet.Judgement.member.Given as goal

abbrev pub invariant-loop-letter : goal.invariant-loop-letter
invariant-loop-letter l = (A : ℕ) → A < 64 → along l.self l.here (drop l.letter-index l.word) A ≡ member (tables l.self) l.part l.word A

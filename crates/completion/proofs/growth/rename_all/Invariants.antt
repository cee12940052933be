use Rattle.std.proofs.Common.{◌≡◌, ℕ, ◌<◌, ◌≤◌, length}
use Rattle.completion.specs.Lines.{Moved}
use Rattle.completion.specs.Records.{part_at, renamed}
use Rattle.completion.proofs.growth.rename_all.Given as goal

abbrev pub invariant-loop-part : goal.invariant-loop-part
invariant-loop-part l = record {
  long : length l.parts ≡ 256;
  named : (p : ℕ) → p < l.part → part_at l.parts p ≡ renamed l.from l.to (part_at l.initial.parts p);
  later : (p : ℕ) → l.part ≤ p → part_at l.parts p ≡ part_at l.initial.parts p;
  moved : Moved l.initial.parts l.initial.waiting l.parts l.waiting;
}

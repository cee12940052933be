-- The sets of the classes that the loop has passed have their members.
use Rattle.std.proofs.Common.{◌≡◌, ℕ, ◌<◌, length}
use Rattle.completion.specs.PartSets.{HasMembers, parts_at}
use Rattle.completion.proofs.index.members.Given as goal

abbrev pub invariant-loop-class : goal.invariant-loop-class
invariant-loop-class l = record {
  long : length l.sets ≡ 64;
  passed : (A : ℕ) → A < l.class → HasMembers l.parts A (parts_at l.sets A);
}

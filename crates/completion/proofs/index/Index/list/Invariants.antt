-- The sets of the features that the loop has passed have their namers.
use Rattle.std.proofs.Common.{◌≡◌, ℕ, ◌<◌, length}
use Rattle.completion.specs.PartSets.{HasMembers, HasNamers, namers_at, parts_at}
use Rattle.completion.proofs.index.Index.list.Given as goal

abbrev pub invariant-loop-feature : goal.invariant-loop-feature
invariant-loop-feature l = record {
  long : length l.self.namers ≡ 16;
  members : (A : ℕ) → A < 64 → HasMembers l.parts A (parts_at l.self.members A);
  passed : (f : ℕ) → f < l.feature → HasNamers l.parts f (namers_at l.self.namers f);
}

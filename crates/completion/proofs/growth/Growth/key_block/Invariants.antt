-- What the loop over places keeps: each place of the set is still to come, or the key adds nothing there.
use Rattle.std.proofs.Common.{◌≡◌, ℕ, ◌+◌, ◌*◌, true, false, ◌⊎◌, List}
use Rattle.classes.specs.Sets.{has}
use Rattle.terms.specs.Worlds.{◌∈◌, Rule, key}
use Rattle.terms.specs.Facts.{Claim}
use Rattle.completion.specs.Records.{Right, key_features}
use Rattle.completion.specs.Growths.{Went}
use Rattle.completion.specs.Closed.{Keyed}
use Rattle.completion.proofs.growth.Growth.key_block.Given as goal

abbrev pub invariant-loop-place : goal.invariant-loop-place
invariant-loop-place l = record {
  went : Went l.fn.self l.self;
  closed : l.self.waiting.grown ≡ false → (k : ℕ) → has l.fn.set k ≡ true → (has l.place-iterator.rest k ≡ true) ⊎ Keyed l.row l.self.parts l.p (64 * l.block + k);
  right : (R : List Rule) (F : List Claim) → key l.row.left l.row.right (key_features l.row) ∈ R → Right R F l.fn.self.parts → Right R F l.self.parts;
}

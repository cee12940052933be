-- What the loop over blocks keeps.
use Rattle.std.proofs.Common.{◌≡◌, ℕ, ◌<◌, false, List}
use Rattle.terms.specs.Worlds.{◌∈◌, Rule, key}
use Rattle.terms.specs.Facts.{Claim}
use Rattle.completion.specs.Records.{Right, key_features}
use Rattle.completion.specs.Growths.{Went}
use Rattle.completion.specs.PartSets.{block_at}
use Rattle.completion.specs.Closed.{KeyedIn}
use Rattle.completion.proofs.growth.Growth.key_each.Given as goal

abbrev pub invariant-loop-block : goal.invariant-loop-block
invariant-loop-block l = record {
  went : Went l.fn.self l.self;
  closed : l.self.waiting.grown ≡ false → (b : ℕ) → b < l.block → KeyedIn l.row l.self.parts l.p b (block_at l.candidates b);
  right : (R : List Rule) (F : List Claim) → key l.row.left l.row.right (key_features l.row) ∈ R → Right R F l.fn.self.parts → Right R F l.self.parts;
}

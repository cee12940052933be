-- What the loop over parts keeps.
use Rattle.std.proofs.Common.{◌≡◌, ℕ, ◌<◌, false, List}
use Rattle.terms.specs.Worlds.{◌∈◌, Rule, key}
use Rattle.terms.specs.Facts.{Claim}
use Rattle.completion.specs.Records.{Right, key_features}
use Rattle.completion.specs.Growths.{Went}
use Rattle.completion.specs.Closed.{KeyedFrom}
use Rattle.completion.proofs.growth.Growth.key_all.Given as goal

abbrev pub invariant-loop-p : goal.invariant-loop-p
invariant-loop-p l = record {
  went : Went l.fn.self l.self;
  closed : l.self.waiting.grown ≡ false → (p : ℕ) → p < l.p → KeyedFrom l.row l.index l.self.parts p;
  right : (R : List Rule) (F : List Claim) → key l.row.left l.row.right (key_features l.row) ∈ R → Right R F l.fn.self.parts → Right R F l.self.parts;
}

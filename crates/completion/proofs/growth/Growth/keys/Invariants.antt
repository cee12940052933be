-- What the loop over rows keeps.
use Rattle.std.proofs.Common.{◌≡◌, ℕ, ◌<◌, false, List}
use Rattle.terms.specs.Facts.{Claim}
use Rattle.completion.specs.Records.{Right}
use Rattle.completion.specs.Growths.{Went}
use Rattle.completion.specs.Closed.{KeyedFrom, row_at, rules_in}
use Rattle.completion.proofs.growth.Growth.keys.Given as goal

abbrev pub invariant-loop-row : goal.invariant-loop-row
invariant-loop-row l = record {
  went : Went l.fn.self l.self;
  closed : l.self.waiting.grown ≡ false → (k : ℕ) → k < l.row-index → (row_at l.rules k).kind ≡ 5 → (p : ℕ) → p < 256 → KeyedFrom (row_at l.rules k) l.index l.self.parts p;
  right : (F : List Claim) → Right (rules_in l.rules) F l.fn.self.parts → Right (rules_in l.rules) F l.self.parts;
}

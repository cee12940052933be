-- What the loop over parts keeps.
use Rattle.std.proofs.Common.{◌≡◌, ℕ, ◌<◌, false, List}
use Rattle.terms.specs.Facts.{Claim}
use Rattle.completion.specs.Records.{Right}
use Rattle.completion.specs.Growths.{Went}
use Rattle.completion.specs.Closed.{Meant, Visited, rules_in}
use Rattle.completion.proofs.growth.Growth.pass.Given as goal

abbrev pub invariant-loop-part : goal.invariant-loop-part
invariant-loop-part l = record {
  went : Went l.fn.self l.self;
  closed : l.self.waiting.grown ≡ false → (p : ℕ) → p < l.part → Visited l.rules l.self.parts p;
  right : (F : List Claim) → Meant l.rules → Right (rules_in l.rules) F l.fn.self.parts → Right (rules_in l.rules) F l.self.parts;
}

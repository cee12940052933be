use Rattle.std.proofs.Common.{◌≡◌, ℕ, ◌<◌, false, List}
use Rattle.terms.specs.Facts.{Claim}
use Rattle.completion.specs.Records.{Right}
use Rattle.completion.specs.Growths.{Went}
use Rattle.completion.specs.Closed.{Meant, Handed, Climbed, Followed, rules_in}
use Rattle.completion.proofs.growth.Growth.visit.Given as goal

abbrev pub invariant-loop-feature : goal.invariant-loop-feature
invariant-loop-feature l = record {
  went : Went l.fn.self l.self;
  handed : l.self.waiting.grown ≡ false → Handed l.self.parts l.part;
  climbed : l.self.waiting.grown ≡ false → Climbed l.rules l.self.parts l.part;
  followed : l.self.waiting.grown ≡ false → (f : ℕ) → f < l.feature → Followed l.rules l.self.parts l.part f;
  right : (F : List Claim) → Meant l.rules → Right (rules_in l.rules) F l.fn.self.parts → Right (rules_in l.rules) F l.self.parts;
}

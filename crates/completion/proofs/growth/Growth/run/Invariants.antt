-- What the passes keep.
use Rattle.std.proofs.Common.{◌≡◌, false, List}
use Rattle.terms.specs.Facts.{Claim}
use Rattle.completion.specs.Records.{Kept, Right}
use Rattle.completion.specs.Lines.{load}
use Rattle.completion.specs.Closed.{Meant, Settled, rules_in}
use Rattle.completion.proofs.growth.Growth.run.Given as goal

abbrev pub invariant-loop-self : goal.invariant-loop-self
invariant-loop-self l = record {
  kept : Kept l.fn.self.parts l.self.parts;
  settled : l.self.waiting.grown ≡ false → Settled l.rules l.self.parts;
  right : (F : List Claim) → Meant l.rules → Right (rules_in l.rules) F l.fn.self.parts → Right (rules_in l.rules) F l.self.parts;
}

abbrev pub decreases-loop-self : goal.decreases-loop-self
decreases-loop-self l = load l.self.parts l.self.waiting

use Rattle.std.proofs.Common.{◌≡◌, ℕ, ◌<◌, List, Some}
use Rattle.std.specs.List.{slice_get}
use Rattle.terms.specs.declared.fact.Fact.{Fact}
use Rattle.terms.specs.Worlds.{◌∈◌, Rule}
use Rattle.terms.specs.Facts.{Claim, claim_of, claims_of}
use Rattle.terms.specs.Completed.{Known}
use Rattle.theory.specs.Legal.{ClaimLegal}
use Rattle.completion.specs.Records.{Says, Right}
use Rattle.completion.specs.Growths.{Went}
use Rattle.completion.proofs.growth.Growth.tell_all.Given as goal

abbrev pub invariant-loop-place : goal.invariant-loop-place
invariant-loop-place g l = record {
  went : Went l.initial.self l.self;
  told : (k : ℕ) → k < l.place → (f : Fact) → slice_get (g.S.Store.facts l.store) k ≡ Some f → ClaimLegal (claim_of f) × Says l.self.parts (claim_of f);
  right : (R : List Rule) (F : List Claim) → ((c : Claim) → c ∈ claims_of (g.S.Store.facts l.store) → Known R F c)
      → Right R F l.initial.self.parts → Right R F l.self.parts;
}

use Rattle.stores.specs.Piles.{PileValid}
use Rattle.stores.specs.Rows.{row_facts}
use Rattle.piles.proofs.tests.additions_64_and_65.Given as goal

abbrev pub invariant-loop-class : goal.invariant-loop-class
invariant-loop-class g l = PileValid row_facts (λ _. Unit {0}) l.pile

-- What the loop keeps.
use Rattle.completion.specs.Closed.{Joins}
use Rattle.completion.proofs.growth.Growth.meet_each.Given as goal

abbrev pub invariant-loop-block : goal.invariant-loop-block
invariant-loop-block l = Joins l.row l.fn.self l.self

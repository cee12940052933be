-- What the loop keeps.
use Rattle.completion.specs.Closed.{Follows}
use Rattle.completion.proofs.growth.Growth.lift_by.Given as goal

abbrev pub invariant-loop-block : goal.invariant-loop-block
invariant-loop-block l = Follows l.rules l.fn.self l.self

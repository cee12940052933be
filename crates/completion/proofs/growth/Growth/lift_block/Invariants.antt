-- What the loop keeps.
use Rattle.completion.specs.Closed.{Follows}
use Rattle.completion.proofs.growth.Growth.lift_block.Given as goal

abbrev pub invariant-loop-place : goal.invariant-loop-place
invariant-loop-place l = Follows l.rules l.fn.self l.self

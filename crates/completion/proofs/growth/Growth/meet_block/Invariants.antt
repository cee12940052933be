-- What the loop keeps.
use Rattle.completion.specs.Closed.{Joins}
use Rattle.completion.proofs.growth.Growth.meet_block.Given as goal

abbrev pub invariant-loop-place : goal.invariant-loop-place
invariant-loop-place l = Joins l.row l.fn.self l.self

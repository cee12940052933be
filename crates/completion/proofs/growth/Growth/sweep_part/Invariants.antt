-- What the loop keeps.
use Rattle.completion.specs.Closed.{Follows}
use Rattle.completion.proofs.growth.Growth.sweep_part.Given as goal

abbrev pub invariant-loop-row : goal.invariant-loop-row
invariant-loop-row l = Follows l.rules l.fn.self l.self

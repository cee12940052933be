-- What the loop keeps.
use Rattle.completion.specs.Closed.{Follows}
use Rattle.completion.proofs.growth.Growth.lift.Given as goal

abbrev pub invariant-loop-feature : goal.invariant-loop-feature
invariant-loop-feature l = Follows l.rules l.fn.self l.self

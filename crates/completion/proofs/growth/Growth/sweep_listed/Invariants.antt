-- What the loop keeps.
use Rattle.completion.specs.Closed.{Follows}
use Rattle.completion.proofs.growth.Growth.sweep_listed.Given as goal

abbrev pub invariant-loop-p : goal.invariant-loop-p
invariant-loop-p l = Follows l.rules l.fn.self l.self

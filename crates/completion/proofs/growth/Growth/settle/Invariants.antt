-- What the loop over waiting parts keeps.
use Rattle.completion.specs.Lines.{load}
use Rattle.completion.specs.Closed.{Follows}
use Rattle.completion.proofs.growth.Growth.settle.Given as goal

abbrev pub invariant-loop-part : goal.invariant-loop-part
invariant-loop-part l = Follows l.rules l.fn.self l.self

abbrev pub decreases-loop-part : goal.decreases-loop-part
decreases-loop-part l = load l.self.parts l.self.waiting

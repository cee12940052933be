use Rattle.completion.proofs.Following.{Handing}
use Rattle.completion.proofs.growth.Growth.hand_over.Given as goal

abbrev pub invariant-loop-feature : goal.invariant-loop-feature
invariant-loop-feature l = Handing l.fn.self l.part l.feature l.self

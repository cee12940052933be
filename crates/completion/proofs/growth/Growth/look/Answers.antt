use Rattle.completion.proofs.Saying.{follows_then}
use Rattle.completion.proofs.growth.Growth.look.Goals as goal

pub returns-then-leader-part : goal.returns-then-leader-part
returns-then-leader-part c = follows_then (record { went = c.visit.ensures.went; right = c.visit.ensures.right }) c.lift.ensures

pub returns-else-leader-part : goal.returns-else-leader-part
returns-else-leader-part c = record { went = c.hand_over.ensures.went; right = λ F m t. c.hand_over.ensures.right _ F t }

use Rattle.completion.proofs.Saying.{follows_then}
use Rattle.completion.proofs.growth.Growth.lift.Goals as goal

pub loop-feature-preserved : goal.loop-feature-preserved
loop-feature-preserved c = follows_then c.loop-feature.invariant c.lift_by.ensures

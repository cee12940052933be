use Rattle.completion.proofs.Saying.{follows_then}
use Rattle.completion.proofs.growth.Growth.lift_block.Goals as goal

pub loop-place-preserved : goal.loop-place-preserved
loop-place-preserved c = follows_then c.loop-place.invariant c.lift_one.ensures

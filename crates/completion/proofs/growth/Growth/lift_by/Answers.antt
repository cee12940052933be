use Rattle.completion.proofs.Saying.{follows_then}
use Rattle.completion.proofs.growth.Growth.lift_by.Goals as goal

pub loop-block-preserved : goal.loop-block-preserved
loop-block-preserved c = follows_then c.loop-block.invariant c.lift_block.ensures

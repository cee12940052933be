use Rattle.completion.proofs.Saying.{joins_then}
use Rattle.completion.proofs.growth.Growth.meet_each.Goals as goal

pub loop-block-preserved : goal.loop-block-preserved
loop-block-preserved c = joins_then c.loop-block.invariant c.meet_block.ensures

use Rattle.completion.proofs.Saying.{joins_then}
use Rattle.completion.proofs.growth.Growth.meet_block.Goals as goal

pub loop-place-preserved : goal.loop-place-preserved
loop-place-preserved c = joins_then c.loop-place.invariant c.meet.ensures

use Rattle.completion.specs.PartSets.{block_at}
use Rattle.completion.specs.Closed.{KeyedIn}
use Rattle.completion.proofs.Going.{went_then}
use Rattle.completion.proofs.Running.{still_below}
use Rattle.completion.proofs.growth.Growth.key_each.Goals as goal

pub loop-block-preserved : goal.loop-block-preserved
loop-block-preserved c =
    let i = c.loop-block.invariant in
    let a = c.key_block.ensures in record {
      went = went_then i.went a.went;
      closed = still_below (λ b ps. KeyedIn c.args.row ps c.args.p b (block_at c.args.candidates b)) c.loop-block.block a.went i.closed (rw c.from.ensures at a.closed);
      right = λ R F k t. a.right R F k (i.right R F k t);
    }

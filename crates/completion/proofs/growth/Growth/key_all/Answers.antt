use Rattle.std.proofs.Common.{arith}
use Rattle.completion.specs.Closed.{KeyedFrom}
use Rattle.completion.proofs.Going.{went_then}
use Rattle.completion.proofs.Running.{still_below}
use Rattle.completion.proofs.growth.Growth.key_all.Goals as goal

pub loop-p-preserved : goal.loop-p-preserved
loop-p-preserved c =
    let i = c.loop-p.invariant in
    let a = c.key_from.ensures in record {
      went = went_then i.went a.went;
      closed = still_below (λ p ps. KeyedFrom c.args.row c.args.index.now ps p) c.loop-p.p a.went i.closed a.closed;
      right = λ R F k t. a.right R F k (i.right R F k t);
    }

pub returns-2-clause-closed : goal.returns-2-clause-closed
returns-2-clause-closed c e p h =
    let a = c.key_from.ensures in
    still_below (λ p ps. KeyedFrom c.args.row c.args.index.now ps p) c.loop-p.p a.went c.loop-p.invariant.closed a.closed e p (omega arith)

pub returns-2-clause-right : goal.returns-2-clause-right
returns-2-clause-right c R F k t = c.key_from.ensures.right R F k (c.loop-p.invariant.right R F k t)

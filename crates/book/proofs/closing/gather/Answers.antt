use Rattle.book.proofs.Gathering.{gather_none, gather_all}
use Rattle.book.proofs.closing.gather.Goals as goal

pub loop-class-init : goal.loop-class-init
loop-class-init c = rw c.into_iter-class-iterator.ensures.into_iter_gives (gather_none c.args.table.now c.args.set)

pub returns : goal.returns
returns c = gather_all c.args.table.now c.args.set c.loop-class.class-iterator.rest c.loop-class.all c.in-None.ensures.steps.0 c.loop-class.invariant

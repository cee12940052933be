use Rattle.std.proofs.Common.{arith}
use Rattle.book.proofs.Placing.{placed}
use Rattle.book.proofs.closing.place.Goals as goal

pub returns-clause-placed : goal.returns-clause-placed
returns-clause-placed c =
    placed c.args.within.now c.args.a c.args.set c.gather-more.result c.extend.new.within c.extend.result c.requires (omega arith)
    c.gather-more.ensures c.extend.ensures.extended

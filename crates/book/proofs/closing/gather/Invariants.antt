use Rattle.book.specs.Sealing.{Gathering}
use Rattle.book.proofs.closing.gather.Given as goal

abbrev pub invariant-loop-class : goal.invariant-loop-class
invariant-loop-class l = Gathering l.table l.fn.set l.class-iterator.rest l.all

use Rattle.std.proofs.Common.{◌≡◌, length}
use Rattle.book.specs.Sealing.{Heavier, Extending}
use Rattle.book.proofs.closing.extend.Given as goal

abbrev pub invariant-loop-class : goal.invariant-loop-class
invariant-loop-class l = record {
  long : length l.within ≡ 64;
  extending : Extending l.initial.within l.a l.more l.class l.within l.grown;
  heavier : Heavier l.initial.within l.grown l.within;
}

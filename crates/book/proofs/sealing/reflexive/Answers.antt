use Rattle.std.proofs.Common.{arith}
use Rattle.book.proofs.Linking.{at_none}
use Rattle.book.proofs.sealing.reflexive.Goals as goal

pub loop-class-init : goal.loop-class-init
loop-class-init c = record {
  long = omega arith;
  alone = λ A B. ((λ h. absurd (at_none 64 A B h)), (λ p. let z = p.1 in absurd (omega arith)));
}

-- What a set has without the classes of another.
use Rattle.std.proofs.Common.{arith}
use Rattle.classes.specs.Sets.{has}
use Rattle.classes.proofs.Digits.{bit_without}
use Rattle.classes.proofs.ClassSet.minus.Goals as goal

pub returns : goal.returns
unfolding has
returns c = λ k. bit_without c.args.self.bits c.args.other.bits k (omega arith) (omega arith)

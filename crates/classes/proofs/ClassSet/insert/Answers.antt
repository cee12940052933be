-- What a set has once a class below 64 joined it.
use Rattle.std.proofs.Common.{◌^◌, ◌||◌, ap, ◌∙◌, arith}
use lib.Bits.{bit_or}
use Rattle.std.proofs.lemmas.Nat.{one_shl}
use Rattle.classes.specs.Sets.{has}
use Rattle.classes.proofs.Digits.{bit, bit_of_or, bit_power, below_one}
use Rattle.classes.proofs.ClassSet.insert.Goals as goal

pub returns-then-class-lt64 : goal.returns-then-class-lt64
unfolding has
returns-then-class-lt64 c = λ k.
    let s = c.args.self.now.bits in
    let n = c.args.class in
    ap (λ m. bit (bit_or s m) k) (one_shl n 64 (omega arith)) ∙ bit_of_or s (2 ^ n) k
    ∙ ap (λ b. bit s k || b) (bit_power n k ∙ below_one k n 64 (omega arith))

-- The answer of `has` below 64, and past it.
use Rattle.std.proofs.Common.{◌/◌, ◌^◌, eqb, sym, ap, ◌∙◌, arith}
use lib.Bits.{and_mask}
use Rattle.std.proofs.lemmas.Bool.{le-ltb}
use Rattle.classes.specs.Sets.{has}
use Rattle.classes.proofs.Members.{has_past}
use Rattle.classes.proofs.ClassSet.has.Goals as goal

pub returns-then-class-lt64 : goal.returns-then-class-lt64
unfolding has
returns-then-class-lt64 c = ap (λ n. eqb n 1) (and_mask (c.args.self.bits / 2 ^ c.args.class) 1)

pub returns-else-class-lt64 : goal.returns-else-class-lt64
returns-else-class-lt64 c =
    le-ltb c.args.class 64 (omega arith) ∙ sym (has_past c.args.self c.args.class (omega arith) (omega arith))

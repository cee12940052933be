use Rattle.std.proofs.Common.{refl}
use mathlib.Core.List.Memᴰ
use Rattle.terms.specs.Steps.{itself, by_rule, pulled, by_value, widened}
use Rattle.terms.proofs.example.example.Goals as goal

pub returns-clause-implied : goal.returns-clause-implied
returns-clause-implied c =
    rw c.plain_row.ensures (rw c.plain_row-2.ensures (rw c.plain_row-3.ensures
    (pulled (widened itself (by_value (Memᴰ.head refl)) (by_rule (Memᴰ.tail (Memᴰ.head refl))))
    (Memᴰ.tail (Memᴰ.tail (Memᴰ.head refl))))))

-- Kinds of rows and facts: the number of each, and how many features a row of a kind has in use.
use Rattle.std.specs.Prelude.{ℕ, Bool, cond, ◌&&◌, Ok, Err, Result, ◌==◌, nat_le}
use Rattle.terms.specs.declared.refusal.Refusal.{Refusal}
use Rattle.terms.specs.declared.refusal.Refusal.TheVariants.{UnknownKind}
use Rattle.terms.specs.declared.kind.RowKind.{RowKind}
use Rattle.terms.specs.declared.kind.RowKind.TheVariants.{Subclass, Exclusion, Value, Pullback, Key}
use Rattle.terms.specs.declared.kind.FactKind.{FactKind}
use Rattle.terms.specs.declared.kind.FactKind.TheVariants.{InClass, ValueAt, OneObject}

-- the number of each kind of row
abbrev pub row_number : RowKind → ℕ
row_number Subclass = 1
row_number Exclusion = 2
row_number Value = 3
row_number Pullback = 4
row_number Key = 5

-- the number of each kind of fact
abbrev pub fact_number : FactKind → ℕ
fact_number InClass = 1
fact_number ValueAt = 2
fact_number OneObject = 3

-- the kind of row that has the number, if one has
abbrev pub row_kind : ℕ → Result RowKind Refusal
row_kind n =
    cond (n == row_number Subclass) (Ok Subclass)
    (cond (n == row_number Exclusion) (Ok Exclusion)
    (cond (n == row_number Value) (Ok Value)
    (cond (n == row_number Pullback) (Ok Pullback)
    (cond (n == row_number Key) (Ok Key) (Err UnknownKind)))))

-- the kind of fact that has the number, if one has
abbrev pub fact_kind : ℕ → Result FactKind Refusal
fact_kind n =
    cond (n == fact_number InClass) (Ok InClass)
    (cond (n == fact_number ValueAt) (Ok ValueAt)
    (cond (n == fact_number OneObject) (Ok OneObject) (Err UnknownKind)))

-- how many features a row of the kind may have in use
abbrev pub fits_kind : RowKind → ℕ → Bool
fits_kind Subclass n = n == 0
fits_kind Exclusion n = n == 0
fits_kind Value n = n == 1
fits_kind Pullback n = n == 1
fits_kind Key n = nat_le 1 n && nat_le n 4

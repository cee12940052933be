-- Tables of rows: the facts and free places of a table whose first rows are in use, and the states that it can be in.
use Rattle.std.specs.Prelude.{ℕ, ◌-◌, ◌≤◌, min, List, length, take}
use Rattle.terms.specs.declared.fact.Fact.{Fact}
use Rattle.stores.specs.Meaning.{Meaning}

-- the rows in use, from the first on
abbrev pub table_facts : List Fact → ℕ → List Fact
table_facts rows used = take used rows

-- one free place a row that is not in use, up to 65,536 rows
abbrev pub table_room : List Fact → ℕ → ℕ
table_room rows used = min (length rows) 65536 - used

-- the states of a row store: its rows, and how many are in use
pub record RowsValid (rows : List Fact) (used : ℕ) : Type 0 where
  pub within : used ≤ length rows
  pub means : Meaning (table_facts rows used) (table_room rows used)

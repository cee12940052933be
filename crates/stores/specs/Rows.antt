-- The row store: the facts and free places of its table of rows.
use Rattle.std.specs.Prelude.{ℕ, List}
use Rattle.terms.specs.declared.fact.Fact.{Fact}
use Rattle.stores.specs.declared.row.RowStore.{RowStore}
use Rattle.stores.specs.Tables.{table_facts, table_room}

-- the rows in use, from the first on
abbrev pub row_facts : RowStore → List Fact
row_facts s = table_facts s.rows.now s.used

-- one free place a row that is not in use, up to 65,536 rows
abbrev pub row_room : RowStore → ℕ
row_room s = table_room s.rows.now s.used

-- Sealed books: their rows, and what reading a class step answers.
use Rattle.std.specs.Prelude.{ℕ, cond, ◌&&◌, List, nat_lt}
use Rattle.classes.specs.declared.ClassSet.{ClassSet}
use Rattle.classes.specs.Sets.{none}
use Rattle.terms.specs.declared.row.Row.{Row}
use Rattle.book.specs.Tables.{set_at, table_at}
use Rattle.book.specs.declared.sealed.Book.{Book}
use Rattle.book.specs.declared.sealing.StepTables.{StepTables}

abbrev pub rows_of : Book → List Row
rows_of b = b.rows.items

-- the tables of its class steps
abbrev pub steps_of : Book → StepTables
steps_of b = b.tables

-- the set of classes that class A lies within
abbrev pub within_set : Book → ℕ → ClassSet
within_set b A = cond (nat_lt A 64) (set_at b.tables.within A) none

-- the set of classes that class A leads to by feature f
abbrev pub leads_set : Book → ℕ → ℕ → ClassSet
leads_set b A f = cond (nat_lt A 64 && nat_lt f 16) (set_at (table_at b.tables.leads f) A) none

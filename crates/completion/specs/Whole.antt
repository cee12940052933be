-- The completed facts, as records of parts.
use Rattle.std.specs.Prelude.{ℕ, List, Some, None, Option}
use Rattle.std.proofs.Math.Option.{none, some}
use Rattle.terms.specs.Worlds.{rules_of}
use Rattle.terms.specs.Facts.{Claim}
use Rattle.classes.specs.Sets.{has}
use Rattle.theory.specs.Tables.{Tables, Exact, extended}
use Rattle.book.specs.declared.sealed.Book.{Book}
use Rattle.book.specs.declared.sealing.StepTables.{StepTables}
use Rattle.book.specs.Tables.{set_at, table_at}
use Rattle.book.specs.Books.{rows_of, steps_of}
use Rattle.completion.specs.declared.record.PartRecord.{PartRecord}
use Rattle.completion.specs.Records.{part_at, leader_of, value_by}

-- a value, or none
abbrev pub option : Option ℕ → Rattle.std.proofs.Math.Option.Option ℕ
option None = none
option (Some v) = some v

-- the tables that the records of parts and the tables of class steps are
abbrev pub tables_of : List PartRecord → StepTables → Tables
tables_of ps s = extended (record {
  has = λ p A. has (part_at ps p).classes A;
  leader = λ p. leader_of ps p;
  value_of = λ p f. option (value_by (part_at ps p) f);
  leads = λ A f B. has (set_at (table_at s.leads f) A) B;
})

-- the records hold exactly the completed facts of the book's rules and the claims
abbrev pub Complete : Book → List Claim → List PartRecord → Type 0
Complete b F ps = ∥ Exact (rules_of (rows_of b)) F (tables_of ps (steps_of b)) ∥₁

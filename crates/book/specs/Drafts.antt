-- Drafts: the rows taken, and what the call rule answers.
use Rattle.std.specs.Prelude.{◌≡◌, ℕ, ◌<◌, true, ◌↔◌, List, [], ◌∷◌, ◌++◌, length, Ok, Err, Result, nat_lt}
use Rattle.terms.specs.declared.row.Row.{Row}
use Rattle.terms.specs.declared.refusal.Refusal.{Refusal}
use Rattle.terms.specs.Refusals.{Question, ask, numbered, FirstNo}
use Rattle.terms.specs.Rows.{row_questions, lawful}
use Rattle.book.specs.declared.draft.Draft.{Draft}

-- the rows that the draft has taken
abbrev pub listed : Draft → List Row
listed d = d.rows.items

-- the questions of rule, in their order: those of the row, then whether a row is free
abbrev pub rule_questions : List Row → Row → List Question
rule_questions rows row = row_questions row ++ (ask 5 (nat_lt (length rows) 256) ∷ [])

-- the rows after rule has answered: a row that was taken stands at the end
abbrev pub grown : Result ℕ Refusal → List Row → Row → List Row
grown (Ok n) rows row = rows ++ row ∷ []
grown (Err e) rows row = rows

-- the law of rule: a row is taken exactly when it is lawful and a row is free, and is refused with n
-- exactly when the question of that number has no and every earlier one has yes
pub record RuleLaw (rows : List Row) (row : Row) (r : Result ℕ Refusal) : Type 0 where
  pub taken : (r ≡ Ok (length rows)) ↔ ((lawful row ≡ true) × (length rows < 256))
  pub refused : (n : ℕ) → (numbered r ≡ Err n) ↔ FirstNo (rule_questions rows row) n

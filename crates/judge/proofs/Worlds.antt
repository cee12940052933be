-- What was found, in the words of worlds.
use Rattle.std.proofs.Common.{◌≡◌, ◌↔◌, List, refl, sym, subst}
use mathlib.Core.Logic.{∥∥₁_elim, ∥∥₁_prop}
use mathlib.Core.HLevel.{⊥_prop}
use Rattle.terms.specs.declared.fact.Fact.{Fact}
use Rattle.terms.specs.Worlds.{World, rules_of}
use Rattle.terms.specs.Facts.{KeepsBook, claims_of}
use Rattle.theory.specs.Tables.{Exact}
use Rattle.theory.specs.Theorems.{Answers}
use Rattle.theory.proofs.Follow.{tables_answer}
use Rattle.book.specs.declared.sealed.Book.{Book}
use Rattle.book.specs.declared.sealing.StepTables.{StepTables}
use Rattle.book.specs.Books.{rows_of}
use Rattle.book.proofs.Legal.{rules_legal}
use Rattle.completion.specs.Whole.{tables_of}
use Rattle.judge.specs.declared.verdict.Verdict.{Verdict}
use Rattle.judge.specs.declared.verdict.Verdict.TheVariants.{Stands, Clash}
use Rattle.judge.specs.declared.sheet.Judgement.{Judgement}
use Rattle.judge.specs.Verdicts.{saying}
use Rattle.judge.specs.Sheets.{tables, word_of}
use Rattle.judge.specs.Judging.{Found}

module _ (b : Book) (facts : List Fact) (v : Verdict) (j : Judgement) (k : Found b facts v j) where
  -- what the tables that were found answer
  pub known : (P : Type 0) → IsProp P → (Answers (rules_of (rows_of b)) (claims_of facts) (tables j) → P) → P
  known P p n =
      ∥∥₁_elim k.exact p (λ x.
      n (tables_answer (rules_legal (rows_of b) b.lawful) (subst (λ (z : StepTables). Exact (rules_of (rows_of b)) (claims_of facts) (tables_of j.parts z)) (sym k.steps) x)))

  -- the verdict is stands exactly when some world keeps the book
  pub verdict_right : (v ≡ Stands) ↔ ∥ ((W : World) × KeepsBook (rules_of (rows_of b)) (claims_of facts) W) ∥₁
  verdict_right = by v k.says
    where
      by : (u : Verdict) → (saying u).says (rules_of (rows_of b)) (claims_of facts) (word_of j) → (u ≡ Stands) ↔ ∥ ((W : World) × KeepsBook (rules_of (rows_of b)) (claims_of facts) W) ∥₁
      by Stands h = (λ e. known _ ∥∥₁_prop (λ a. a.stands.0 h), λ w. refl)
      by (Clash c) h = (λ e. cc, λ w. absurd (known ⊥ ⊥_prop (λ a. a.stands.1 w c.part (word_of j) c.row h.clash)))

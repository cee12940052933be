-- Judging: what it asks, and what the sheet holds when it has answered.
use Rattle.std.specs.Prelude.{◌≡◌, ℕ, ◌&&◌, List, [], ◌∷◌, length, IfOk, OnErr, Result, Some, nat_le}
use Rattle.terms.specs.declared.fact.Fact.{Fact}
use Rattle.terms.specs.declared.refusal.Refusal.{Refusal}
use Rattle.terms.specs.Refusals.{Question, ask, asked, done}
use Rattle.terms.specs.Worlds.{rules_of}
use Rattle.terms.specs.Facts.{claims_of}
use Rattle.book.specs.declared.sealed.Book.{Book}
use Rattle.book.specs.Books.{rows_of, steps_of}
use Rattle.completion.specs.Whole.{Complete}
use Rattle.judge.specs.declared.verdict.Verdict.{Verdict}
use Rattle.judge.specs.declared.sheet.Judgement.{Judgement}
use Rattle.judge.specs.declared.sheet.Sheet.{Sheet}
use Rattle.judge.specs.Verdicts.{saying}
use Rattle.judge.specs.Sheets.{word_of}

-- 7: do the work areas hold 4,096 pairs and 256 part numbers?
abbrev pub judge_questions : ℕ → ℕ → List Question
judge_questions pairs parts = ask 7 (nat_le 4096 pairs && nat_le 256 parts) ∷ []

-- what is found of the book with the facts: exactly the completed facts, the rows and facts counted, and the verdict, which
-- says the truth with its word
pub record Found (b : Book) (facts : List Fact) (v : Verdict) (j : Judgement) : Type 0 where
  pub steps : j.steps ≡ steps_of b
  pub rows : j.rows ≡ length (rows_of b)
  pub read : j.facts ≡ length facts
  pub exact : Complete b (claims_of facts) j.parts
  pub verdict : j.verdict ≡ v
  pub word : length (word_of j) ≡ (saying v).size
  pub says : (saying v).says (rules_of (rows_of b)) (claims_of facts) (word_of j)

abbrev pub Judged : Book → List Fact → Verdict → Sheet → Type 0
Judged b facts v s = (j : Judgement) × (s.judgement ≡ Some j) × Found b facts v j

-- refused exactly when the work areas are too small, and the sheet stays then; else the sheet holds what was found
pub record Judges (b : Book) (facts : List Fact) (s : Sheet) (pairs parts : ℕ) (r : Result Verdict Refusal) (t : Sheet) : Type 0 where
  pub answer : done r ≡ asked (judge_questions pairs parts) tt
  pub judged : IfOk r (λ v. Judged b facts v t)
  pub unchanged : OnErr r (t ≡ s)

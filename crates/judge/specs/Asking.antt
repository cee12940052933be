-- What the questions on a sheet answer.
use Rattle.std.specs.Prelude.{◌≡◌, ℕ, Bool, List, Result}
use Rattle.terms.specs.declared.refusal.Refusal.{Refusal}
use Rattle.terms.specs.Refusals.{asked, numbered}
use Rattle.judge.specs.declared.sheet.Sheet.{Sheet}
use Rattle.judge.specs.Sheets.{member_on, member_questions, same_on, same_questions, word_on, word_questions}
use Rattle.judge.specs.Texts.{Writes}

-- is the object that the word reaches from the part in the class?
abbrev pub MemberSays : Sheet → ℕ → List ℕ → ℕ → Result Bool Refusal → Type 0
MemberSays s p w A r = numbered r ≡ asked (member_questions s w A) (member_on s p w A)

-- are the two parts one object?
abbrev pub SameSays : Sheet → ℕ → ℕ → Result Bool Refusal → Type 0
SameSays s p q r = numbered r ≡ asked (same_questions s) (same_on s p q)

-- the letters of the clash are written from the place on
abbrev pub WordSays : Sheet → ℕ → List ℕ → List ℕ → Result ℕ Refusal → Type 0
WordSays s place old new r = Writes (word_questions s) (word_on s) place old new r

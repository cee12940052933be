-- Sheets: what they hold, and what the questions on them ask.
use Rattle.std.specs.Prelude.{◌≡◌, ◌⊎◌, ℕ, Bool, true, false, List, [], ◌∷◌, Some, None, Ok, Err, Result, nat_lt, ◌==◌}
use denote.Bor.{Bor}
use Rattle.terms.specs.declared.refusal.Refusal.{Refusal}
use Rattle.terms.specs.declared.refusal.Refusal.TheVariants.{NotJudged, NotStanding, NotClashing}
use Rattle.terms.specs.Refusals.{Question, ask}
use Rattle.classes.specs.Sets.{has}
use Rattle.theory.specs.Tables.{Tables, follow, member, steps}
use Rattle.completion.specs.Records.{leader_of}
use Rattle.completion.specs.Whole.{tables_of}
use Rattle.judge.specs.declared.verdict.Verdict.{Verdict}
use Rattle.judge.specs.declared.verdict.Verdict.TheVariants.{Stands, Clash}
use Rattle.judge.specs.declared.sheet.Judgement.{Judgement}
use Rattle.judge.specs.declared.sheet.Sheet.{Sheet}
use Rattle.judge.specs.declared.reach.Reached.{Reached}
use Rattle.judge.specs.declared.reach.Reached.TheVariants.{Part, Unnamed}
use Rattle.judge.specs.Verdicts.{report_text, word, low}

-- the completed facts and class steps that were found
abbrev pub tables : Judgement → Tables
tables j = tables_of j.parts j.steps

-- is what the word reaches from here in the class?
abbrev pub along : Judgement → Reached → List ℕ → ℕ → Bool
along j (Part p) w A = follow (tables j) p w A
along j (Unnamed s) w A = steps (tables j) (has s) w A

-- the letters of the clash, and the lines of the report
abbrev pub word_of : Judgement → List ℕ
word_of j = word j.verdict j.letters

abbrev pub report_of : Judgement → List ℕ
report_of j = report_text j.rows j.facts j.verdict (word_of j)

-- 8: has the sheet been judged? 9: was it found that the book stands? 10: was a clash found?
abbrev pub is_judged : Sheet → Bool
is_judged s = elim s.judgement [ Some j ↦ true | None ↦ false ]

abbrev pub is_standing : Verdict → Bool
is_standing Stands = true
is_standing (Clash k) = false

abbrev pub is_clashing : Verdict → Bool
is_clashing Stands = false
is_clashing (Clash k) = true

abbrev pub on_verdict : (Verdict → Bool) → Sheet → Bool
on_verdict p s = elim s.judgement [ Some j ↦ p j.verdict | None ↦ false ]

-- the questions of each call on a sheet, in their order
abbrev pub same_questions : Sheet → List Question
same_questions s = ask 8 (is_judged s) ∷ ask 9 (on_verdict is_standing s) ∷ []

abbrev pub member_questions : Sheet → List ℕ → ℕ → List Question
member_questions s w A = ask 8 (is_judged s) ∷ ask 9 (on_verdict is_standing s) ∷ ask 2 (nat_lt A 64) ∷ ask 3 (low w) ∷ []

abbrev pub word_questions : Sheet → List Question
word_questions s = ask 8 (is_judged s) ∷ ask 10 (on_verdict is_clashing s) ∷ []

abbrev pub report_questions : Sheet → List Question
report_questions s = ask 8 (is_judged s) ∷ []

-- what the sheet answers where it is judged; a sheet that is not has nothing to answer
abbrev pub member_on : Sheet → ℕ → List ℕ → ℕ → Bool
member_on s p w A = elim s.judgement [ Some j ↦ member (tables j) p w A | None ↦ false ]

abbrev pub same_on : Sheet → ℕ → ℕ → Bool
same_on s p q = elim s.judgement [ Some j ↦ leader_of j.parts p == leader_of j.parts q | None ↦ false ]

abbrev pub word_on : Sheet → List ℕ
word_on s = elim s.judgement [ Some j ↦ word_of j | None ↦ [] ]

abbrev pub report_on : Sheet → List ℕ
report_on s = elim s.judgement [ Some j ↦ report_of j | None ↦ [] ]

-- what was found on the sheet, or that it is not judged; the same where the verdict passes a test, else with a refusal
abbrev pub judged : Sheet → Result (Bor Judgement) Refusal → Type 0
judged s (Ok j) = s.judgement ≡ Some j.now
judged s (Err e) = (s.judgement ≡ None) × (e ≡ NotJudged)

abbrev pub standing : Sheet → Result (Bor Judgement) Refusal → Type 0
standing s (Ok j) = (s.judgement ≡ Some j.now) × (is_standing j.now.verdict ≡ true)
standing s (Err e) = ((s.judgement ≡ None) × (e ≡ NotJudged)) ⊎ ((is_judged s ≡ true) × (on_verdict is_standing s ≡ false) × (e ≡ NotStanding))

abbrev pub clashing : Judgement → Result (Bor (List ℕ)) Refusal → Type 0
clashing j (Ok letters) = (is_clashing j.verdict ≡ true) × (letters.now ≡ word_of j)
clashing j (Err e) = (is_clashing j.verdict ≡ false) × (e ≡ NotClashing)

-- What the answers on a judged sheet say of worlds.
use Rattle.std.proofs.Common.{◌≡◌, ℕ, ◌<◌, Bool, true, eqb, ltb, ◌↔◌, List, [], ◌∷◌, ◌++◌, length, Ok, Result, sym, refl, ap, ◌∙◌, subst}
use mathlib.Core.Bool.{Bool-set}
use Rattle.std.proofs.lemmas.Bool.{eqb-true, eq-eqb, lt-ltb, cond-true}
use Rattle.terms.specs.declared.fact.Fact.{Fact}
use Rattle.terms.specs.Refusals.{Question, ask, asked, AllYes}
use Rattle.terms.proofs.Asking.{answers, own_value}
use Rattle.terms.specs.Worlds.{rules_of}
use Rattle.terms.specs.Facts.{claims_of}
use Rattle.terms.specs.Verdicts as verdicts
use Rattle.terms.specs.Verdicts.{CertainMember, CertainSame}
use Rattle.theory.specs.Tables.{extended, member}
use Rattle.theory.proofs.Merely.{obj_set}
use Rattle.book.specs.declared.sealed.Book.{Book}
use Rattle.book.specs.Books.{rows_of}
use Rattle.book.specs.declared.sealing.StepTables.{StepTables}
use Rattle.completion.specs.declared.record.PartRecord.{PartRecord}
use Rattle.completion.specs.Records.{leader_of}
use Rattle.completion.specs.Whole.{tables_of}
use Rattle.search.specs.declared.Found.{Found}
use Rattle.judge.specs.declared.verdict.Verdict.{Verdict}
use Rattle.judge.specs.declared.verdict.Verdict.TheVariants.{Stands, Clash}
use Rattle.judge.specs.declared.sheet.Sheet.{Sheet}
use Rattle.judge.specs.Verdicts.{saying}
use Rattle.judge.specs.Sheets.{tables, word_of, is_judged, is_standing, is_clashing, on_verdict, member_questions, member_on, same_questions, same_on, word_questions, word_on}
use Rattle.judge.specs.Texts.{placed, fits}
use Rattle.judge.specs.Judging.{Judged}
use Rattle.judge.proofs.Worlds.{known}
use Rattle.judge.specs.Asking.{MemberSays, SameSays, WordSays}

-- a call that is done had yes to every question, and answers what it is said to
pub done_yes : {A : Type 0} (qs : List Question) (x y : A) → ◌≡◌ {A = Result A ℕ} (Ok y) (asked qs x) → AllYes qs × (y ≡ x)
done_yes qs x y e =
    let o = own_value qs x y (sym e) in
    ((answers x qs (asked qs x) refl).accepted.0 o, cc)

stands_is : (v : Verdict) → is_standing v ≡ true → v ≡ Stands
stands_is Stands h = refl
stands_is (Clash k) h = cc

clash_is : (v : Verdict) → is_clashing v ≡ true → (k : Found) × (v ≡ Clash k)
clash_is Stands h = cc
clash_is (Clash k) h = (k, refl)

-- a sheet on which a question is answered is judged
pub member_judged : (s : Sheet) (p : ℕ) (w : List ℕ) (A : ℕ) (y : Bool) → MemberSays s p w A (Ok y) → is_judged s ≡ true
member_judged s p w A y h = (done_yes (member_questions s w A) (member_on s p w A) y h).0.0

pub same_judged : (s : Sheet) (p q : ℕ) (y : Bool) → SameSays s p q (Ok y) → is_judged s ≡ true
same_judged s p q y h = (done_yes (same_questions s) (same_on s p q) y h).0.0

pub word_judged : (s : Sheet) (place : ℕ) (old new : List ℕ) (n : ℕ) → WordSays s place old new (Ok n) → is_judged s ≡ true
word_judged s place old new n h = (done_yes (word_questions s ++ (ask 11 (fits old place (word_on s)) ∷ [])) (length (word_on s)) n h.answer).0.0

-- leaders below the limits are those of the tables
leader_low : (parts : List PartRecord) (steps : StepTables) (p : ℕ) → p < 256 → (tables_of parts steps).leader p ≡ leader_of parts p
unfolding extended
leader_low parts steps p h = cond-true (ltb p 256) (leader_of parts p) p (lt-ltb p 256 h)

-- the sheet holds what the judging of the facts found, the verdict v
module _ (b : Book) (facts : List Fact) (v : Verdict) (s : Sheet) (k : Judged b facts v s) where
  -- a verdict that says that the book stands
  found_standing : on_verdict is_standing s ≡ true → (v ≡ Stands) × verdicts.Stands (rules_of (rows_of b)) (claims_of facts)
  found_standing h =
      let e = stands_is v (sym (ap is_standing k.2.verdict) ∙ rw k.1 at h) in
      (e, subst (λ (u : Verdict). (saying u).says (rules_of (rows_of b)) (claims_of facts) (word_of k.0)) e k.2.says)

  pub member_right : (p : ℕ) (w : List ℕ) (A : ℕ) (y : Bool) → MemberSays s p w A (Ok y) → (v ≡ Stands) × ((y ≡ true) ↔ CertainMember (rules_of (rows_of b)) (claims_of facts) p w A)
  member_right p w A y h =
      let d = done_yes (member_questions s w A) (member_on s p w A) y h in
      let f = found_standing d.0.1.0 in
      let q : y ≡ member (tables k.0) p w A = rw k.1 at d.1 in
      (f.0, known b facts v k.0 k.2 _ (hlevel Bool-set) (λ a. let m = a.member_is f.1 p w A in (λ z. m.0 (sym q ∙ z), λ z. q ∙ m.1 z)))

  pub same_right : (p q : ℕ) (y : Bool) → p < 256 → q < 256 → SameSays s p q (Ok y) → (v ≡ Stands) × ((y ≡ true) ↔ CertainSame (rules_of (rows_of b)) (claims_of facts) p q)
  same_right p q y l l' h =
      let d = done_yes (same_questions s) (same_on s p q) y h in
      let f = found_standing d.0.1.0 in
      let i : y ≡ eqb (leader_of k.0.parts p) (leader_of k.0.parts q) = rw k.1 at d.1 in
      let a = leader_low k.0.parts k.0.steps p l in
      let c = leader_low k.0.parts k.0.steps q l' in (
        f.0,
        known b facts v k.0 k.2 _ (hlevel (Bool-set, obj_set)) (λ n. let m = n.same_is f.1 p q in
            (λ z. m.0 (a ∙ eqb-true _ _ (sym i ∙ z) ∙ sym c), λ z. i ∙ eq-eqb _ _ (sym a ∙ m.1 z ∙ c))),
      )

  -- a word call that is done writes the word of the clash
  pub word_right : (place : ℕ) (old new : List ℕ) (n : ℕ) → WordSays s place old new (Ok n) → ((c : Found) × (v ≡ Clash c)) × (new ≡ placed old place (word_of k.0)) × (n ≡ (saying v).size)
  word_right place old new n h =
      let d = done_yes (word_questions s ++ (ask 11 (fits old place (word_on s)) ∷ [])) (length (word_on s)) n h.answer in
      let e : on_verdict is_clashing s ≡ true = d.0.1.0 in
      (clash_is v (sym (ap is_clashing k.2.verdict) ∙ rw k.1 at e), rw k.1 at h.written, (rw k.1 at d.1) ∙ k.2.word)

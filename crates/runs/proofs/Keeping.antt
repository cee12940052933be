-- Every run from a new sheet keeps the law.
use Rattle.std.proofs.Common.{◌≡◌, ℕ, true, false, ◌⊎◌, List, ◌∷◌, ◌++◌, None, Ok, sym, refl, subst, inl, inr}
use Rattle.terms.specs.declared.fact.Fact.{Fact}
use Rattle.terms.specs.Worlds.{◌∈◌}
use Rattle.stores.specs.declared.told.Told.{Told}
use Rattle.book.specs.declared.sealed.Book.{Book}
use Rattle.search.specs.declared.Found.{Found}
use Rattle.judge.specs.declared.verdict.Verdict.{Verdict}
use Rattle.judge.specs.declared.verdict.Verdict.TheVariants.{Clash}
use Rattle.judge.specs.declared.sheet.Sheet.{Sheet}
use Rattle.judge.specs.Sheets.{is_judged, word_of}
use Rattle.judge.specs.Judging.{Judged}
use Rattle.judge.specs.Texts.{placed}
use Rattle.judge.specs.Asking.{WordSays}
use Rattle.judge.proofs.Worlds.{verdict_right}
use Rattle.runs.specs.Events.{Event, tell, judge, member, same, word, held_after, held, Quiet}
use Rattle.runs.specs.Law.{LastJudged}
use Rattle.runs.specs.Runs.{Run, RunsKeepTheLaw}
use Rattle.runs.proofs.Asking.{member_right, member_judged, same_right, same_judged, word_right, word_judged}
use Rattle.runs.proofs.Along.{CallMade, LastFound, call_made, last_found, step_held, run_held, run_quiet}
use Rattle.runs.proofs.Telling.{told_held, held_on, held_append}

module _ {X : Type 0} (facts : X → List Fact) (room : X → ℕ) (b : Book) {x y : X} {s t : Sheet} {calls : List Event} (r : Run facts room b x s calls y t) where
  -- a judging that was not refused, and what its sheet holds
  pub record Judging (before : List Event) (rest : List Event) (v : Verdict) : Type 0 where
    pub state : X
    pub sheet : Sheet
    pub judged : Judged b (held (facts x) before) v sheet
    pub back : Run facts room b state sheet rest y t

  judging : (before rest : List Event) (m n : ℕ) (v : Verdict) → calls ≡ before ++ (judge m n (Ok v) ∷ rest) → Judging before rest v
  judging before rest m n v p =
      let c = call_made facts room b before rest (judge m n (Ok v)) r p in
      record {
        state = c.next_state;
        sheet = c.next_sheet;
        judged = subst (λ (fs : List Fact). Judged b fs v c.next_sheet) (run_held facts room b c.front) c.step.0.judged;
        back = c.back;
      }

  -- from a new sheet a question is answered only after a judging that was not refused
  answered : {earlier rest : List Event} {e : Event} → s.judgement ≡ None → (c : CallMade facts room b x s earlier e rest y t) → is_judged c.sheet ≡ true → LastFound facts room b (facts x) earlier c.sheet
  answered {earlier} new c h = by (last_found facts room b c.front)
    where
      by : (Quiet earlier × (c.sheet ≡ s)) ⊎ LastFound facts room b (facts x) earlier c.sheet → LastFound facts room b (facts x) earlier c.sheet
      by (inl q) = let none : is_judged s ≡ true = rw q.1 at h in let z : is_judged s ≡ false = rw new refl in cc
      by (inr f) = f

  -- a word call after a judging and quiet calls writes the word of that sheet
  written : {before rest : List Event} {k : Found} (j : Judging before rest (Clash k)) (since after : List Event) (place : ℕ) (old new : List ℕ) (c : ℕ) → rest ≡ since ++ (word place old new (Ok c) ∷ after) → Quiet since
      → (new ≡ placed old place (word_of j.judged.0)) × (c ≡ k.length)
  written {before} {rest} {k} j since after place old new c p q =
      let d = call_made facts room b since after (word place old new (Ok c)) j.back p in
      let same = run_quiet facts room b q d.front in
      let w = word_right b (held (facts x) before) (Clash k) j.sheet j.judged place old new c (subst (λ (z : Sheet). WordSays z place old new (Ok c)) same d.step.0) in
      (w.1, w.2)

  -- a fact that was accepted is held from then on
  accepted : (earlier since rest : List Event) (f : Fact) (a : Told) → calls ≡ earlier ++ (tell f (Ok a) ∷ (since ++ rest)) → f ∈ held (facts x) (earlier ++ (tell f (Ok a) ∷ since))
  accepted earlier since rest f a p =
      let c = call_made facts room b earlier (since ++ rest) (tell f (Ok a)) r p in
      let m = told_held (facts c.state) (facts c.next_state) (room c.state) (room c.next_state) f a c.step.0 in
      let h = step_held facts room b c.state c.next_state c.sheet c.next_sheet (tell f (Ok a)) c.step in
      let k = subst (λ (fs : List Fact). f ∈ held_after fs (tell f (Ok a))) (run_held facts room b c.front) (subst (λ (fs : List Fact). f ∈ fs) h m) in
      subst (λ (fs : List Fact). f ∈ fs) (sym (held_append (facts x) earlier (tell f (Ok a) ∷ since))) (held_on (held_after (held (facts x) earlier) (tell f (Ok a))) since f k)

pub runs_keep_the_law : {X : Type 0} (facts : X → List Fact) (room : X → ℕ) (b : Book) → RunsKeepTheLaw facts room b
runs_keep_the_law facts room b x y s t calls new r = record {
  accepted = accepted facts room b r;
  judged = λ before rest m n v p.
      let j = judging facts room b r before rest m n v p in
      verdict_right b (held (facts x) before) v j.judged.0 j.judged.2;
  member_asked = λ earlier rest p w A a q.
      let c = call_made facts room b earlier rest (member p w A (Ok a)) r q in
      let f = answered facts room b r new c (member_judged c.sheet p w A a c.step.0) in
      let m = member_right b (held (facts x) f.before) f.verdict c.sheet f.judged p w A a c.step.0 in
      (f.before, subst (λ (v : Verdict). LastJudged f.before v earlier) m.0 f.last, m.1);
  same_asked = λ earlier rest p p' a l l' q.
      let c = call_made facts room b earlier rest (same p p' (Ok a)) r q in
      let f = answered facts room b r new c (same_judged c.sheet p p' a c.step.0) in
      let m = same_right b (held (facts x) f.before) f.verdict c.sheet f.judged p p' a l l' c.step.0 in
      (f.before, subst (λ (v : Verdict). LastJudged f.before v earlier) m.0 f.last, m.1);
  clash = λ before rest m n k p.
      let j = judging facts room b r before rest m n (Clash k) p in
      (word_of j.judged.0, j.judged.2.word, j.judged.2.says, written facts room b r j);
  word_asked = λ earlier rest place old after c q.
      let d = call_made facts room b earlier rest (word place old after (Ok c)) r q in
      let f = answered facts room b r new d (word_judged d.sheet place old after c d.step.0) in
      let m = word_right b (held (facts x) f.before) f.verdict d.sheet f.judged place old after c d.step.0 in
      (f.before, m.0.0, subst (λ (v : Verdict). LastJudged f.before v earlier) m.0.1 f.last);
}

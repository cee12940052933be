-- The store's list and the sheet along a run.
use Rattle.std.proofs.Common.{◌≡◌, ℕ, ◌⊎◌, List, [], ◌∷◌, ◌++◌, Ok, Err, sym, refl, ap, ◌∙◌, subst, inl, inr}
use Rattle.terms.specs.declared.fact.Fact.{Fact}
use Rattle.book.specs.declared.sealed.Book.{Book}
use Rattle.judge.specs.declared.verdict.Verdict.{Verdict}
use Rattle.judge.specs.declared.sheet.Sheet.{Sheet}
use Rattle.judge.specs.Judging.{Judged}
use Rattle.runs.specs.Events.{Event, tell, judge, member, same, word, held_after, held, IsQuiet, Quiet}
use Rattle.runs.specs.Law.{LastJudged}
use Rattle.runs.specs.Runs.{Step, Run, done, next}

-- a call is quiet, or a judging that was not refused
quiet_or_judged : (e : Event) → IsQuiet e ⊎ ((m n : ℕ) × (v : Verdict) × (e ≡ judge m n (Ok v)))
quiet_or_judged (tell f r) = inl tt
quiet_or_judged (judge m n (Ok v)) = inr (m, n, v, refl)
quiet_or_judged (judge m n (Err e)) = inl tt
quiet_or_judged (member p w A r) = inl tt
quiet_or_judged (same p q r) = inl tt
quiet_or_judged (word k o n r) = inl tt

module _ {X : Type 0} (facts : X → List Fact) (room : X → ℕ) (b : Book) where
  -- the store's list after a call
  pub step_held : (x y : X) (s t : Sheet) (e : Event) → Step facts room b x s e y t → facts y ≡ held_after (facts x) e
  step_held x y s t (tell f r) h = h.0.list
  step_held x y s t (judge m n r) h = ap facts h.1
  step_held x y s t (member p w A r) h = ap facts h.1
  step_held x y s t (same p q r) h = ap facts h.1
  step_held x y s t (word k o n r) h = ap facts h.1

  -- a quiet call leaves the sheet as it was
  step_quiet : (x y : X) (s t : Sheet) (e : Event) → IsQuiet e → Step facts room b x s e y t → t ≡ s
  step_quiet x y s t (tell f r) q h = h.1
  step_quiet x y s t (judge m n (Ok v)) q h = absurd q
  step_quiet x y s t (judge m n (Err e)) q h = h.0.unchanged
  step_quiet x y s t (member p w A r) q h = h.2
  step_quiet x y s t (same p p' r) q h = h.2
  step_quiet x y s t (word k o n r) q h = h.2

  pub run_held : {x y : X} {s t : Sheet} {es : List Event} → Run facts room b x s es y t → facts y ≡ held (facts x) es
  run_held done = refl
  run_held (next {x = x} {y = y} {s = s} {t = t} {e = e} {es = es} h r) = run_held r ∙ ap (λ (fs : List Fact). held fs es) (step_held x y s t e h)

  pub run_quiet : {x y : X} {s t : Sheet} {es : List Event} → Quiet es → Run facts room b x s es y t → t ≡ s
  run_quiet q done = refl
  run_quiet q (next {x = x} {y = y} {s = s} {t = t} {e = e} h r) = run_quiet q.1 r ∙ step_quiet x y s t e q.0 h

  -- a call in a run: the state and the sheet at which it was made, and those after it
  pub record CallMade (x : X) (s : Sheet) (before : List Event) (e : Event) (rest : List Event) (y : X) (t : Sheet) : Type 0 where
    pub state : X
    pub sheet : Sheet
    pub next_state : X
    pub next_sheet : Sheet
    pub front : Run facts room b x s before state sheet
    pub step : Step facts room b state sheet e next_state next_sheet
    pub back : Run facts room b next_state next_sheet rest y t

  call_at : (before : List Event) {x y : X} {s t : Sheet} {e : Event} {rest : List Event} → Run facts room b x s (before ++ (e ∷ rest)) y t → CallMade x s before e rest y t
  call_at [] (next {x = x} {y = z} {s = s} {t = u} h r) = record { state = x; sheet = s; next_state = z; next_sheet = u; front = done; step = h; back = r }
  call_at (d ∷ before) (next h r) =
      let c = call_at before r in
      record { state = c.state; sheet = c.sheet; next_state = c.next_state; next_sheet = c.next_sheet; front = next h c.front; step = c.step; back = c.back }

  pub call_made : {x y : X} {s t : Sheet} {calls : List Event} (before rest : List Event) (e : Event) → Run facts room b x s calls y t → calls ≡ before ++ (e ∷ rest) → CallMade x s before e rest y t
  call_made {x} {y} {s} {t} before rest e r p = call_at before (subst (λ (es : List Event). Run facts room b x s es y t) p r)

  -- the last judging that was not refused, and the sheet that it left
  pub record LastFound (first : List Fact) (calls : List Event) (t : Sheet) : Type 0 where
    pub before : List Event
    pub verdict : Verdict
    pub last : LastJudged before verdict calls
    pub judged : Judged b (held first before) verdict t

  pub last_found : {x y : X} {s t : Sheet} {calls : List Event} → Run facts room b x s calls y t → (Quiet calls × (t ≡ s)) ⊎ LastFound (facts x) calls t
  last_found done = inl (tt, refl)
  last_found (next {x = x} {y = y} {s = s} {t = t} {u = u} {e = e} {es = es} h r) = by (last_found r) (quiet_or_judged e)
    where
      by : (Quiet es × (u ≡ t)) ⊎ LastFound (facts y) es u → IsQuiet e ⊎ ((m n : ℕ) × (v : Verdict) × (e ≡ judge m n (Ok v))) → (Quiet (e ∷ es) × (u ≡ s)) ⊎ LastFound (facts x) (e ∷ es) u
      by (inr f) i = inr (record {
        before = e ∷ f.before;
        verdict = f.verdict;
        last = record { pairs = f.last.pairs; parts = f.last.parts; since = f.last.since; place = ap (λ (l : List Event). e ∷ l) f.last.place; quiet = f.last.quiet };
        judged = subst (λ (fs : List Fact). Judged b (held fs f.before) f.verdict u) (step_held x y s t e h) f.judged;
      })
      by (inl q) (inl i) = inl ((i, q.0), q.1 ∙ step_quiet x y s t e i h)
      by (inl q) (inr j) = inr (record {
        before = [];
        verdict = j.2;
        last = record { pairs = j.0; parts = j.1; since = es; place = ap (λ (d : Event). d ∷ es) j.3; quiet = q.0 };
        judged = subst (λ (z : Sheet). Judged b (facts x) j.2 z) (sym q.1) (subst (λ (d : Event). Step facts room b x s d y t) j.3 h).0.judged;
      })

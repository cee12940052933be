-- The calls of a list, made one after another.
use Rattle.std.proofs.Common.{◌≡◌, ℕ, ◌+◌, ◌<◌, ◌≤◌, List, [], ◌∷◌, ◌++◌, length, get_or, take, drop, set, Some, sym, refl, ◌∙◌, subst, arith}
use Rattle.std.proofs.lemmas.List.{take_more, take_more_set, drop_more, drop-set-lt, take_all}
use Rattle.std.proofs.lemmas.Grind.{drop_more_same}
use Rattle.terms.specs.declared.fact.Fact.{Fact}
use Rattle.book.specs.declared.sealed.Book.{Book}
use Rattle.judge.specs.declared.sheet.Sheet.{Sheet}
use Rattle.runs.specs.declared.call.Answer.{Answer}
use Rattle.runs.specs.declared.call.Call.{Call}
use Rattle.runs.specs.declared.call.Entry.{Entry}
use Rattle.runs.specs.Events.{Event}
use Rattle.runs.specs.Runs.{Run, done, next}
use Rattle.runs.specs.Made.{EntryMade, AllMade, none, more}
use Rattle.runs.specs.Accounts.{Performed, Account}
use Rattle.runs.proofs.Keeping.{runs_keep_the_law}

-- one more call was made
made_push : {cs ds : List Entry} {es : List Event} {c d : Entry} {e : Event} → AllMade cs es ds → EntryMade c e d → AllMade (cs ++ (c ∷ [])) (es ++ (e ∷ [])) (ds ++ (d ∷ []))
made_push none h = more h none
made_push (more k a) h = more k (made_push a h)

module _ {X : Type 0} (facts : X → List Fact) (room : X → ℕ) (b : Book) where
  -- a run, and one that goes on from its end
  run_on : {x y z : X} {s t u : Sheet} {es fs : List Event} → Run facts room b x s es y t → Run facts room b y t fs z u → Run facts room b x s (es ++ fs) z u
  run_on done q = q
  run_on (next h r) q = next h (run_on r q)

  -- the first i entries of cs were made, and the others are as they were
  pub record MadeBelow (x : X) (s : Sheet) (cs : List Entry) (i : ℕ) (y : X) (t : Sheet) (ds : List Entry) : Type 0 where
    pub events : List Event
    pub made : AllMade (take i cs) events (take i ds)
    pub run : Run facts room b x s events y t
    pub rest : drop i ds ≡ drop i cs

  pub none_made : (x : X) (s : Sheet) (cs : List Entry) → MadeBelow x s cs 0 x s cs
  none_made x s cs = record { events = []; made = none; run = done; rest = refl }

  module _ (x : X) (s : Sheet) (cs : List Entry) where
    pub one_more : (i : ℕ) (y z : X) (t u : Sheet) (ds : List Entry) (else : Entry) (d : Call) (a : Answer)
        → MadeBelow x s cs i y t ds → Performed facts room b y t (get_or ds i else).call a d z u → i < length ds → length ds ≡ length cs
        → MadeBelow x s cs (i + 1) z u (set ds i (record { call = d; answer = Some a }))
    one_more i y z t u ds else d a m p l e =
        let entry : Entry = record { call = d; answer = Some a } in
        let k : i < length cs = omega arith in
        let both : get_or ds i else ∷ drop (i + 1) ds ≡ get_or cs i else ∷ drop (i + 1) cs = sym (drop_more ds i else l) ∙ m.rest ∙ drop_more cs i else k in
        let same : get_or ds i else ≡ get_or cs i else = cc in
        let one : EntryMade (get_or cs i else) p.event entry = subst (λ (c : Entry). EntryMade c p.event entry) same (record { answer = a; given = refl; made = p.made }) in
        record {
          events = m.events ++ (p.event ∷ []);
          made = rw (take_more cs i else k, take_more_set ds i entry l) (made_push m.made one);
          run = run_on m.run (next p.step done);
          rest = drop-set-lt (i + 1) ds i entry (omega arith) ∙ drop_more_same ds cs i m.rest;
        }

    pub all_made : (i : ℕ) (y : X) (t : Sheet) (ds : List Entry) → MadeBelow x s cs i y t ds → length cs ≤ i → length ds ≡ length cs → Account facts room b x s cs ds y t
    all_made i y t ds m l e = record {
      events = m.events;
      made = subst (λ (c : List Entry). AllMade c m.events ds) (take_all i cs l) (subst (λ (d : List Entry). AllMade (take i cs) m.events d) (take_all i ds (omega arith)) m.made);
      run = m.run;
      new_law = λ n. runs_keep_the_law facts room b x y s t m.events n m.run;
      law = λ x₀ s₀ earlier n r. runs_keep_the_law facts room b x₀ y s₀ t (earlier ++ m.events) n (run_on r m.run);
    }

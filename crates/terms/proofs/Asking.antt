-- The law of questions.
use Rattle.std.proofs.Common.{◌≡◌, ℕ, Bool, true, false, cond, ◌⊎◌, List, [], ◌∷◌, ◌++◌, Ok, Err, Result, sym, refl, ap, ◌∙◌, inl, inr, append_assoc}
use Rattle.terms.specs.declared.refusal.Refusal.{Refusal}
use Rattle.terms.specs.Refusals.{Question, ask, asked, numbered, AllYes, FirstNo, Answers}

module _ {A : Type 0} (x : A) where
  ok_not : (n : ℕ) → ◌≡◌ {A = Result A ℕ} (Err n) (Ok x) → ⊥
  ok_not n e = cc

  -- a question and those after it, by its answer
  yes_on : (q : Question) (qs : List Question) → q.holds ≡ true → asked (q ∷ qs) x ≡ asked qs x
  yes_on q qs h = ap (λ (b : Bool). cond b (asked qs x) (Err q.number_of)) h

  no_here : (q : Question) (qs : List Question) → q.holds ≡ false → asked (q ∷ qs) x ≡ Err q.number_of
  no_here q qs h = ap (λ (b : Bool). cond b (asked qs x) (Err q.number_of)) h

  pub all_yes : (qs : List Question) → AllYes qs → asked qs x ≡ Ok x
  all_yes [] y = refl
  all_yes (q ∷ qs) y = yes_on q qs y.0 ∙ all_yes qs y.1

  yes_first : (q : Question) (qs : List Question) (b : Bool) → q.holds ≡ b → asked (q ∷ qs) x ≡ Ok x → (q.holds ≡ true) × (asked qs x ≡ Ok x)
  yes_first q qs true h e = (h, sym (yes_on q qs h) ∙ e)
  yes_first q qs false h e = absurd (ok_not q.number_of (sym (no_here q qs h) ∙ e))

  yes_all : (qs : List Question) → asked qs x ≡ Ok x → AllYes qs
  yes_all [] e = tt
  yes_all (q ∷ qs) e = let p = yes_first q qs q.holds refl e in (p.0, yes_all qs p.1)

  first_at : (n : ℕ) (before after : List Question) → AllYes before → asked (before ++ (ask n false ∷ after)) x ≡ Err n
  first_at n [] after y = refl
  first_at n (q ∷ before) after y = yes_on q (before ++ (ask n false ∷ after)) y.0 ∙ first_at n before after y.1

  first_or_later : (q : Question) (qs : List Question) (n : ℕ) (b : Bool) → q.holds ≡ b → asked (q ∷ qs) x ≡ Err n
      → ((q.holds ≡ false) × (q.number_of ≡ n)) ⊎ ((q.holds ≡ true) × (asked qs x ≡ Err n))
  first_or_later q qs n true h e = inr (h, sym (yes_on q qs h) ∙ e)
  first_or_later q qs n false h e =
      let z : ◌≡◌ {A = Result A ℕ} (Err q.number_of) (Err n) = sym (no_here q qs h) ∙ e in
      let m : q.number_of ≡ n = cc in inl (h, m)

  at_first : (qs : List Question) (n : ℕ) → asked qs x ≡ Err n → FirstNo qs n
  at_first [] n e = absurd (ok_not n (sym e))
  at_first (q ∷ qs) n e =
      elim (first_or_later q qs n q.holds refl e) [
        | inl p ↦ record { before = []; after = qs; place = ap (λ (z : Question). z ∷ qs) (same q n p.1 p.0); earlier = tt }
        | inr p ↦ let l = at_first qs n p.1 in
            record { before = q ∷ l.before; after = l.after; place = ap (λ (z : List Question). q ∷ z) l.place; earlier = (p.0, l.earlier) }
      ]
    where
      same : (q : Question) (n : ℕ) → q.number_of ≡ n → q.holds ≡ false → q ≡ ask n false
      same q n m h = λ i. record { number_of = m i; holds = h i }

  pub answers : (qs : List Question) (r : Result A ℕ) → r ≡ asked qs x → Answers qs x r
  answers qs r e = record {
    accepted = ((λ d. yes_all qs (sym e ∙ d)), (λ y. e ∙ all_yes qs y));
    refused = λ n. ((λ d. at_first qs n (sym e ∙ d)), (λ f. e ∙ (ap (λ (z : List Question). asked z x) f.place ∙ first_at n f.before f.after f.earlier)));
  }

-- questions asked after others that all have yes
pub asked_on : {A B : Type 0} (qs more : List Question) (x : A) (y : B) → asked qs x ≡ Ok x → asked (qs ++ more) y ≡ asked more y
asked_on [] more x y e = refl
asked_on (q ∷ qs) more x y e =
    let a = yes_all x (q ∷ qs) e in
    yes_on y q (qs ++ more) a.0 ∙ asked_on qs more x y (all_yes x qs a.1)

-- a no among the first questions is the no of all
pub asked_no : {A B : Type 0} (qs more : List Question) (x : A) (y : B) (n : ℕ) → asked qs x ≡ Err n → asked (qs ++ more) y ≡ Err n
asked_no qs more x y n e =
    let f = at_first x qs n e in
    let m : qs ++ more ≡ f.before ++ (ask n false ∷ (f.after ++ more)) =
    ap (λ (z : List Question). z ++ more) f.place ∙ append_assoc f.before (ask n false ∷ f.after) more in
    ap (λ (z : List Question). asked z y) m ∙ first_at y n f.before (f.after ++ more) f.earlier

-- a call that is done answers the value that its questions lead to
pub own_value : {A : Type 0} (qs : List Question) (x v : A) → asked qs x ≡ Ok v → asked qs x ≡ Ok x
own_value [] x v e = refl
own_value {A = A} (q ∷ qs) x v e = by q.holds (asked qs x) (own_value qs x v) e
  where
    by : (b : Bool) (r : Result A ℕ) → (r ≡ Ok v → r ≡ Ok x) → cond b r (Err q.number_of) ≡ Ok v → cond b r (Err q.number_of) ≡ Ok x
    by true r h e = h e
    by false r h e = cc

-- and so without the refusal's number
pub numbered_ok : {A : Type 0} (r : Result A Refusal) (x : A) → numbered r ≡ Ok x → r ≡ Ok x
numbered_ok (Ok y) x e = cc
numbered_ok (Err f) x e = cc

-- Class sets, stepped along a word; leaders.
use Rattle.std.proofs.Common.{◌≡◌, ℕ, zero, suc, ◌<◌, Bool, true, ◌&&◌, ◌⊎◌, List, [], ◌∷◌, ◌++◌, sym, refl, subst, inl, inr, not-suc-le-zero, arith}
use mathlib.Core.Bool.{false≢true}
use Rattle.std.proofs.lemmas.Bool.{and_from, and_parts, or_cases, or_left, or_right, cases_eq}
use Rattle.terms.specs.Worlds.{◌∈◌, Rule, pullback}
use Rattle.terms.specs.Steps.{Within, itself, pulled, Leads, widened}
use Rattle.terms.specs.Facts.{Claim, one_object}
use Rattle.terms.specs.Completed.{Known, turned, joined}
use Rattle.theory.specs.Tables.{Tables, Exact, any_below, step, steps}
use Rattle.theory.proofs.Range.{leads_range}
use Rattle.theory.specs.Legal.{RulesLegal}

pub any_in : (n : ℕ) (f : ℕ → Bool) (k : ℕ) → k < n → f k ≡ true → any_below n f ≡ true
unfolding any_below
any_in zero f k h e = absurd (not-suc-le-zero h)
any_in (suc n) f k h e = go (λ l. any_in n f k l e) (cases_eq k n)
  where
    go : (k < n → any_below n f ≡ true) → (k ≡ n) ⊎ (k ≡ n → ⊥) → any_below (suc n) f ≡ true
    go r (inl i) = or_left (f n) (any_below n f) (subst (λ m. f m ≡ true) i e)
    go r (inr d) = or_right (f n) (any_below n f) (r (omega arith))

pub any_out : (n : ℕ) (f : ℕ → Bool) → any_below n f ≡ true → (k : ℕ) × (f k ≡ true)
unfolding any_below
any_out zero f e = absurd (false≢true e)
any_out (suc n) f e = go (or_cases (f n) (any_below n f) e) (any_out n f)
  where
    go : (f n ≡ true) ⊎ (any_below n f ≡ true) → (any_below n f ≡ true → (k : ℕ) × (f k ≡ true)) → (k : ℕ) × (f k ≡ true)
    go (inl h) r = (n, h)
    go (inr h) r = r h

-- a class set that has with each class all that it lies within
abbrev pub Closed : List Rule → (ℕ → Bool) → Type 0
Closed R S = (A B : ℕ) → S A ≡ true → Within R A B → S B ≡ true

module _ {R : List Rule} {F : List Claim} {t : Tables} (l : RulesLegal R) (x : Exact R F t) where
  pub step_in : (S : ℕ → Bool) (A f B : ℕ) → S A ≡ true → Leads R A f B → step t S f B ≡ true
  unfolding step
  step_in S A f B h d = any_in 64 (λ A. S A && t.leads A f B) A (leads_range l d).0 (and_from _ _ h ((x.leads_is A f B).1 d))

  pub step_out : (S : ℕ → Bool) (f B : ℕ) → step t S f B ≡ true → (A : ℕ) × (S A ≡ true) × Leads R A f B
  unfolding step
  step_out S f B h =
      let r = any_out 64 (λ A. S A && t.leads A f B) h in
      let e = and_parts (S r.0) (t.leads r.0 f B) r.1 in
      (r.0, e.0, (x.leads_is r.0 f B).0 e.1)

  pub step_closed : (S : ℕ → Bool) (f : ℕ) → Closed R (step t S f)
  step_closed S f A B h s = let r = step_out S f A h in step_in S r.0 f B r.1 (widened itself r.2 s)

  pub steps_closed : (S : ℕ → Bool) → Closed R S → (w : List ℕ) → Closed R (steps t S w)
  steps_closed S c [] = c
  steps_closed S c (f ∷ w) = steps_closed (step t S f) (step_closed S f) w

  pub step_back : (S : ℕ → Bool) → Closed R S → (f B C : ℕ) → step t S f B ≡ true → pullback f B C ∈ R → S C ≡ true
  step_back S c f B C h m = let r = step_out S f B h in c r.0 C r.1 (pulled r.2 m)

module _ {R : List Rule} {F : List Claim} {t : Tables} (x : Exact R F t) where
  -- leaders are equal exactly for what is known to be one object
  pub leader_eq : {p q : ℕ} → Known R F (one_object p q) → t.leader p ≡ t.leader q
  leader_eq {p} {q} k =
      let a = x.leader_low p (t.leader q) (joined k (x.leader_is q)) in
      let b = x.leader_low q (t.leader p) (joined (turned k) (x.leader_is p)) in
      omega arith

  pub leader_one : {p q : ℕ} → t.leader p ≡ t.leader q → Known R F (one_object p q)
  leader_one {p} {q} e = joined (subst (λ l. Known R F (one_object p l)) e (x.leader_is p)) (turned (x.leader_is q))

  pub leader_twice : (p : ℕ) → t.leader (t.leader p) ≡ t.leader p
  leader_twice p = sym (leader_eq (x.leader_is p))

pub steps_snoc : (t : Tables) (S : ℕ → Bool) (w : List ℕ) (f : ℕ) → steps t S (w ++ (f ∷ [])) ≡ step t (steps t S w) f
steps_snoc t S [] f = refl
steps_snoc t S (g ∷ w) f = steps_snoc t (step t S g) w f

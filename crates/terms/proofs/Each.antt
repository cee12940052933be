-- What holds of each number below a bound.
use Rattle.std.proofs.Common.{◌≡◌, ℕ, zero, suc, ◌+◌, ◌<◌, ◌≤◌, Bool, true, false, sym, refl, subst, inl, inr, add-one, arith}
use Rattle.std.proofs.lemmas.Bool.{and_left, and_right, and_from, cases_eq, and_parts}
use Rattle.terms.specs.Rows.{each_below}

pub each_none : (p : ℕ → Bool) → each_below 0 p ≡ true
unfolding each_below
each_none p = refl

pub each_more : (p : ℕ → Bool) (k : ℕ) → each_below k p ≡ true → p k ≡ true → each_below (k + 1) p ≡ true
unfolding each_below
each_more p k h e = rw add-one (and_from (p k) (each_below k p) e h)

pub each_all : (p : ℕ → Bool) (n k : ℕ) → each_below k p ≡ true → k ≤ n → n ≤ k → true ≡ each_below n p
each_all p n k h a b = let e : k ≡ n = omega arith in rw e at (sym h)

pub each_true : (p : ℕ → Bool) (n : ℕ) → ((k : ℕ) → k < n → p k ≡ true) → each_below n p ≡ true
unfolding each_below
each_true p zero f = refl
each_true p (suc n) f = and_from (p n) (each_below n p) (f n (omega arith)) (each_true p n (λ k h. f k (omega arith)))

pub each_not : (p : ℕ → Bool) (n k : ℕ) → k < n → p k ≡ false → each_below n p ≡ false
unfolding each_below
each_not p zero k h e = absurd (omega arith)
each_not p (suc n) k h e =
    elim (cases_eq k n) [
      | inl q ↦ and_left (p n) (each_below n p) (subst (λ (x : ℕ). p x ≡ false) q e)
      | inr ne ↦ and_right (p n) (each_below n p) (each_not p n k (omega arith) e)
    ]

pub each_at : (p : ℕ → Bool) (n k : ℕ) → each_below n p ≡ true → k < n → p k ≡ true
unfolding each_below
each_at p zero k e h = absurd (omega arith)
each_at p (suc n) k e h =
    elim (cases_eq k n) [
      | inl q ↦ subst (λ (x : ℕ). p x ≡ true) (sym q) (and_parts (p n) (each_below n p) e).0
      | inr ne ↦ each_at p n k (and_parts (p n) (each_below n p) e).1 (omega arith)
    ]

-- Of n + 1 numbers below n two are equal.
use Rattle.std.proofs.Common.{◌≡◌, ℕ, zero, suc, ◌<◌, ◌≤◌, Bool, true, false, cond, eqb, ◌⊎◌, refl, subst, inl, inr, le_refl, not-suc-le-zero, arith}
use native.Mathlib.Nat.{le_step}
use Rattle.std.proofs.lemmas.Bool.{cases_eq, eqb-true, eqb-false}

-- is v among the first n values of f?
find : (f : ℕ → ℕ) (v n : ℕ) → ((i : ℕ) × (i < n) × (f i ≡ v)) ⊎ ((i : ℕ) → i < n → f i ≡ v → ⊥)
find f v zero = inr (λ i h e. not-suc-le-zero h)
find f v (suc n) = on (find f v n) (cases_eq (f n) v)
  where
    last : ((i : ℕ) → i < n → f i ≡ v → ⊥) → (f n ≡ v → ⊥) → (i : ℕ) → i < suc n → f i ≡ v → (i ≡ n) ⊎ (i ≡ n → ⊥) → ⊥
    last miss d i h e (inl k) = d (subst (λ i. f i ≡ v) k e)
    last miss d i h e (inr k) = miss i (omega arith) e

    on : ((i : ℕ) × (i < n) × (f i ≡ v)) ⊎ ((i : ℕ) → i < n → f i ≡ v → ⊥) → (f n ≡ v) ⊎ (f n ≡ v → ⊥)
        → ((i : ℕ) × (i < suc n) × (f i ≡ v)) ⊎ ((i : ℕ) → i < suc n → f i ≡ v → ⊥)
    on (inl r) d = inl (r.0, le_step r.1, r.2)
    on (inr miss) (inl e) = inl (n, le_refl (suc n), e)
    on (inr miss) (inr d) = inr (λ i h e. last miss d i h e (cases_eq i n))

-- f has one value at two places up to n
abbrev pub Twice : (ℕ → ℕ) → ℕ → Type 0
Twice f n = (i : ℕ) × (j : ℕ) × (i < j) × (j ≤ n) × (f i ≡ f j)

-- f with the value at n + 1 in the place of n
patched : (ℕ → ℕ) → ℕ → ℕ → ℕ
patched f n i = cond (eqb (f i) n) (f (suc n)) (f i)

patched_is : (f : ℕ → ℕ) (n i : ℕ) → ((f i ≡ n) × (patched f n i ≡ f (suc n))) ⊎ ((f i ≡ n → ⊥) × (patched f n i ≡ f i))
unfolding patched
patched_is f n i = on (eqb (f i) n) refl
  where
    on : (b : Bool) → eqb (f i) n ≡ b → ((f i ≡ n) × (cond b (f (suc n)) (f i) ≡ f (suc n))) ⊎ ((f i ≡ n → ⊥) × (cond b (f (suc n)) (f i) ≡ f i))
    on true e = inl (eqb-true (f i) n e, refl)
    on false e = inr (eqb-false (f i) n e, refl)

pub pigeonhole : (n : ℕ) (f : ℕ → ℕ) → ((i : ℕ) → i ≤ n → f i < n) → Twice f n
pigeonhole zero f h = absurd (not-suc-le-zero (h 0 (le_refl 0)))
pigeonhole (suc n) f h = on (find f (f (suc n)) (suc n)) (pigeonhole n (patched f n))
  where
    low : ((i : ℕ) → i < suc n → f i ≡ f (suc n) → ⊥) → (i : ℕ) → i ≤ n → patched f n i < n
    low miss i k = let a = patched_is f n i in let b = h i (omega arith) in let c = h (suc n) (le_refl (suc n)) in let d = miss i (omega arith) in omega arith

    on : ((i : ℕ) × (i < suc n) × (f i ≡ f (suc n))) ⊎ ((i : ℕ) → i < suc n → f i ≡ f (suc n) → ⊥)
        → (((i : ℕ) → i ≤ n → patched f n i < n) → Twice (patched f n) n) → Twice f (suc n)
    on (inl r) ih = (r.0, suc n, r.1, le_refl (suc n), r.2)
    on (inr miss) ih =
        let r = ih (low miss) in
        let i = r.0 in
        let j = r.1 in
        let a = patched_is f n i in
        let b = patched_is f n j in
        let ij : i < j = r.2 in
        let jn : j ≤ n = r.3 in
        let e : patched f n i ≡ patched f n j = r.4 in
        let c = miss i (omega arith) in
        let d = miss j (omega arith) in
        (i, j, ij, le_step jn, omega arith)

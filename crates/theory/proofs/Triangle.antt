-- The number of an unordered pair.
use Rattle.std.proofs.Common.{◌≡◌, ℕ, zero, suc, ◌+◌, ◌<◌, ◌≤◌, min, max, ◌⊎◌, refl, ap, subst, inl, inr, le_refl, not-suc-le-zero, arith}
use Rattle.std.proofs.lemmas.Bool.{cases_eq, cases_order}

-- the sum of the numbers up to n
triangle : ℕ → ℕ
triangle zero = 0
triangle (suc n) = triangle n + suc n

triangle_grows : (h k : ℕ) → h < k → triangle (suc h) ≤ triangle k
unfolding triangle
triangle_grows h zero l = absurd (not-suc-le-zero l)
triangle_grows h (suc k) l = on (triangle_grows h k) (cases_eq h k)
  where
    on : (h < k → triangle (suc h) ≤ triangle k) → (h ≡ k) ⊎ (h ≡ k → ⊥) → triangle (suc h) ≤ triangle (suc k)
    on ih (inl e) = subst (λ k. triangle (suc h) ≤ triangle (suc k)) e (le_refl (triangle (suc h)))
    on ih (inr d) = let a = ih (omega arith) in omega arith

triangle_more : (n : ℕ) → triangle (suc n) ≡ triangle n + suc n
unfolding triangle
triangle_more n = refl

triangle_64 : (n : ℕ) → n < 64 → triangle (suc n) ≤ 2080
unfolding triangle
triangle_64 n h = triangle_grows n 64 h

-- a pair and the same swapped have one number
pub pair_number : ℕ → ℕ → ℕ
pair_number a b = triangle (max a b) + min a b

-- the highest and the lowest of a pair are known from its number
triangle_one : (h k l m : ℕ) → l ≤ h → m ≤ k → triangle h + l ≡ triangle k + m → (h ≡ k) × (l ≡ m)
triangle_one h k l m i j e = on (cases_order h k)
  where
    on : (h ≡ k) ⊎ ((h < k) ⊎ (k < h)) → (h ≡ k) × (l ≡ m)
    on (inl d) = let a = ap triangle d in omega arith
    on (inr (inl d)) = let a = triangle_grows h k d in let b = triangle_more h in absurd (omega arith)
    on (inr (inr d)) = let a = triangle_grows k h d in let b = triangle_more k in absurd (omega arith)

-- pairs of one number are equal, or one is the other swapped
pub pair_number_one : (a b c d : ℕ) → pair_number a b ≡ pair_number c d → ((a ≡ c) × (b ≡ d)) ⊎ ((a ≡ d) × (b ≡ c))
unfolding pair_number
pair_number_one a b c d e = on (triangle_one (max a b) (max c d) (min a b) (min c d) (omega arith) (omega arith) e) (cases_eq a c)
  where
    on : (max a b ≡ max c d) × (min a b ≡ min c d) → (a ≡ c) ⊎ (a ≡ c → ⊥) → ((a ≡ c) × (b ≡ d)) ⊎ ((a ≡ d) × (b ≡ c))
    on r (inl i) = inl (omega arith)
    on r (inr i) = inr (omega arith)

-- the pairs of 64 classes have numbers below 2,080
pub pair_number_low : (a b : ℕ) → a < 64 → b < 64 → pair_number a b < 2080
unfolding pair_number
pair_number_low a b h k = let g : triangle (suc (max a b)) ≤ 2080 = triangle_64 (max a b) (omega arith) in let m = triangle_more (max a b) in omega arith

-- Tests of the features in use and of those that are not, and the same tests place by place.
use Rattle.std.proofs.Common.{◌≡◌, ℕ, ◌+◌, ◌-◌, ◌<◌, ◌≤◌, Bool, true, false, List, length, take, drop, slice_index_or, sym, ap, ◌∙◌, subst, inl, inr, arith}
use Rattle.std.specs.Prelude.{not, ◌||◌, ◌==◌}
use Rattle.std.specs.Bool.{MatchBool}
use Rattle.std.specs.List.{AllWithin, HoldsAt}
use Rattle.std.proofs.lemmas.Bool.{cases_lt, or_left, or_right, or_from}
use Rattle.std.proofs.lemmas.Bool.Decides.{nat_tests}
use Rattle.std.proofs.lemmas.List.{get_or-take, get_or-drop, length-take, length-drop}
use Rattle.terms.specs.declared.row.Row.{Row}
use Rattle.terms.specs.Rows.{each_below, feature_at, in_use, other_than, new_at, none_twice}
use Rattle.terms.proofs.Each.{each_true, each_not, each_at}

-- what `all` says of a list of numbers
abbrev pub AllAnswer : (ℕ → Bool) → List ℕ → Bool → Type 0
AllAnswer P xs b =
    MatchBool b (AllWithin (λ x. P x ≡ true) xs 0 (length xs)) ((k : ℕ) × (k < length xs) × HoldsAt (λ x. P x ≡ false) xs k)

is_used : (r : Row) (k : ℕ) → k < r.count → in_use r k ≡ true
is_used r k h = grind (arith, nat_tests)

is_unused : (r : Row) (k : ℕ) → r.count ≤ k → in_use r k ≡ false
is_unused r k h = grind (arith, nat_tests)

eq_turned : (a b : ℕ) → (a == b) ≡ (b == a)
eq_turned a b = grind (arith, nat_tests)

module _ (r : Row) (four : length r.features ≡ 4) where
  pub each_used : (P : ℕ → Bool) (b : Bool) → AllAnswer P (take r.count r.features) b
      → b ≡ each_below 4 (λ k. not (in_use r k) || P (feature_at r k))
  each_used P true f = sym (each_true _ 4 (λ k h.
      elim (cases_lt k r.count) [
        | inl i ↦
            let n : k < length (take r.count r.features) = let e = length-take r.count r.features in omega (arith, e, four, h, i) in
            or_right (not (in_use r k)) (P (feature_at r k)) (subst (λ x. P x ≡ true) (get_or-take r.count r.features k 0 i) (f k 0 (omega arith) n))
        | inr j ↦ or_left (not (in_use r k)) (P (feature_at r k)) (ap not (is_unused r k j))
      ]))
  each_used P false f =
      let e = length-take r.count r.features in
      let i : f.0 < r.count = omega (arith, e, f.1) in
      sym (each_not _ 4 f.0 (omega (arith, e, four, f.1))
      (or_from (not (in_use r f.0)) (P (feature_at r f.0)) (ap not (is_used r f.0 i)) (subst (λ x. P x ≡ false) (get_or-take r.count r.features f.0 0 i) (f.2 0))))

  pub each_unused : (P : ℕ → Bool) (b : Bool) → AllAnswer P (drop r.count r.features) b
      → b ≡ each_below 4 (λ k. in_use r k || P (feature_at r k))
  each_unused P true f = sym (each_true _ 4 (λ k h.
      elim (cases_lt k r.count) [
        | inl i ↦ or_left (in_use r k) (P (feature_at r k)) (is_used r k i)
        | inr j ↦
            let n : k - r.count < length (drop r.count r.features) = let e = length-drop r.count r.features in omega (arith, e, four, h, j) in
            let m : r.count + (k - r.count) ≡ k = omega arith in
            or_right (in_use r k) (P (feature_at r k))
            (subst (λ i. P (slice_index_or r.features i 0) ≡ true) m
            (subst (λ x. P x ≡ true) (get_or-drop r.count r.features (k - r.count) 0) (f (k - r.count) 0 (omega arith) n)))
      ]))
  each_unused P false f =
      let e = length-drop r.count r.features in
      sym (each_not _ 4 (r.count + f.0) (omega (arith, e, four, f.1))
      (or_from (in_use r (r.count + f.0)) (P (feature_at r (r.count + f.0))) (is_unused r (r.count + f.0) (omega arith))
      (subst (λ x. P x ≡ false) (get_or-drop r.count r.features f.0 0) (f.2 0))))

  module _ (used : List ℕ) (e : used ≡ take r.count r.features) where
    short : (k : ℕ) → k < length used → (k < r.count) × (k < 4)
    short k h =
        let n : length used ≡ length (take r.count r.features) = ap (λ (z : List ℕ). length z) e in
        let m = length-take r.count r.features in
        (omega (arith, n, m, four, h), omega (arith, n, m, four, h))

    value_at : (k : ℕ) → k < length used → slice_index_or used k 0 ≡ feature_at r k
    value_at k h =
        ap (λ (z : List ℕ). slice_index_or z k 0) e ∙ get_or-take r.count r.features k 0 (short k h).0

    -- of two places in use, whether their features are equal
    compared : (i x : ℕ) → i < length used → x < length (take i used) → (b : Bool)
        → (slice_index_or (take i used) x 0 == slice_index_or used i 0) ≡ b → (x < i) × ((feature_at r i == feature_at r x) ≡ b)
    compared i x h l b q =
        let m = length-take i used in
        let y : x < i = omega (arith, m, l) in
        let v : slice_index_or (take i used) x 0 ≡ feature_at r x = get_or-take i used x 0 y ∙ value_at x (omega (arith, y, h)) in
        let w : (feature_at r x == feature_at r i) ≡ b = subst (λ z. (feature_at r x == z) ≡ b) (value_at i h) (subst (λ z. (z == slice_index_or used i 0) ≡ b) v q) in
        (y, sym (eq_turned (feature_at r x) (feature_at r i)) ∙ w)

    pub found_twice : (i x : ℕ) → i < length used → x < length (take i used)
        → (slice_index_or (take i used) x 0 == slice_index_or used i 0) ≡ true → false ≡ none_twice r
    found_twice i x h l q =
        let p = compared i x h l true q in
        let s = short i h in
        sym (each_not (new_at r) 4 i s.1 (each_not (other_than r i) i x p.0
        (or_from (not (in_use r i)) (not (feature_at r i == feature_at r x)) (ap not (is_used r i s.0)) (ap not p.1))))

    pub found_new : (i : ℕ) → i < length used
        → ((x : ℕ) (d : ℕ) → 0 ≤ x → x < length (take i used) → (slice_index_or (take i used) x d == slice_index_or used i 0) ≡ false) → new_at r i ≡ true
    found_new i h f = each_true (other_than r i) i (λ x l.
        let m = length-take i used in
        or_right (not (in_use r i)) (not (feature_at r i == feature_at r x))
        (let n : x < length (take i used) = omega (arith, m, l, h) in ap not (compared i x h n false (f x 0 (omega arith) n)).1))

    pub no_more : (i : ℕ) → length used ≤ i → each_below i (new_at r) ≡ true → true ≡ none_twice r
    no_more i h f =
        let n : length used ≡ length (take r.count r.features) = ap (λ (z : List ℕ). length z) e in
        let m = length-take r.count r.features in
        sym (each_true (new_at r) 4 (λ k l.
        elim (cases_lt k i) [
          | inl y ↦ each_at (new_at r) i k f y
          | inr y ↦ each_true (other_than r k) k (λ x _.
              or_left (not (in_use r k)) (not (feature_at r k == feature_at r x)) (ap not (is_unused r k (omega (arith, n, m, four, h, l, y)))))
        ]))

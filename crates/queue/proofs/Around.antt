-- Entries that wait round the end of a memory, over plain lists and numbers.
use Rattle.std.proofs.Common.{◌≡◌, ℕ, ◌+◌, ◌-◌, ◌<◌, ◌≤◌, ltb, ◌≢◌, ◌⊎◌, List, [], ◌∷◌, ◌++◌, length, get_or, take, drop, set, sym, refl, ap, ◌∙◌, inl, inr, add-one, arith}
use Rattle.std.proofs.lemmas.List.{length-take, length-drop, length-append, length-set, take_more, drop_more, get_or-drop, get_or-take, get_or_append_left, get_or-append_right, get_or-set_same, get_or-set_other, same_lists, drop_at, take-append-le}
use Rattle.std.proofs.lemmas.Bool.{cases_lt, cond-true, cond-false, lt-ltb, le-ltb}
use Rattle.queue.specs.Lines.{wrapped, around}

wrapped_cases : (n k : ℕ) → ((k < n) × (wrapped n k ≡ k)) ⊎ ((n ≤ k) × (wrapped n k ≡ k - n))
wrapped_cases n k =
    elim (cases_lt k n) [
      | inl l ↦ inl (l, cond-true (ltb k n) k (k - n) (lt-ltb k n l))
      | inr g ↦ inr (g, cond-false (ltb k n) k (k - n) (le-ltb k n g))
    ]

wrapped_below : (n h k : ℕ) → h < n → k < n → wrapped n (h + k) < n
wrapped_below n h k p q = elim (wrapped_cases n (h + k)) [ inl a ↦ omega arith | inr a ↦ omega arith ]

-- two entries within one round lie at two places
wrapped_apart : (n h k j : ℕ) → h < n → k < j → j < n → wrapped n (h + k) ≢ wrapped n (h + j)
wrapped_apart n h k j p q r e =
    elim (wrapped_cases n (h + k)) [
      | inl a ↦ elim (wrapped_cases n (h + j)) [ inl b ↦ omega arith | inr b ↦ omega arith ]
      | inr a ↦ elim (wrapped_cases n (h + j)) [ inl b ↦ omega arith | inr b ↦ omega arith ]
    ]

module _ {X : Type 0} (xs : List X) where
  pub around_length : (h n : ℕ) → h ≤ length xs → n ≤ length xs → length (around xs h n) ≡ n
  around_length h n p q = simp (length-take, length-drop, length-append) (omega arith)

  twice_at : (k : ℕ) (d : X) → get_or (xs ++ xs) k d ≡ get_or xs (wrapped (length xs) k) d
  twice_at k d =
      elim (wrapped_cases (length xs) k) [
        | inl a ↦ get_or_append_left xs xs d k a.0 ∙ ap (λ (j : ℕ). get_or xs j d) (sym a.1)
        | inr a ↦ get_or-append_right xs xs (length xs) k d refl a.0 ∙ ap (λ (j : ℕ). get_or xs j d) (sym a.1)
      ]

  from_at : (h k : ℕ) (d : X) → get_or (drop h (xs ++ xs)) k d ≡ get_or xs (wrapped (length xs) (h + k)) d
  from_at h k d = get_or-drop h (xs ++ xs) k d ∙ twice_at (h + k) d

module _ {X : Type 0} (xs : List X) (h n : ℕ) (x : X) (p : h < length xs) (q : n < length xs) where
  -- the place after the last entry
  abbrev next : ℕ
  next = wrapped (length xs) (h + n)

  -- a write there leaves every entry that waits
  kept : (k : ℕ) (d : X) → k < n → get_or (drop h (set xs next x ++ set xs next x)) k d ≡ get_or (drop h (xs ++ xs)) k d
  kept k d r =
      from_at (set xs next x) h k d
      ∙ ap (λ (m : ℕ). get_or (set xs next x) (wrapped m (h + k)) d) (length-set xs next x)
      ∙ get_or-set_other xs next (wrapped (length xs) (h + k)) x d (wrapped_apart (length xs) h k n p r q)
      ∙ sym (from_at xs h k d)

  last : get_or (drop h (set xs next x ++ set xs next x)) n x ≡ x
  last =
      from_at (set xs next x) h n x
      ∙ ap (λ (m : ℕ). get_or (set xs next x) (wrapped m (h + n)) x) (length-set xs next x)
      ∙ get_or-set_same xs next x x (wrapped_below (length xs) h n p q)

  others : take n (drop h (set xs next x ++ set xs next x)) ≡ take n (drop h (xs ++ xs))
  others =
      same_lists (take n (drop h (set xs next x ++ set xs next x))) (take n (drop h (xs ++ xs)))
      (simp (length-take, length-drop, length-append, length-set))
      (λ k d r. let l : k < n = omega (arith, simp (length-take, length-drop, length-append, length-set) at r) in
      get_or-take n (drop h (set xs next x ++ set xs next x)) k d l ∙ kept k d l ∙ sym (get_or-take n (drop h (xs ++ xs)) k d l))

  pub around_push : around (set xs (wrapped (length xs) (h + n)) x) h (n + 1) ≡ around xs h n ++ x ∷ []
  around_push =
      let l : n < length (drop h (set xs next x ++ set xs next x)) = simp (length-drop, length-append, length-set) (omega arith) in
      take_more (drop h (set xs next x ++ set xs next x)) n x l ∙ rw (last, others)

  step : around xs h (n + 1) ≡ get_or xs h x ∷ around xs (h + 1) n
  step =
      let l : h < length (xs ++ xs) = simp length-append (omega arith) in
      rw (drop_more (xs ++ xs) h x l, get_or_append_left xs xs x h p, add-one n)

  again : h + 1 ≡ length xs → around xs (h + 1) n ≡ around xs 0 n
  again e = let l : n ≤ length xs = omega arith in ap (take n) (drop_at xs xs (h + 1) (sym e)) ∙ sym (take-append-le n xs xs l)

  onward : around xs (h + 1) n ≡ around xs (wrapped (length xs) (h + 1)) n
  onward =
      elim (wrapped_cases (length xs) (h + 1)) [
        | inl a ↦ ap (λ (j : ℕ). around xs j n) (sym a.1)
        | inr a ↦ let e : h + 1 ≡ length xs = omega arith in
            let z : 0 ≡ wrapped (length xs) (h + 1) = omega arith in again e ∙ ap (λ (j : ℕ). around xs j n) z
      ]

  pub around_pop : around xs h (n + 1) ≡ get_or xs h x ∷ around xs (wrapped (length xs) (h + 1)) n
  around_pop = step ∙ ap (λ (ys : List X). get_or xs h x ∷ ys) onward

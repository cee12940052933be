-- Lists of facts: what stands at a place, and whether a fact is listed.
use Rattle.std.proofs.Common.{◌≡◌, ℕ, zero, suc, ◌+◌, ◌-◌, ◌<◌, ◌≤◌, Bool, true, false, ◌||◌, eqb, ◌⊎◌, List, [], ◌∷◌, ◌++◌, length, get_or, take, drop, Some, None, sym, refl, ap, ◌∙◌, subst, inl, inr, MatchBool, arith}
use mathlib.Core.List.Memᴰ
use Rattle.std.specs.List.{slice_get, range_with_len, HoldsAt, AllWithin}
use Rattle.std.proofs.lemmas.Option.{slice_get-get_or, slice_get_past, slice_get_within}
use Rattle.std.proofs.lemmas.List.{get_or-take, length-take-le, at_drop_all}
use Rattle.std.proofs.lemmas.List.FromFn.{length-range_with_len, get_or-range_with_len}
use Rattle.std.proofs.lemmas.Bool.{and_parts, and_from, cases_Bool, or_cases, or_left, or_right, eqb-true, eq-eqb}
use Rattle.std.proofs.Math.Bool.{or_assoc}
use Rattle.terms.specs.declared.fact.Fact.{Fact}
use Rattle.terms.specs.Lawful.{same_fact}
use Rattle.terms.specs.Worlds.{◌∈◌}
use Rattle.stores.specs.Meaning.{listed}

-- facts that compare as the same are equal, and a fact is the same as itself
pub same_equal : (f g : Fact) → same_fact f g ≡ true → f ≡ g
same_equal f g h =
    let a = and_parts (eqb f.kind g.kind) _ h in
    let b = and_parts (eqb f.first g.first) _ a.1 in
    let c = and_parts (eqb f.second g.second) _ b.1 in
    let k = eqb-true f.kind g.kind a.0 in
    let x = eqb-true f.first g.first b.0 in
    let y = eqb-true f.second g.second c.0 in
    let z = eqb-true f.third g.third c.1 in
    λ i. record { kind = k i; first = x i; second = y i; third = z i }

pub same_itself : (f : Fact) → same_fact f f ≡ true
same_itself f =
    and_from _ _ (eq-eqb f.kind f.kind refl)
    (and_from _ _ (eq-eqb f.first f.first refl)
    (and_from _ _ (eq-eqb f.second f.second refl) (eq-eqb f.third f.third refl)))

-- a fact is listed exactly when it stands in the list
pub listed_in : (facts : List Fact) (f : Fact) → listed facts f ≡ true → f ∈ facts
listed_in [] f h = let z : ◌≡◌ {A = ℕ} 0 1 = cc in absurd (omega arith)
listed_in (g ∷ facts) f h =
    elim (or_cases (same_fact g f) (listed facts f) h) [
      | inl e ↦ Memᴰ.head (sym (same_equal g f e))
      | inr m ↦ Memᴰ.tail (listed_in facts f m)
    ]

pub in_listed : (facts : List Fact) (f : Fact) → f ∈ facts → listed facts f ≡ true
in_listed [] f m = absurd (elim m [ ])
in_listed (g ∷ facts) f (Memᴰ.head e) = or_left (same_fact g f) (listed facts f) (subst (λ (x : Fact). same_fact x f ≡ true) e (same_itself f))
in_listed (g ∷ facts) f (Memᴰ.tail m) = or_right (same_fact g f) (listed facts f) (in_listed facts f m)

-- what stands in a list stands at some place, and what stands at a place stands in the list
pub in_nth : (facts : List Fact) (f : Fact) → f ∈ facts → (i : ℕ) × (slice_get facts i ≡ Some f)
in_nth [] f m = absurd (elim m [ ])
in_nth (g ∷ facts) f (Memᴰ.head e) = (0, ap Some (sym e))
in_nth (g ∷ facts) f (Memᴰ.tail m) = let p = in_nth facts f m in (suc p.0, p.1)

pub nth_in : (facts : List Fact) (i : ℕ) (f : Fact) → slice_get facts i ≡ Some f → f ∈ facts
nth_in [] i f h = let z : ◌≡◌ {A = ℕ} 0 1 = cc in absurd (omega arith)
nth_in (g ∷ facts) zero f h = let e : f ≡ g = cc in Memᴰ.head e
nth_in (g ∷ facts) (suc i) f h = Memᴰ.tail (nth_in facts i f h)

-- a place of a list with one more fact at its end
pub nth_push : (facts : List Fact) (g : Fact) (i : ℕ) (f : Fact) → slice_get (facts ++ g ∷ []) i ≡ Some f → (slice_get facts i ≡ Some f) ⊎ ((i ≡ length facts) × (g ≡ f))
nth_push [] g zero f h = let e : g ≡ f = cc in inr (refl, e)
nth_push [] g (suc i) f h = let z : ◌≡◌ {A = ℕ} 0 1 = cc in absurd (omega arith)
nth_push (x ∷ facts) g zero f h = inl h
nth_push (x ∷ facts) g (suc i) f h = elim (nth_push facts g i f h) [ inl a ↦ inl a | inr b ↦ inr (ap suc b.0, b.1) ]

pub nth_below : (facts : List Fact) (i : ℕ) (f : Fact) → slice_get facts i ≡ Some f → i < length facts
nth_below facts i f h = slice_get_within facts i f h

pub nth_some : (facts : List Fact) (i : ℕ) → i < length facts → None ≡ slice_get facts i → ⊥
nth_some [] i l h = omega arith
nth_some (g ∷ facts) zero l h = let z : ◌≡◌ {A = ℕ} 0 1 = cc in omega arith
nth_some (g ∷ facts) (suc i) l h = nth_some facts i (omega arith) h

-- a place of two lists, one after the other
pub nth_lower : (facts more : List Fact) (i : ℕ) → i < length facts → slice_get (facts ++ more) i ≡ slice_get facts i
nth_lower [] more i l = absurd (omega arith)
nth_lower (g ∷ facts) more zero l = refl
nth_lower (g ∷ facts) more (suc i) l = nth_lower facts more i (omega arith)

pub nth_upper : (facts more : List Fact) (i : ℕ) → length facts ≤ i → slice_get (facts ++ more) i ≡ slice_get more (i - length facts)
nth_upper [] more i l = ap (slice_get more) (omega arith)
nth_upper (g ∷ facts) more zero l = absurd (omega arith)
nth_upper (g ∷ facts) more (suc i) l =
    let e : suc i - suc (length facts) ≡ i - length facts = omega arith in
    nth_upper facts more i (omega arith) ∙ ap (slice_get more) (sym e)

-- a place of the first n rows of a table
pub nth_row : (n i : ℕ) (rows : List Fact) (d : Fact) → i < n → n ≤ length rows → slice_get (take n rows) i ≡ Some (get_or rows i d)
nth_row n i rows d l h =
    let k : i < length (take n rows) = rw length-take-le l in
    slice_get-get_or (take n rows) i d k ∙ ap Some (get_or-take n rows i d l)

pub nth_row_past : (n i : ℕ) (rows : List Fact) → n ≤ i → n ≤ length rows → slice_get (take n rows) i ≡ None
nth_row_past n i rows l h = slice_get_past (take n rows) i (rw length-take-le l)

pub listed_both : (facts more : List Fact) (f : Fact) → listed (facts ++ more) f ≡ (listed facts f || listed more f)
listed_both [] more f = refl
listed_both (g ∷ facts) more f = ap (λ (b : Bool). same_fact g f || b) (listed_both facts more f) ∙ sym (or_assoc (same_fact g f) (listed facts f) (listed more f))

-- a scan of a list: what is left of it from a place on
pub listed_on : (facts : List Fact) (i : ℕ) (g f : Fact) → Some g ≡ slice_get facts i → listed (drop i facts) f ≡ (same_fact g f || listed (drop (i + 1) facts) f)
listed_on [] i g f h = let z : ◌≡◌ {A = ℕ} 0 1 = cc in absurd (omega arith)
listed_on (x ∷ facts) zero g f h = let e : x ≡ g = cc in ap (λ (y : Fact). same_fact y f || listed facts f) e
listed_on (x ∷ facts) (suc i) g f h =
    let e : suc i + 1 ≡ suc (i + 1) = omega arith in
    listed_on facts i g f h ∙ ap (λ (k : ℕ). same_fact g f || listed (drop k (x ∷ facts)) f) (sym e)

pub listed_past : (facts : List Fact) (i : ℕ) (f : Fact) → length facts ≤ i → listed (drop i facts) f ≡ false
listed_past facts i f l = at_drop_all (λ (xs : List Fact). listed xs f) facts i l

-- the same of the first n rows of a table
pub listed_row : (n i : ℕ) (rows : List Fact) (d f : Fact) → i < n → n ≤ length rows → listed (drop i (take n rows)) f ≡ (same_fact (get_or rows i d) f || listed (drop (i + 1) (take n rows)) f)
listed_row n i rows d f l h = listed_on (take n rows) i (get_or rows i d) f (sym (nth_row n i rows d l h))

pub listed_rows : (n i : ℕ) (rows : List Fact) (f : Fact) → n ≤ i → n ≤ length rows → listed (drop i (take n rows)) f ≡ false
listed_rows n i rows f l h = listed_past (take n rows) i f (rw length-take-le l)

-- a scan of all places
pub listed_scan : (facts : List Fact) (f : Fact) (n : ℕ) (r : Bool) → n ≡ length facts
    → MatchBool r ((k : ℕ) × (k < length (range_with_len 0 n)) × HoldsAt (λ i. slice_get facts i ≡ Some f) (range_with_len 0 n) k)
    (AllWithin (λ i. ¬ (slice_get facts i ≡ Some f)) (range_with_len 0 n) 0 (length (range_with_len 0 n)))
    → r ≡ listed facts f
listed_scan facts f n true e h = sym (in_listed facts f (nth_in facts _ f (h.2 0)))
listed_scan facts f n false e h =
    elim (cases_Bool (listed facts f)) [
      | inl l ↦
          let p = in_nth facts f (listed_in facts f l) in
          let b = nth_below facts p.0 f p.1 in
          let at : get_or (range_with_len 0 n) p.0 0 ≡ p.0 = get_or-range_with_len 0 n p.0 0 (omega arith) ∙ omega arith in
          absurd (h p.0 0 (omega arith) (rw length-range_with_len (omega arith)) (ap (slice_get facts) at ∙ p.1))
      | inr l ↦ sym l
    ]

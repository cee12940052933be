-- One pair more in the trail.
use Rattle.std.proofs.Common.{◌≡◌, ℕ, zero, suc, ◌+◌, ◌<◌, true, cond, ◌&&◌, ◌||◌, eqb, ltb, ◌⊎◌, ◌↔◌, List, length, get_or, set, replicate, Some, None, is_none, Option, sym, refl, ap, ◌∙◌, subst, inl, inr, arith}
use Rattle.std.proofs.lemmas.List.{get_or-set_same, get_or-set_other, length-set}
use Rattle.std.proofs.lemmas.Bool.{cases_eq}
use Rattle.std.proofs.lemmas.List.Sums.{sum_by-set}
use Rattle.classes.specs.declared.ClassSet.{ClassSet}
use Rattle.classes.specs.Sets.{has}
use Rattle.book.specs.Tables.{set_at, At}
use Rattle.book.proofs.Linking.{at_put}
use Rattle.search.specs.declared.ClassPair.{ClassPair}
use Rattle.search.specs.declared.trail.Trace.{Trace}
use Rattle.search.specs.Pairs.{Proper, ordered, place_of, entry_of, mark, mark_of, unmarked, Partners}
use Rattle.search.specs.Search.{Near}
use Rattle.search.proofs.Pairs.{ordered_sym, ordered_self, ordered_proper, ordered_cases, place_below, same_or_not}

pub unmet_all : (n k : ℕ) → mark (get_or (replicate n None) k None) ≡ 0
unmet_all zero k = refl
unmet_all (suc n) zero = refl
unmet_all (suc n) (suc k) = unmet_all n k

-- two classes enter each other's sets, which stand at i and j
pub noted : (S : List ClassSet) (q : ClassPair) (i j : ℕ) (s t : ClassSet) → i ≡ q.left → j ≡ q.right → Proper q → length S ≡ 64
    → ((k : ℕ) → has s k ≡ (has (set_at S i) k || (eqb k q.right && ltb k 64)))
    → ((k : ℕ) → has t k ≡ (has (set_at (set S i s) j) k || (eqb k q.left && ltb k 64)))
    → (c d : ℕ) → At (set (set S i s) j t) c d ↔ (At S c d ⊎ (ordered c d ≡ q))
noted S q i j s t ei ej p l hs ht c d =
    let ll : i < length S = omega (arith, p.0, p.1, l) in
    let lr : j < length (set S i s) = omega (arith, p.1, l, length-set S i s) in
    let one = at_put S i q.right s ll p.1 hs c d in
    let two = at_put (set S i s) j q.left t lr (omega (arith, p.0, p.1)) ht c d in (
      (λ a. elim (two.0 a) [
        | inl x ↦ elim (one.0 x) [ inl y ↦ inl y | inr y ↦ inr (met c d (y.0 ∙ ei) y.1) ]
        | inr x ↦ inr (ordered_sym c d ∙ met d c x.1 (x.0 ∙ ej))
      ]),
      (λ a. elim a [
        | inl x ↦ two.1 (inl (one.1 (inl x)))
        | inr e ↦ elim (ordered_cases q.left q.right c d (ordered_self q p ∙ sym e)) [
          | inl x ↦ two.1 (inl (one.1 (inr (x.0 ∙ sym ei, x.1))))
          | inr x ↦ two.1 (inr (x.1 ∙ sym ej, x.0))
        ]
      ]),
    )
  where
    met : (a b : ℕ) → a ≡ q.left → b ≡ q.right → ordered a b ≡ q
    met a b h k = ap (λ x. ordered x b) h ∙ ap (λ x. ordered q.left x) k ∙ ordered_self q p

-- what is marked stays
pub kept : (T : List (Option Trace)) (i j : ℕ) (e : Option Trace) → mark (get_or T i None) ≡ 0 → 0 < mark (get_or T j None) → get_or (set T i e) j None ≡ get_or T j None
kept T i j e z p = elim (cases_eq j i) [
  | inl w ↦ absurd (let v : mark (get_or T j None) ≡ mark (get_or T i None) = ap (λ k. mark (get_or T k None)) w in omega arith)
  | inr ne ↦ get_or-set_other T i j e None ne
]

not_there : (e : Option Trace) → mark e ≡ 0 → is_none e ≡ true
not_there None z = refl
not_there (Some t) z = absurd (omega arith)

-- one place fewer is free
pub fewer : (T : List (Option Trace)) (i : ℕ) (e : Trace) → i < length T → mark (get_or T i None) ≡ 0 → unmarked (set T i (Some e)) + 1 ≡ unmarked T
fewer T i e l z =
    let s = sum_by-set (λ x. cond (is_none x) 1 0) T i (Some e) None l in
    let a : ◌≡◌ {A = ℕ} (cond (is_none (get_or T i None)) 1 0) 1 = rw (not_there (get_or T i None) z) in
    omega (arith, s, a)

-- the pair r is met with the entry e
module _ (T : List (Option Trace)) (size : length T ≡ 2080) (r : ClassPair) (e : Trace) (fit : Proper r) where
  abbrev T' : List (Option Trace)
  T' = set T (place_of r) (Some e)

  pub inside : place_of r < length T
  inside = omega (arith, place_below r fit)

  pub new_entry : entry_of T' r ≡ Some e
  new_entry = get_or-set_same T (place_of r) (Some e) None inside

  -- another pair has the entry that it had
  pub other_entry : (q : ClassPair) → Proper q → (r ≡ q) ⊎ (entry_of T' q ≡ entry_of T q)
  other_entry q h = elim (same_or_not r q fit h) [
    | inl w ↦ inl w
    | inr ne ↦ inr (get_or-set_other T (place_of r) (place_of q) (Some e) None (λ k. ne (sym k)))
  ]

  -- a pair that is met is r, or was met before
  pub was_met : (q : ClassPair) → Proper q → 0 < mark_of T' q → (r ≡ q) ⊎ ((0 < mark_of T q) × (entry_of T' q ≡ entry_of T q))
  was_met q h k = elim (other_entry q h) [ inl w ↦ inl w | inr o ↦ inr (subst (λ (x : Option Trace). 0 < mark x) o k, o) ]

  is_met : 0 < mark_of T' r
  is_met = let w = ap mark new_entry in omega arith

  still_met : (q : ClassPair) → Proper q → 0 < mark_of T q → 0 < mark_of T' q
  still_met q h k = elim (other_entry q h) [
    | inl w ↦ subst (λ (x : ClassPair). 0 < mark_of T' x) w is_met
    | inr o ↦ subst (λ (x : Option Trace). 0 < mark x) (sym o) k
  ]

  pub partners_more : (S S' : List ClassSet) → Partners S T → ((c d : ℕ) → At S' c d ↔ (At S c d ⊎ (ordered c d ≡ r))) → Partners S' T'
  partners_more S S' h n c d a b = (
    (λ x. elim ((n c d).0 x) [
      | inl y ↦ still_met (ordered c d) (ordered_proper c d a b) ((h c d a b).0 y)
      | inr w ↦ subst (λ (q : ClassPair). 0 < mark_of T' q) (sym w) is_met
    ]),
    (λ x. elim (was_met (ordered c d) (ordered_proper c d a b) x) [
      | inl w ↦ (n c d).1 (inr (sym w))
      | inr w ↦ (n c d).1 (inl ((h c d a b).1 w.0))
    ]),
  )

  -- it was not met before
  module _ (z : mark_of T r ≡ 0) where
    pub old_entry : (q : ClassPair) → 0 < mark_of T q → entry_of T' q ≡ entry_of T q
    old_entry q h = kept T (place_of r) (place_of q) (Some e) z h

    pub near_stays : (q : ClassPair) (n : ℕ) → Near T q n → Near T' q n
    near_stays q n h = let w = ap mark (old_entry q h.met) in record { proper = h.proper; met = omega (arith, h.met); by = omega (arith, h.by) }

    pub one_fewer : unmarked T' + 1 ≡ unmarked T
    one_fewer = fewer T (place_of r) e inside z

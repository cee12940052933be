-- Pairs of classes in their order, and their places.
use Rattle.std.proofs.Common.{◌≡◌, ℕ, ◌+◌, ◌-◌, ◌*◌, ◌<◌, ◌≤◌, ltb, ◌⊎◌, sym, ap, ◌∙◌, subst, inl, inr, arith}
use Rattle.std.proofs.lemmas.Bool.{cases_eq, cases_lt, lt-ltb, le-ltb, cond-true, cond-false}
use Rattle.search.specs.declared.ClassPair.{ClassPair}
use Rattle.search.specs.Pairs.{Proper, ordered, place_of}

abbrev pub pair : ℕ → ℕ → ClassPair
pair a b = record { left = a; right = b }

same_pair : {a b c d : ℕ} → a ≡ c → b ≡ d → pair a b ≡ pair c d
same_pair {b} {c} h k = ap (λ x. pair x b) h ∙ ap (pair c) k

pub ordered_up : (a b : ℕ) → a ≤ b → ordered a b ≡ pair a b
ordered_up a b h = same_pair (omega arith) (omega arith)

pub ordered_down : (a b : ℕ) → b < a → ordered a b ≡ pair b a
ordered_down a b h = same_pair (omega arith) (omega arith)

pub ordered_sym : (a b : ℕ) → ordered a b ≡ ordered b a
ordered_sym a b = elim (cases_lt a b) [
  | inl lt ↦ ordered_up a b (omega arith) ∙ sym (ordered_down b a lt)
  | inr ge ↦ elim (cases_eq a b) [
    | inl e ↦ ap (λ x. ordered x b) e ∙ ap (λ x. ordered b x) (sym e)
    | inr ne ↦ ordered_down a b (omega arith) ∙ sym (ordered_up b a ge)
  ]
]

-- what holds of both classes holds of both in their order
pub ordered_both : (A : ℕ → Type 0) (a b : ℕ) → A a → A b → A (ordered a b).left × A (ordered a b).right
ordered_both A a b h k = elim (cases_lt b a) [
  | inl lt ↦ subst (λ (y : ClassPair). A y.left × A y.right) (sym (ordered_down a b lt)) (k, h)
  | inr ge ↦ subst (λ (y : ClassPair). A y.left × A y.right) (sym (ordered_up a b ge)) (h, k)
]

pub ordered_proper : (a b : ℕ) → a < 64 → b < 64 → Proper (ordered a b)
ordered_proper a b h k = elim (cases_lt b a) [
  | inl lt ↦ subst Proper (sym (ordered_down a b lt)) (omega arith, h)
  | inr ge ↦ subst Proper (sym (ordered_up a b ge)) (ge, k)
]

pub ordered_self : (q : ClassPair) → Proper q → ordered q.left q.right ≡ q
ordered_self q h = ordered_up q.left q.right h.0

-- one pair has its classes in one order or the other
pub ordered_cases : (a b c d : ℕ) → ordered a b ≡ ordered c d → ((c ≡ a) × (d ≡ b)) ⊎ ((d ≡ a) × (c ≡ b))
ordered_cases a b c d e =
    let l = ap (λ (z : ClassPair). z.left) e in
    let r = ap (λ (z : ClassPair). z.right) e in
    elim (cases_lt b a) [
      | inl x ↦ let i = ordered_down a b x in elim (cases_lt d c) [
        | inl y ↦ let j = ordered_down c d y in inl ((both (e ∙ j) i).1, (both (e ∙ j) i).0)
        | inr y ↦ let j = ordered_up c d y in inr ((both (e ∙ j) i).1, (both (e ∙ j) i).0)
      ]
      | inr x ↦ let i = ordered_up a b x in elim (cases_lt d c) [
        | inl y ↦ let j = ordered_down c d y in inr ((both (e ∙ j) i).0, (both (e ∙ j) i).1)
        | inr y ↦ let j = ordered_up c d y in inl ((both (e ∙ j) i).0, (both (e ∙ j) i).1)
      ]
    ]
  where
    both : {p : ClassPair} {s t u v : ℕ} → p ≡ pair s t → p ≡ pair u v → (s ≡ u) × (t ≡ v)
    both {s} {t} {u} {v} g h = (ap (λ (z : ClassPair). z.left) (sym g ∙ h), ap (λ (z : ClassPair). z.right) (sym g ∙ h))

-- one class has one partner in a pair
pub partner_one : (a d e : ℕ) → ordered a d ≡ ordered a e → d ≡ e
partner_one a d e h = elim (ordered_cases a d a e h) [ inl x ↦ sym x.1 | inr x ↦ sym x.1 ∙ sym x.0 ]

place_low : (q : ClassPair) → q.left < 32 → place_of q ≡ 64 * q.left + q.right
place_low q h = cond-true (ltb q.left 32) (64 * q.left + q.right) (65 * (63 - q.left) + q.right + 1) (lt-ltb q.left 32 h)

place_high : (q : ClassPair) → 32 ≤ q.left → place_of q ≡ 65 * (63 - q.left) + q.right + 1
place_high q h = cond-false (ltb q.left 32) (64 * q.left + q.right) (65 * (63 - q.left) + q.right + 1) (le-ltb q.left 32 h)

pub place_below : (q : ClassPair) → Proper q → place_of q < 2080
place_below q h = elim (cases_lt q.left 32) [
  | inl lt ↦ omega (arith, place_low q lt, h.0, h.1)
  | inr ge ↦ omega (arith, place_high q ge, h.0, h.1)
]

pub place_one : (q r : ClassPair) → Proper q → Proper r → place_of q ≡ place_of r → q ≡ r
place_one q r h k e =
    let both : (q.left ≡ r.left) × (q.right ≡ r.right) = elim (cases_lt q.left 32) [
      | inl x ↦ elim (cases_lt r.left 32) [
        | inl y ↦ (omega (arith, place_low q x, place_low r y), omega (arith, place_low q x, place_low r y))
        | inr y ↦ absurd (omega (arith, place_low q x, place_high r y))
      ]
      | inr x ↦ elim (cases_lt r.left 32) [
        | inl y ↦ absurd (omega (arith, place_high q x, place_low r y))
        | inr y ↦ (omega (arith, place_high q x, place_high r y), omega (arith, place_high q x, place_high r y))
      ]
    ] in
    same_pair both.0 both.1

pub same_or_not : (q r : ClassPair) → Proper q → Proper r → (q ≡ r) ⊎ (place_of q ≡ place_of r → ⊥)
same_or_not q r h k = elim (cases_eq (place_of q) (place_of r)) [ inl e ↦ inl (place_one q r h k e) | inr ne ↦ inr ne ]

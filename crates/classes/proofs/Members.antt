-- The laws of sets of classes: what none, a union and equal sets hold, and how weights go.
use Rattle.std.proofs.Common.{◌≡◌, ℕ, ◌^◌, ◌<◌, ◌≤◌, true, false, ◌||◌, ap, inl, inr, arith}
use lib.Bits.{or_add_and, and_le_r, or_lt}
use Rattle.std.proofs.lemmas.Bool.{both_ways, cases_lt}
use Rattle.classes.specs.declared.ClassSet.{ClassSet}
use Rattle.classes.specs.Sets.{has, none, all, joined, weight}
use Rattle.classes.proofs.Digits.{bit_zero, bit_ones, bit_of_or, bit_past, same_bits}

pub has_none : (k : ℕ) → has none k ≡ false
unfolding has
has_none = bit_zero

pub not_in_none : {X : Type 0} (k : ℕ) → has none k ≡ true → X
not_in_none k h = absurd (both_ways (has none k) (has_none k) h)

pub has_all : (k : ℕ) → k < 64 → has all k ≡ true
unfolding has
has_all k h = bit_ones 64 k h

pub has_joined : (s t : ClassSet) (k : ℕ) → has (joined s t) k ≡ (has s k || has t k)
unfolding has
has_joined s t k = bit_of_or s.bits t.bits k

pub joined_more : (s t : ClassSet) → weight s ≤ weight (joined s t)
joined_more s t = let e = or_add_and s.bits t.bits in let l = and_le_r s.bits t.bits in omega arith

pub joined_low : (s t : ClassSet) → weight s < 2 ^ 64 → weight t < 2 ^ 64 → weight (joined s t) < 2 ^ 64
joined_low s t = or_lt 64 s.bits t.bits

pub same_weight : (s t : ClassSet) → weight s ≡ weight t → s ≡ t
same_weight s t e = ap (λ (n : ℕ). let r : ClassSet = record { bits = n } in r) e

pub empty_none : (s : ClassSet) → weight s ≡ 0 → s ≡ none
empty_none s = same_weight s none

pub has_past : (s : ClassSet) (k : ℕ) → weight s < 2 ^ 64 → 64 ≤ k → has s k ≡ false
unfolding has
has_past s k l h = bit_past 64 s.bits k l h

pub has_low : (s : ClassSet) (k : ℕ) → weight s < 2 ^ 64 → has s k ≡ true → k < 64
has_low s k l h = elim (cases_lt k 64) [ inl a ↦ a | inr b ↦ absurd (both_ways (has s k) (has_past s k l b) h) ]

pub extensional : (s t : ClassSet) → weight s < 2 ^ 64 → weight t < 2 ^ 64 → ((k : ℕ) → has s k ≡ has t k) → s ≡ t
unfolding has
extensional s t l m h = same_weight s t (same_bits s.bits t.bits l m h)

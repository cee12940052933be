-- The lowest class of a set that is not empty, and what is left without it.
use Rattle.std.proofs.Common.{◌≡◌, ℕ, ◌*◌, ◌%◌, ◌^◌, ◌<◌, Bool, true, false, not, ◌&&◌, eqb, ap, ◌∙◌, refl, sym, arith, w64}
use lib.Bits.{bit_and}
use Rattle.std.specs.Int.{bit_at, bit_not, trailing_zeros}
use Rattle.std.proofs.lemmas.Nat.{one_shl, and_le_l}
use Rattle.std.proofs.lemmas.Nat.Bits.{bit_at-trailing_zeros}
use Rattle.std.proofs.lemmas.Bool.{both_ways, and_right, eq-eqb}
use Rattle.classes.specs.Sets.{Took, has}
use Rattle.classes.proofs.Digits.{bit, test, bit_power, bit_without}
use Rattle.classes.proofs.ClassSet.take_lowest.Goals as goal

module _ (n : ℕ) (fits : n < 2 ^ 64) (nz : n ≡ 0 → ⊥) where
  abbrev pub t : ℕ
  t = trailing_zeros w64 n

  -- the number without the digit
  abbrev pub left : ℕ
  left = bit_and n (bit_not w64 (1 * 2 ^ t % 2 ^ 64))

  found : (t < 64) × (eqb (bit_at n t) 1 ≡ true) × ((j : ℕ) → j < t → bit n j ≡ false)
  found = let z = bit_at-trailing_zeros w64 n (omega arith) fits in (z.0, test z.1, (λ j h. test (z.2 j h)))

  cleared : (j : ℕ) → bit left j ≡ (bit n j && not (eqb j t))
  cleared j =
      let p = one_shl t 64 found.0 in
      bit_without n (1 * 2 ^ t % 2 ^ 64) j fits (omega arith) ∙ ap (λ (x : Bool). bit n j && not x) (ap (λ x. bit x j) p ∙ bit_power t j)

  less : left < n
  less =
      let l = and_le_l n (bit_not w64 (1 * 2 ^ t % 2 ^ 64)) in
      let ne : left ≡ n → ⊥ = λ e.
      let c = cleared t in
      both_ways (bit n t) (sym (ap (λ x. bit x t) e) ∙ c ∙ and_right (bit n t) _ (ap not (eq-eqb t t refl))) found.1
      in
      omega (arith, l, ne)

  pub took : Took (record { bits = n }) t (record { bits = left })
  unfolding has
  took = record { low = found.0; was = found.1; first = found.2; rest = cleared; less = less }

pub returns : goal.returns
returns c = took c.args.self.now.bits (omega arith) c.if-self-eq0.false

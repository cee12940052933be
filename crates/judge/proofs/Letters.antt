-- The letters of a word, and what is written of them.
use Rattle.std.proofs.Common.{◌≡◌, ℕ, ◌+◌, ◌*◌, ◌<◌, ◌≤◌, true, List, [], ◌∷◌, ◌++◌, length, get_or, drop, nat_lt, refl, sym, ◌∙◌, arith, append_assoc, length-append}
use Rattle.std.specs.Fmt.{decimal}
use Rattle.std.proofs.lemmas.Bool.{and_parts, ltb-true}
use Rattle.std.proofs.lemmas.Fmt.{length-decimal-le}
use Rattle.std.proofs.lemmas.List.{at_drop_more}
use Rattle.std.proofs.lemmas.List.Recursion.{and_at}
use Rattle.judge.specs.Verdicts.{low, numbers}

-- each letter of a word of features is a feature
pub letter_low : (w : List ℕ) (i : ℕ) → low w ≡ true → i < length w → get_or w i 0 < 16
letter_low w i e l = ltb-true _ 16 (and_at low (λ f. nat_lt f 16) refl (λ _ _. refl) w i 0 l e)

-- one more letter is written of those that are left
pub numbers_cut : (said : List ℕ) (w : List ℕ) (i : ℕ) → i < length w → (said ++ (32 ∷ decimal (get_or w i 0))) ++ numbers (drop (i + 1) w) ≡ said ++ numbers (drop i w)
numbers_cut said w i l = append_assoc said _ _ ∙ sym (at_drop_more (λ v. said ++ numbers v) w i 0 l)

-- numbers are short where they are small
pub short_byte : (n : ℕ) → n < 256 → length (decimal n) ≤ 3
short_byte n l = length-decimal-le 3 n (omega arith) (omega (arith, l)) (omega (arith, l))

pub short_letter : (n : ℕ) → n < 16 → length (decimal n) ≤ 2
short_letter n l = length-decimal-le 2 n (omega arith) (omega (arith, l)) (omega (arith, l))

pub short_count : (n : ℕ) → n ≤ 65536 → length (decimal n) ≤ 5
short_count n l = length-decimal-le 5 n (omega arith) (omega (arith, l)) (omega (arith, l))

pub short_numbers : (w : List ℕ) → low w ≡ true → length (numbers w) ≤ 3 * length w
short_numbers [] e = omega arith
short_numbers (f ∷ w) e =
    let parts = and_parts (nat_lt f 16) (low w) e in
    let rest = short_numbers w parts.1 in
    simp length-append (omega (arith, short_letter f (ltb-true f 16 parts.0), rest))

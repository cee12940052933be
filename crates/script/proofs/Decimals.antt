-- Words that are the decimals of numbers.
use Rattle.std.proofs.Common.{rules, arith, ◌≡◌, ◌∙◌, ℕ, ◌<◌, refl, sym, ap, map, decimal, drop, length, List, [], ◌∷◌, slice_index_or, Bor, ◌++◌, take, ◌+◌}
use Rattle.std.proofs.lemmas.List.{get_or-map, length-map, map_more, map_push}
use Rattle.std.proofs.lemmas.List.Elements.{All-tail}
use Rattle.std.proofs.lemmas.Fmt.{decimal_injective}
use Rattle.script.specs.Lines.{Bytes}

same_length : (words : List (Bor (List ℕ))) (ns : List ℕ) → map (λ w. w.now) words ≡ map decimal ns → length words ≡ length ns
same_length words ns e = sym (length-map words (λ w. w.now)) ∙ (ap length e ∙ length-map ns decimal)

-- the word at a place is the decimal of the number at it
pub at_place : (words : List (Bor (List ℕ))) (ns : List ℕ) (i : ℕ) (d : Bor (List ℕ)) → map (λ w. w.now) words ≡ map decimal ns → i < length words
    → (i < length ns) × ((slice_index_or words i d).now ≡ decimal (slice_index_or ns i 0))
at_place words ns i d e l =
    let inside : i < length ns = omega (arith, same_length words ns e) in
    (inside, sym (get_or-map (λ w. w.now) words i d [] l) ∙ (ap (λ x. slice_index_or x i []) e ∙ get_or-map decimal ns i 0 [] inside))

-- one word more, and the number that it is
pub one_more : (words : List (Bor (List ℕ))) (ns : List ℕ) (i n : ℕ) (d : Bor (List ℕ)) → i < length words → map (λ w. w.now) (take i words) ≡ map decimal ns → (slice_index_or words i d).now ≡ decimal n
    → map (λ w. w.now) (take (i + 1) words) ≡ map decimal (ns ++ n ∷ [])
one_more words ns i n d l e here = map_more (λ w. w.now) words i d l ∙ (rw e (rw here (sym (map_push decimal ns n))))

-- the decimals tell the numbers
pub decimals_injective : (ms ns : List ℕ) → Bytes ms → Bytes ns → map decimal ms ≡ map decimal ns → ms ≡ ns
decimals_injective [] [] low low' e = refl
decimals_injective [] (n ∷ ns) low low' e = absurd (search (rules, ap length e))
decimals_injective (m ∷ ms) [] low low' e = absurd (search (rules, ap length e))
decimals_injective (m ∷ ms) (n ∷ ns) low low' e =
    let head : m ≡ n = decimal_injective m n (omega (arith, low 0 0 (omega arith))) (omega (arith, low' 0 0 (omega arith))) (ap (λ l. slice_index_or l 0 []) e) in
    let tail : ms ≡ ns = decimals_injective ms ns (All-tail (λ k. k < 256) m ms low) (All-tail (λ k. k < 256) n ns low') (ap (drop 1) e) in
    rw head (ap (λ l. n ∷ l) tail)

-- The facts of records, place by place.
use Rattle.std.proofs.Common.{◌≡◌, ℕ, zero, suc, ◌+◌, ◌-◌, ◌*◌, ◌/◌, ◌<◌, ◌≤◌, min, Bool, true, false, ◌||◌, List, [], ◌∷◌, ◌++◌, length, take, drop, get_or, map, Some, None, sym, refl, ap, ◌∙◌, inl, inr, add-one, arith}
use Rattle.std.specs.List.{slice_get}
use Rattle.std.specs.Simd.{first_chunks}
use Rattle.std.proofs.lemmas.Option.{slice_get_past}
use Rattle.std.proofs.lemmas.List.{length_push, drop-drop, drop-take, take-take, map-append}
use Rattle.std.proofs.lemmas.Bool.{cases_lt, or_left, or_right, or_from}
use Rattle.std.proofs.Math.Bool.{or-false}
use Rattle.terms.specs.declared.fact.Fact.{Fact}
use Rattle.terms.specs.Lawful.{same_fact}
use Rattle.stores.specs.Meaning.{listed}
use Rattle.stores.proofs.Listing.{nth_lower, nth_upper, listed_both}
use Rattle.layout.specs.Layout.{fact_in}
use Rattle.image.specs.SoundParts.{record_at, fact_at, facts_in, good, good_at}

pub facts_count : (n : ℕ) (bytes : List ℕ) → length (facts_in n bytes) ≡ n
facts_count zero bytes = refl
facts_count (suc n) bytes = length_push (facts_in n bytes) (fact_at bytes n) ∙ ap (λ (k : ℕ). k + 1) (facts_count n bytes) ∙ add-one n

pub facts_nth : (n i : ℕ) (bytes : List ℕ) → i < n → slice_get (facts_in n bytes) i ≡ Some (fact_at bytes i)
facts_nth zero i bytes h = absurd (omega arith)
facts_nth (suc n) i bytes h =
    let len = facts_count n bytes in
    elim (cases_lt i n) [
      | inl l ↦ let k : i < length (facts_in n bytes) = omega arith in nth_lower (facts_in n bytes) _ i k ∙ facts_nth n i bytes l
      | inr g ↦
          let k : length (facts_in n bytes) ≤ i = omega arith in
          let z : i - length (facts_in n bytes) ≡ 0 = omega arith in
          let e : n ≡ i = omega arith in
          nth_upper (facts_in n bytes) (fact_at bytes n ∷ []) i k ∙ ap (slice_get (fact_at bytes n ∷ [])) z ∙ ap (λ (j : ℕ). Some (fact_at bytes j)) e
    ]

pub facts_past : (n i : ℕ) (bytes : List ℕ) → n ≤ i → slice_get (facts_in n bytes) i ≡ None
facts_past n i bytes h = slice_get_past (facts_in n bytes) i (rw facts_count h)

listed_last : (facts : List Fact) (g f : Fact) → listed (facts ++ g ∷ []) f ≡ (listed facts f || same_fact g f)
listed_last facts g f = listed_both facts (g ∷ []) f ∙ ap (λ (b : Bool). listed facts f || b) (or-false (same_fact g f))

-- a scan of the records: one that has the fact, and one more that has not
pub facts_have : (n i : ℕ) (bytes : List ℕ) (f : Fact) → i < n → true ≡ same_fact (fact_at bytes i) f → listed (facts_in n bytes) f ≡ true
facts_have zero i bytes f h s = absurd (omega arith)
facts_have (suc n) i bytes f h s =
    listed_last (facts_in n bytes) (fact_at bytes n) f ∙ elim (cases_lt i n) [
      | inl l ↦ or_left (listed (facts_in n bytes) f) (same_fact (fact_at bytes n) f) (facts_have n i bytes f l s)
      | inr g ↦
          let e : i ≡ n = omega arith in
          or_right (listed (facts_in n bytes) f) (same_fact (fact_at bytes n) f) (ap (λ (k : ℕ). same_fact (fact_at bytes k) f) (sym e) ∙ sym s)
    ]

pub facts_lack : (i : ℕ) (bytes : List ℕ) (f : Fact) → listed (facts_in i bytes) f ≡ false → false ≡ same_fact (fact_at bytes i) f → listed (facts_in (i + 1) bytes) f ≡ false
facts_lack i bytes f h s =
    ap (λ (k : ℕ). listed (facts_in k bytes) f) (add-one i)
    ∙ listed_last (facts_in i bytes) (fact_at bytes i) f ∙ or_from (listed (facts_in i bytes) f) (same_fact (fact_at bytes i) f) h (sym s)

-- the records in bytes, as the code has them
pub chunks_more : (n : ℕ) (bytes : List ℕ) → first_chunks 6 (suc n) bytes ≡ first_chunks 6 n bytes ++ record_at bytes n ∷ []
chunks_more zero bytes = refl
chunks_more (suc n) bytes =
    let e : 6 + 6 * n ≡ 6 * suc n = omega arith in
    ap (λ (z : List (List ℕ)). take 6 bytes ∷ z) (chunks_more n (drop 6 bytes) ∙ ap (λ (z : List ℕ). first_chunks 6 n (drop 6 bytes) ++ z ∷ [])
    (ap (take 6) (drop-drop (6 * n) 6 bytes ∙ ap (λ (k : ℕ). drop k bytes) e)))

pub chunks_facts : (n : ℕ) (bytes : List ℕ) → map fact_in (first_chunks 6 n bytes) ≡ facts_in n bytes
chunks_facts zero bytes = refl
chunks_facts (suc n) bytes =
    ap (map fact_in) (chunks_more n bytes) ∙ map-append fact_in (first_chunks 6 n bytes) (record_at bytes n ∷ [])
    ∙ ap (λ (z : List Fact). z ++ fact_at bytes n ∷ []) (chunks_facts n bytes)

pub chunks_front : (i n : ℕ) (bytes : List ℕ) → i ≤ n → take i (first_chunks 6 n bytes) ≡ first_chunks 6 i bytes
chunks_front zero n bytes h = refl
chunks_front (suc i) zero bytes h = absurd (omega arith)
chunks_front (suc i) (suc n) bytes h = ap (λ (z : List (List ℕ)). take 6 bytes ∷ z) (chunks_front i n (drop 6 bytes) (omega arith))

pub chunks_length : (n : ℕ) (bytes : List ℕ) → length (first_chunks 6 n bytes) ≡ n
chunks_length zero bytes = refl
chunks_length (suc n) bytes = let e = chunks_length n (drop 6 bytes) in omega arith

pub chunks_nth : (n i : ℕ) (bytes d : List ℕ) → i < n → get_or (first_chunks 6 n bytes) i d ≡ record_at bytes i
chunks_nth zero i bytes d h = absurd (omega arith)
chunks_nth (suc n) zero bytes d h = refl
chunks_nth (suc n) (suc i) bytes d h =
    let e : 6 + 6 * i ≡ 6 * suc i = omega arith in
    chunks_nth n i (drop 6 bytes) d (omega arith) ∙ ap (take 6) (drop-drop (6 * i) 6 bytes ∙ ap (λ (k : ℕ). drop k bytes) e)

-- the records that are looked at, and the one at a place after those before it
pub looked_at : (bytes : List ℕ) (records : List (List ℕ)) (m : ℕ) → records ≡ first_chunks 6 (length bytes / 6) bytes → m ≡ min (length records) 65536
    → take m records ≡ first_chunks 6 (min (length bytes / 6) 65536) bytes
looked_at bytes records m e f =
    let n = length bytes / 6 in
    let l : m ≡ min n 65536 = f ∙ ap (λ (z : List (List ℕ)). min (length z) 65536) e ∙ ap (λ (k : ℕ). min k 65536) (chunks_length n bytes) in
    ap (λ (k : ℕ). take k records) l ∙ ap (take (min n 65536)) e ∙ chunks_front (min n 65536) n bytes (omega arith)

module _ (bytes : List ℕ) (records : List (List ℕ)) (n : ℕ) (e : records ≡ first_chunks 6 n bytes) where
  pub looked_length : length records ≡ n
  looked_length = ap length e ∙ chunks_length n bytes

  pub good_there : (i : ℕ) (d : List ℕ) → i < length records → good (get_or records i d) (map fact_in (take i records)) ≡ good_at bytes i
  good_there i d h =
      let l : i < n = omega (arith, looked_length) in
      ap (λ (z : List (List ℕ)). good (get_or z i d) (map fact_in (take i z))) e
      ∙ ap (λ (r : List ℕ). good r (map fact_in (take i (first_chunks 6 n bytes)))) (chunks_nth n i bytes d l)
      ∙ ap (good (record_at bytes i)) (ap (map fact_in) (chunks_front i n bytes (omega arith)) ∙ chunks_facts i bytes)

-- records in a front part of the bytes
record_front : (bytes : List ℕ) (n i : ℕ) → i < n → record_at (take (6 * n) bytes) i ≡ record_at bytes i
record_front bytes n i h =
    let e : 6 * n ≡ 6 * i + (6 * n - 6 * i) = omega arith in
    ap (λ (k : ℕ). take 6 (drop (6 * i) (take k bytes))) e ∙ ap (take 6) (drop-take (6 * i) (6 * n - 6 * i) bytes)
    ∙ take-take 6 (6 * n - 6 * i) (drop (6 * i) bytes) (omega arith)

pub facts_front : (bytes : List ℕ) (n i : ℕ) → i ≤ n → facts_in i (take (6 * n) bytes) ≡ facts_in i bytes
facts_front bytes n zero h = refl
facts_front bytes n (suc i) h =
    ap (λ (x : List Fact). x ++ fact_at (take (6 * n) bytes) i ∷ []) (facts_front bytes n i (omega arith))
    ∙ ap (λ (x : List ℕ). facts_in i bytes ++ fact_in x ∷ []) (record_front bytes n i (omega arith))

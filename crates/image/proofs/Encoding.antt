-- Records and the bytes that encode them; the sound part is the longest front part of its kind.
use Rattle.std.proofs.Common.{◌≡◌, ℕ, zero, suc, ◌+◌, ◌*◌, ◌/◌, ◌<◌, ◌≤◌, true, false, ◌⊎◌, List, [], ◌∷◌, ◌++◌, length, take, drop, Some, Option, sym, ap, ◌∙◌, subst, inl, inr, refl, append-nil, arith}
use Rattle.std.specs.List.{slice_get}
use Rattle.std.proofs.lemmas.List.{length-append, length-take-le, length-drop, drop_all}
use Rattle.std.proofs.Math.Seq.{take-add}
use Rattle.std.proofs.lemmas.Bool.{and_parts, and_from, cases_Bool, not_from_false}
use Rattle.terms.specs.declared.fact.Fact.{Fact}
use Rattle.terms.specs.Lawful.{lawful_fact}
use Rattle.stores.specs.Meaning.{Meaning, listed}
use Rattle.stores.proofs.Listing.{nth_in, in_nth, listed_in, nth_below}
use Rattle.layout.specs.declared.Group.TheVariants.{Factory}
use Rattle.layout.specs.Layout.{encoded_fact, encoded_facts, marked, fact_in}
use Rattle.layout.proofs.Records.{fact_forth, facts_length, facts_more}
use Rattle.image.specs.SoundParts.{LongestSound, good, record_at, fact_at, facts_in, good_at, sound_count, sound_part, sound_facts}
use Rattle.image.proofs.Reading.{facts_count, facts_nth, facts_front}
use Rattle.image.proofs.Counting.{count_fits, count_good, count_longest, sound_means}

-- a marked record is the encoding of its fact
record_encodes : (r : List ℕ) → length r ≡ 6 → marked Factory r ≡ true → r ≡ encoded_fact Factory (fact_in r)
record_encodes r l m = fact_forth Factory r m (omega arith) ∙ ap (λ (x : List ℕ). encoded_fact Factory (fact_in r) ++ x) (drop_all 6 r (omega arith)) ∙ append-nil _

front_encodes : (n : ℕ) (bytes : List ℕ) → 6 * n ≤ length bytes → ((j : ℕ) → j < n → good_at bytes j ≡ true) → take (6 * n) bytes ≡ encoded_facts Factory (facts_in n bytes)
front_encodes zero bytes h g = refl
front_encodes (suc n) bytes h g =
    let e : 6 * suc n ≡ 6 * n + 6 = omega arith in
    let m = (and_parts (marked Factory (record_at bytes n)) _ (g n (omega arith))).0 in
    let d = length-drop (6 * n) bytes in
    let l = length-take-le 6 (drop (6 * n) bytes) (omega arith) in
    ap (λ (k : ℕ). take k bytes) e ∙ take-add (6 * n) 6 bytes
    ∙ ap (λ (x : List ℕ). take (6 * n) bytes ++ x) (record_encodes (record_at bytes n) l m)
    ∙ ap (λ (x : List ℕ). x ++ encoded_fact Factory (fact_at bytes n)) (front_encodes n bytes (omega arith) (λ j l. g j (omega arith)))
    ∙ sym (facts_more Factory (facts_in n bytes) (fact_at bytes n))

pub sound_encodes : (bytes : List ℕ) → sound_part bytes ≡ encoded_facts Factory (sound_facts bytes)
sound_encodes bytes = front_encodes (sound_count bytes) bytes (count_fits bytes).0 (count_good bytes)

-- the records of an encoding are those of its facts
record_after : (f : Fact) (bytes : List ℕ) (i : ℕ) → record_at (encoded_fact Factory f ++ bytes) (suc i) ≡ record_at bytes i
record_after f bytes i =
    let e : 6 * suc i ≡ suc (suc (suc (suc (suc (suc (6 * i)))))) = omega arith in
    ap (λ (n : ℕ). take 6 (drop n (encoded_fact Factory f ++ bytes))) e

encoded_record : (facts : List Fact) (rest : List ℕ) (i : ℕ) (f : Fact) → slice_get facts i ≡ Some f → record_at (encoded_facts Factory facts ++ rest) i ≡ encoded_fact Factory f
encoded_record [] rest i f h = let z : ◌≡◌ {A = ℕ} 0 1 = cc in absurd (omega arith)
encoded_record (g ∷ facts) rest zero f h = let e : g ≡ f = cc in ap (encoded_fact Factory) e
encoded_record (g ∷ facts) rest (suc i) f h = record_after g (encoded_facts Factory facts ++ rest) i ∙ encoded_record facts rest i f h

pub encoded_fact_at : (facts : List Fact) (rest : List ℕ) (i : ℕ) (f : Fact) → slice_get facts i ≡ Some f → fact_at (encoded_facts Factory facts ++ rest) i ≡ f
encoded_fact_at facts rest i f h = ap fact_in (encoded_record facts rest i f h)

nth_there : (facts : List Fact) (i : ℕ) → i < length facts → (f : Fact) × (slice_get facts i ≡ Some f)
nth_there [] i h = absurd (omega arith)
nth_there (f ∷ facts) zero h = (f, refl)
nth_there (f ∷ facts) (suc i) h = nth_there facts i (omega arith)

some_equal : (f g : Fact) → ◌≡◌ {A = Option Fact} (Some f) (Some g) → f ≡ g
some_equal f g h = cc

module _ (facts : List Fact) (rest : List ℕ) (m : Meaning facts 0) where
  -- no earlier record repeats a fact
  repeated : (i : ℕ) (f : Fact) → slice_get facts i ≡ Some f → listed (facts_in i (encoded_facts Factory facts ++ rest)) f ≡ true → ⊥
  repeated i f h l =
      let bytes = encoded_facts Factory facts ++ rest in
      let p = in_nth (facts_in i bytes) f (listed_in (facts_in i bytes) f l) in
      let b = nth_below (facts_in i bytes) p.0 f p.1 in
      let n = facts_count i bytes in
      let k = nth_below facts i f h in
      let lt : p.0 < i = omega arith in
      let lt' : p.0 < length facts = omega arith in
      let t = nth_there facts p.0 lt' in
      let e : t.0 ≡ f = sym (encoded_fact_at facts rest p.0 t.0 t.1) ∙ some_equal (fact_at bytes p.0) f (sym (facts_nth i p.0 bytes lt) ∙ p.1) in
      let x = m.different p.0 i f (t.1 ∙ ap Some e) h in
      omega arith

  good_encoded : (i : ℕ) → i < length facts → good_at (encoded_facts Factory facts ++ rest) i ≡ true
  good_encoded i h =
      let bytes = encoded_facts Factory facts ++ rest in
      let t = nth_there facts i h in
      let f = t.0 in
      subst (λ (r : List ℕ). good r (facts_in i bytes) ≡ true) (sym (encoded_record facts rest i f t.1))
      (and_from (lawful_fact f) _ (m.lawful f (nth_in facts i f t.1)) (not_from_false (listed (facts_in i bytes) f) (new f t.1 (cases_Bool (listed (facts_in i bytes) f)))))
    where
      new : (f : Fact) → slice_get facts i ≡ Some f → (listed (facts_in i (encoded_facts Factory facts ++ rest)) f ≡ true) ⊎ (listed (facts_in i (encoded_facts Factory facts ++ rest)) f ≡ false)
          → listed (facts_in i (encoded_facts Factory facts ++ rest)) f ≡ false
      new f x (inl y) = absurd (repeated i f x y)
      new f x (inr y) = y

pub part_length : (bytes : List ℕ) → length (sound_part bytes) ≡ 6 * sound_count bytes
part_length bytes = length-take-le (6 * sound_count bytes) bytes (count_fits bytes).0

pub longest_sound : (bytes : List ℕ) → LongestSound bytes (sound_part bytes) (sound_facts bytes)
longest_sound bytes = record {
  sound = record { records = sound_encodes bytes; means = sound_means bytes };
  front = ap (λ (n : ℕ). take n bytes) (sym (part_length bytes));
  longest = λ other rest others e s. long other rest others e s.records s.means;
}
  where
    long : (other rest : List ℕ) (others : List Fact) → bytes ≡ other ++ rest → other ≡ encoded_facts Factory others → Meaning others 0 → length other ≤ length (sound_part bytes)
    long other rest others e r m =
        let whole : bytes ≡ encoded_facts Factory others ++ rest = e ∙ ap (λ (x : List ℕ). x ++ rest) r in
        let n : length other ≡ 6 * length others = ap length r ∙ facts_length Factory others in
        let b : length bytes ≡ length other + length rest = ap length e ∙ length-append other rest in
        let s = m.short in
        let c = count_longest (length others) bytes (omega arith) s (λ j l. ap (λ (x : List ℕ). good_at x j) whole ∙ good_encoded others rest m j l) in
        let p = part_length bytes in
        omega arith

-- the facts of the sound part, read in it
pub part_facts : (bytes part : List ℕ) → part ≡ sound_part bytes → facts_in (length part / 6) part ≡ sound_facts bytes
part_facts bytes part e =
    let n : length part / 6 ≡ sound_count bytes = ap (λ (x : List ℕ). length x / 6) e ∙ ap (λ (x : ℕ). x / 6) (part_length bytes) ∙ omega arith in
    ap (λ (k : ℕ). facts_in k part) n ∙ ap (facts_in (sound_count bytes)) e ∙ facts_front bytes (sound_count bytes) (sound_count bytes) (omega arith)

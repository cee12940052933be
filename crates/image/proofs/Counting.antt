-- How many records at the front of the bytes are good.
use Rattle.std.proofs.Common.{◌≡◌, ℕ, zero, suc, ◌+◌, ◌-◌, ◌*◌, ◌/◌, ◌<◌, ◌≤◌, min, Bool, true, false, cond, not, ◌&&◌, List, length, sym, refl, ap, ◌∙◌, inl, inr, arith}
use Rattle.std.proofs.lemmas.Bool.{cases_lt, and_parts, not-true, false≢true}
use Rattle.terms.specs.Lawful.{lawful_fact}
use Rattle.stores.specs.Meaning.{Meaning, listed}
use Rattle.stores.proofs.Keeping.{means_nothing, means_more, yes_lawful}
use Rattle.layout.specs.declared.Group.TheVariants.{Factory}
use Rattle.layout.specs.Layout.{marked}
use Rattle.image.specs.SoundParts.{fact_at, facts_in, record_at, good_at, good_to, sound_count, sound_facts}
use Rattle.image.proofs.Reading.{facts_count}

-- the turns of the loop
pub good_on : (n i : ℕ) (bytes : List ℕ) → i < n → true ≡ good_at bytes i → good_to (n - i) i bytes ≡ good_to (n - (i + 1)) (i + 1) bytes
good_on n i bytes h g =
    let e : n - i ≡ suc (n - (i + 1)) = omega arith in
    let s : suc i ≡ i + 1 = omega arith in
    ap (λ (k : ℕ). good_to k i bytes) e ∙ ap (λ (b : Bool). cond b (good_to (n - (i + 1)) (suc i) bytes) i) (sym g) ∙ ap (λ (k : ℕ). good_to (n - (i + 1)) k bytes) s

pub good_stops : (n i : ℕ) (bytes : List ℕ) → i < n → false ≡ good_at bytes i → good_to (n - i) i bytes ≡ i
good_stops n i bytes h g =
    let e : n - i ≡ suc (n - (i + 1)) = omega arith in
    ap (λ (k : ℕ). good_to k i bytes) e ∙ ap (λ (b : Bool). cond b (good_to (n - (i + 1)) (suc i) bytes) i) (sym g)

pub good_ends : (n i : ℕ) (bytes : List ℕ) → n ≤ i → good_to (n - i) i bytes ≡ i
good_ends n i bytes h = let e : n - i ≡ 0 = omega arith in ap (λ (k : ℕ). good_to k i bytes) e

-- where the count lies
most_by : (b : Bool) (n i k : ℕ) → n ≤ suc i + k → cond b n i ≤ i + suc k
most_by true n i k h = omega arith
most_by false n i k h = omega arith

good_most : (k i : ℕ) (bytes : List ℕ) → good_to k i bytes ≤ i + k
good_most zero i bytes = omega arith
good_most (suc k) i bytes = most_by (good_at bytes i) _ i k (good_most k (suc i) bytes)

least_by : (b : Bool) (n i : ℕ) → suc i ≤ n → i ≤ cond b n i
least_by true n i h = omega arith
least_by false n i h = omega arith

good_least : (k i : ℕ) (bytes : List ℕ) → i ≤ good_to k i bytes
good_least zero i bytes = omega arith
good_least (suc k) i bytes = least_by (good_at bytes i) (good_to k (suc i) bytes) i (good_least k (suc i) bytes)

pub count_fits : (bytes : List ℕ) → (6 * sound_count bytes ≤ length bytes) × (sound_count bytes ≤ 65536)
count_fits bytes = let b = good_most (min (length bytes / 6) 65536) 0 bytes in (omega arith, omega arith)

-- the records below the count are good
below_by : (b : Bool) (n i : ℕ) (bytes : List ℕ) → good_at bytes i ≡ b → ((j : ℕ) → i < j → j < n → good_at bytes j ≡ true) → (j : ℕ) → i ≤ j → j < cond b n i → good_at bytes j ≡ true
below_by true n i bytes g h j le lt = elim (cases_lt i j) [ inl l ↦ h j l lt | inr ge ↦ (let e : j ≡ i = omega arith in ap (good_at bytes) e ∙ g) ]
below_by false n i bytes g h j le lt = absurd (omega arith)

good_below : (k i : ℕ) (bytes : List ℕ) (j : ℕ) → i ≤ j → j < good_to k i bytes → good_at bytes j ≡ true
good_below zero i bytes j le lt = absurd (omega arith)
good_below (suc k) i bytes j le lt = below_by (good_at bytes i) (good_to k (suc i) bytes) i bytes refl (λ x l h. good_below k (suc i) bytes x (omega arith) h) j le lt

pub count_good : (bytes : List ℕ) (j : ℕ) → j < sound_count bytes → good_at bytes j ≡ true
count_good bytes j h = good_below (min (length bytes / 6) 65536) 0 bytes j (omega arith) h

-- no more records than the count are good
longest_by : (b : Bool) (n i m : ℕ) → i ≤ n → (i < m → b ≡ true) → (i < m → m ≤ n) → m ≤ cond b n i
longest_by true n i m le g h = elim (cases_lt i m) [ inl l ↦ h l | inr ge ↦ omega arith ]
longest_by false n i m le g h = elim (cases_lt i m) [ inl l ↦ absurd (false≢true (g l)) | inr ge ↦ omega arith ]

longest_from : (k i m : ℕ) (bytes : List ℕ) → m ≤ i + k → ((j : ℕ) → j < m → good_at bytes j ≡ true) → m ≤ good_to k i bytes
longest_from zero i m bytes h g = omega arith
longest_from (suc k) i m bytes h g =
    let c = good_least k (suc i) bytes in
    longest_by (good_at bytes i) (good_to k (suc i) bytes) i m (omega arith) (λ l. g i l) (λ l. longest_from k (suc i) m bytes (omega arith) g)

pub count_longest : (m : ℕ) (bytes : List ℕ) → 6 * m ≤ length bytes → m ≤ 65536 → ((j : ℕ) → j < m → good_at bytes j ≡ true) → m ≤ sound_count bytes
count_longest m bytes h k g = longest_from (min (length bytes / 6) 65536) 0 m bytes (omega arith) g

-- good records are different lawful facts
good_means : (i : ℕ) (bytes : List ℕ) → Meaning (facts_in i bytes) 0 → i < 65536 → good_at bytes i ≡ true → Meaning (facts_in (suc i) bytes) 0
good_means i bytes m h g =
    let p = and_parts (marked Factory (record_at bytes i)) (lawful_fact (fact_at bytes i) && not (listed (facts_in i bytes) (fact_at bytes i))) g in
    let q = and_parts (lawful_fact (fact_at bytes i)) (not (listed (facts_in i bytes) (fact_at bytes i))) p.1 in
    let len = facts_count i bytes in
    let m1 : Meaning (facts_in i bytes) 1 = record { lawful = m.lawful; different = m.different; short = m.short; fits = omega arith } in
    means_more (facts_in i bytes) 1 (fact_at bytes i) m1 (yes_lawful (fact_at bytes i) q.0) (not-true (listed (facts_in i bytes) (fact_at bytes i)) q.1) (omega arith)

front_means : (i : ℕ) (bytes : List ℕ) → i ≤ 65536 → ((j : ℕ) → j < i → good_at bytes j ≡ true) → Meaning (facts_in i bytes) 0
front_means zero bytes h g = means_nothing 0 (omega arith)
front_means (suc i) bytes h g = good_means i bytes (front_means i bytes (omega arith) (λ j l. g j (omega arith))) (omega arith) (g i (omega arith))

pub sound_means : (bytes : List ℕ) → Meaning (sound_facts bytes) 0
sound_means bytes = front_means (sound_count bytes) bytes (count_fits bytes).1 (count_good bytes)

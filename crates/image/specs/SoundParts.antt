-- The sound part at the front of bytes: its factory records, and their facts.
use Rattle.std.specs.Prelude.{◌≡◌, ℕ, zero, suc, ◌*◌, ◌/◌, ◌≤◌, min, Bool, cond, not, ◌&&◌, List, [], ◌∷◌, ◌++◌, length, take, drop}
use Rattle.terms.specs.declared.fact.Fact.{Fact}
use Rattle.terms.specs.Lawful.{lawful_fact}
use Rattle.stores.specs.Meaning.{Meaning, listed}
use Rattle.layout.specs.declared.Group.TheVariants.{Factory}
use Rattle.layout.specs.Layout.{layout, encoded_facts, marked, fact_in}

-- the bytes are whole, lawful factory records, no fact twice, at most 65,536: those of the facts, in their order
pub record Sound (bytes : List ℕ) (facts : List Fact) : Type 0 where
  pub records : bytes ≡ encoded_facts Factory facts
  pub means : Meaning facts 0

-- the part is sound, stands at the front of the bytes, and no longer front part is sound
pub record LongestSound (bytes part : List ℕ) (facts : List Fact) : Type 0 where
  pub sound : Sound part facts
  pub front : part ≡ take (length part) bytes
  pub longest : (other rest : List ℕ) (others : List Fact) → bytes ≡ other ++ rest → Sound other others → length other ≤ length part

-- is a record marked, lawful, and its fact none of those?
abbrev pub good : List ℕ → List Fact → Bool
good r facts = marked Factory r && (lawful_fact (fact_in r) && not (listed facts (fact_in r)))

-- the record at a place counted from 0, and its fact
abbrev pub record_at : List ℕ → ℕ → List ℕ
record_at bytes i = take (layout Factory).size (drop ((layout Factory).size * i) bytes)

abbrev pub fact_at : List ℕ → ℕ → Fact
fact_at bytes i = fact_in (record_at bytes i)

-- the facts of the first n records
abbrev pub facts_in : ℕ → List ℕ → List Fact
facts_in zero bytes = []
facts_in (suc n) bytes = facts_in n bytes ++ fact_at bytes n ∷ []

-- is the record at the place marked, lawful, and none of those before it?
abbrev pub good_at : List ℕ → ℕ → Bool
good_at bytes i = good (record_at bytes i) (facts_in i bytes)

-- the place of the first record from place i on, among n records, that is not good, or the place after them
abbrev pub good_to : ℕ → ℕ → List ℕ → ℕ
good_to zero i bytes = i
good_to (suc n) i bytes = cond (good_at bytes i) (good_to n (suc i) bytes) i

-- the number of good records at the front of the bytes, at most 65,536
abbrev pub sound_count : List ℕ → ℕ
sound_count bytes = good_to (min (length bytes / (layout Factory).size) 65536) 0 bytes

-- the bytes and the facts of those records
abbrev pub sound_part : List ℕ → List ℕ
sound_part bytes = take ((layout Factory).size * sound_count bytes) bytes

abbrev pub sound_facts : List ℕ → List Fact
sound_facts bytes = facts_in (sound_count bytes) bytes

-- the bytes are exactly the records of their facts
abbrev pub ImageValid : List ℕ → Type 0
ImageValid bytes = Sound bytes (facts_in (length bytes / (layout Factory).size) bytes)

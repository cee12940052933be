-- Sets of parts, and what an index of the records holds; no public call cites this file.
use Rattle.std.specs.Prelude.{◌≡◌, ℕ, ◌<◌, ◌/◌, ◌%◌, true, List, [], Some, slice_index_or}
use Rattle.classes.specs.declared.ClassSet.{ClassSet}
use Rattle.classes.specs.Sets.{has}
use Rattle.book.specs.Tables.{set_at}
use Rattle.completion.specs.declared.part_set.PartSet.{PartSet}
use Rattle.completion.specs.declared.record.PartRecord.{PartRecord}
use Rattle.completion.specs.declared.index.Index.{Index}
use Rattle.completion.specs.Records.{Has, leader_of, part_at, value_by}

-- a block of 64 parts
abbrev pub block_at : PartSet → ℕ → ClassSet
block_at s b = set_at s.blocks b

-- the part is in the set
abbrev pub In : PartSet → ℕ → Type 0
In s q = has (block_at s (q / 64)) (q % 64) ≡ true

-- the set at a place
abbrev pub parts_at : List PartSet → ℕ → PartSet
parts_at ss k = slice_index_or ss k (record { blocks = [] })

abbrev pub namers_at : List (List PartSet) → ℕ → List PartSet
namers_at ts f = slice_index_or ts f []

-- the set has each part that is its own leader and in the class
abbrev pub HasMembers : List PartRecord → ℕ → PartSet → Type 0
HasMembers ps A s = (q : ℕ) → q < 256 → leader_of ps q ≡ q → Has (part_at ps q) A → In s q

-- at each value the sets have each part that is its own leader and has it by the feature
abbrev pub HasNamers : List PartRecord → ℕ → List PartSet → Type 0
HasNamers ps f ss = (q v : ℕ) → q < 256 → leader_of ps q ≡ q → value_by (part_at ps q) f ≡ Some v → In (parts_at ss v) q

-- the index has each part that is its own leader, by its classes and values
pub record Lists (ps : List PartRecord) (x : Index) : Type 0 where
  pub members : (A : ℕ) → A < 64 → HasMembers ps A (parts_at x.members A)
  pub namers : (f : ℕ) → f < 16 → HasNamers ps f (namers_at x.namers f)

-- Tables of class steps: for each class the set of classes that it lies within, and by each feature leads to.
use Rattle.std.specs.Prelude.{◌≡◌, ℕ, ◌<◌, true, ◌↔◌, List, [], slice_index_or}
use Rattle.classes.specs.declared.ClassSet.{ClassSet}
use Rattle.classes.specs.Sets.{has, none}
use Rattle.terms.specs.Worlds.{Rule}
use Rattle.terms.specs.Steps.{Within, Leads}

-- the set at a place of a table, none past its end
abbrev pub set_at : List ClassSet → ℕ → ClassSet
set_at table i = slice_index_or table i none

-- the table at a place of a list of tables, empty past its end
abbrev pub table_at : List (List ClassSet) → ℕ → List ClassSet
table_at tables f = slice_index_or tables f []

-- class B is in the set at a place
abbrev pub At : List ClassSet → ℕ → ℕ → Type 0
At table i B = has (set_at table i) B ≡ true

-- the tables hold exactly the class steps of the rules; `leads` has a table for each feature
pub record Steps (R : List Rule) (within : List ClassSet) (leads : List (List ClassSet)) : Type 0 where
  pub within_is : (A B : ℕ) → A < 64 → At within A B ↔ Within R A B
  pub leads_is : (A f B : ℕ) → A < 64 → f < 16 → At (table_at leads f) A B ↔ Leads R A f B
  -- a class leads by a feature, and only a class by a feature does
  pub leads_low : (A f B : ℕ) → Leads R A f B → (A < 64) × (f < 16)

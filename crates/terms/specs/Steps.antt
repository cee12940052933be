-- Class steps: what the rules say of classes alone.
use Rattle.std.specs.Prelude.{ℕ, List}
use Rattle.terms.specs.Worlds.{◌∈◌, Rule, subclass, value, pullback, Obj, World, In, KeepsButExclusions}

mutual
  -- A lies within B: the least relation that has, with Leads, these properties
  pub data Within (R : List Rule) : ℕ → ℕ → Type 0 where
    itself : {A : ℕ} → Within R A A
    by_rule : {A B : ℕ} → subclass A B ∈ R → Within R A B
    chained : {A B C : ℕ} → Within R A B → Within R B C → Within R A C
    pulled : {A f B C : ℕ} → Leads R A f B → pullback f B C ∈ R → Within R A C

  -- A leads by f to B
  pub data Leads (R : List Rule) : ℕ → ℕ → ℕ → Type 0 where
    by_value : {A f B : ℕ} → value A f B ∈ R → Leads R A f B
    widened : {A C f D B : ℕ} → Within R A C → Leads R C f D → Within R D B → Leads R A f B

-- in every world that keeps the rules but the exclusions, the objects of A are in B
abbrev pub AlwaysWithin : List Rule → ℕ → ℕ → Type 0
AlwaysWithin R A B = (W : World) → KeepsButExclusions R W → (x : Obj) → In W A x → In W B x

-- in every such world the values by f of the objects of A are in B
abbrev pub AlwaysLeads : List Rule → ℕ → ℕ → ℕ → Type 0
AlwaysLeads R A f B = (W : World) → KeepsButExclusions R W → (x : Obj) → In W A x → In W B (W.feature f x)

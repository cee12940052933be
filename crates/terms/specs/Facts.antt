-- Facts, and the worlds that keep a book's rules and facts.
use Rattle.std.specs.Prelude.{◌≡◌, ℕ, cond, List, map, ◌==◌}
use Rattle.terms.specs.declared.fact.Fact.{Fact}
use Rattle.terms.specs.Worlds.{◌∈◌, Rule, World, In, KeepsAll, KeepsButExclusions}

-- what can be claimed of parts
pub data Claim : Type 0 where
  -- part p is in class A
  in_class : (p A : ℕ) → Claim
  -- the value of feature f at part p is part q
  value_at : (p f q : ℕ) → Claim
  -- parts p and q are one object
  one_object : (p q : ℕ) → Claim

-- the claim of a fact: kinds 1 to 3
abbrev pub claim_of : Fact → Claim
claim_of c =
    cond (c.kind == 1) (in_class c.first c.second)
    (cond (c.kind == 2) (value_at c.first c.second c.third) (one_object c.first c.second))

abbrev pub claims_of : List Fact → List Claim
claims_of facts = map claim_of facts

-- the claim is true in the world
abbrev pub Holds : World → Claim → Type 0
Holds W (in_class p A) = In W A (W.part p)
Holds W (value_at p f q) = W.feature f (W.part p) ≡ W.part q
Holds W (one_object p q) = W.part p ≡ W.part q

-- the world keeps every rule and every claim
pub record KeepsBook (R : List Rule) (F : List Claim) (W : World) : Type 0 where
  pub rules : KeepsAll R W
  pub facts : (c : Claim) → c ∈ F → Holds W c

-- the world keeps every claim, and every rule but the exclusions
pub record NearlyKeeps (R : List Rule) (F : List Claim) (W : World) : Type 0 where
  pub rules : KeepsButExclusions R W
  pub facts : (c : Claim) → c ∈ F → Holds W c

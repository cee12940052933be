-- Rules and claims within the limits of a book: 64 classes, 16 features, 256 parts.
use Rattle.std.specs.Prelude.{ℕ, ◌<◌, List, [], ◌∷◌}
use Rattle.terms.specs.Worlds.{◌∈◌, Rule, subclass, disjoint, value, pullback, key}
use Rattle.terms.specs.Facts.{Claim, in_class, value_at, one_object}

-- the list is not empty
abbrev pub Nonempty : List ℕ → Type 0
Nonempty [] = ⊥
Nonempty (f ∷ fs) = Unit {0}

abbrev pub RuleLegal : Rule → Type 0
RuleLegal (subclass A B) = (A < 64) × (B < 64)
RuleLegal (disjoint A B) = (A < 64) × (B < 64)
RuleLegal (value A f B) = (A < 64) × (f < 16) × (B < 64)
RuleLegal (pullback f A B) = (f < 16) × (A < 64) × (B < 64)
RuleLegal (key A B fs) = (A < 64) × (B < 64) × ((f : ℕ) → f ∈ fs → f < 16) × Nonempty fs

abbrev pub ClaimLegal : Claim → Type 0
ClaimLegal (in_class p A) = (p < 256) × (A < 64)
ClaimLegal (value_at p f q) = (p < 256) × (f < 16) × (q < 256)
ClaimLegal (one_object p q) = (p < 256) × (q < 256)

-- every rule of the list is within the limits
abbrev pub RulesLegal : List Rule → Type 0
RulesLegal R = (r : Rule) → r ∈ R → RuleLegal r

-- all rules and claims are within the limits
pub record Legal (R : List Rule) (F : List Claim) : Type 0 where
  pub rules : RulesLegal R
  pub facts : (c : Claim) → c ∈ F → ClaimLegal c

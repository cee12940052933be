-- Class steps and completed claims of legal rules and facts are within the limits.
use Rattle.std.proofs.Common.{◌≡◌, ℕ, ◌<◌, ◌⊎◌, List, [], sym, refl, ◌∙◌, inl, inr, arith}
use Rattle.terms.specs.Worlds.{◌∈◌, Rule, key}
use Rattle.terms.specs.Steps.{Within, itself, by_rule, chained, pulled, Leads, by_value, widened}
use Rattle.terms.specs.Facts.{Claim, in_class, value_at, one_object}
use Rattle.terms.specs.Completed.{Known, told, same, turned, joined, class_shared, value_shared, one_value, class_up, class_along, class_back, keyed}
use Rattle.theory.specs.Legal.{ClaimLegal, RulesLegal, Legal}

-- as ClaimLegal, but a part of any number is itself
abbrev pub Ranged : Claim → Type 0
Ranged (in_class p A) = (p < 256) × (A < 64)
Ranged (value_at p f q) = (p < 256) × (f < 16) × (q < 256)
Ranged (one_object p q) = (p ≡ q) ⊎ ((p < 256) × (q < 256))

ranged : (c : Claim) → ClaimLegal c → Ranged c
ranged (in_class p A) h = h
ranged (value_at p f q) h = h
ranged (one_object p q) h = inr h

flip : {p q : ℕ} → (p ≡ q) ⊎ ((p < 256) × (q < 256)) → (q ≡ p) ⊎ ((q < 256) × (p < 256))
flip (inl e) = inl (sym e)
flip (inr h) = inr (h.1, h.0)

chain : {n p q r : ℕ} → (p ≡ q) ⊎ ((p < n) × (q < n)) → (q ≡ r) ⊎ ((q < n) × (r < n)) → (p ≡ r) ⊎ ((p < n) × (r < n))
chain (inl e) (inl e') = inl (e ∙ e')
chain (inl e) (inr h) = inr (omega arith)
chain (inr h) (inl e) = inr (omega arith)
chain (inr h) (inr h') = inr (omega arith)

module _ {R : List Rule} (l : RulesLegal R) where
  mutual
    pub within_range : {A B : ℕ} → Within R A B → (A ≡ B) ⊎ ((A < 64) × (B < 64))
    within_range itself = inl refl
    within_range (by_rule m) = inr (l _ m)
    within_range (chained s t) = chain (within_range s) (within_range t)
    within_range (pulled s m) = inr ((leads_range s).0, (l _ m).2)

    pub leads_range : {A f B : ℕ} → Leads R A f B → (A < 64) × (f < 16) × (B < 64)
    leads_range (by_value m) = l _ m
    leads_range (widened s d t) = let a = within_range s in let b = leads_range d in let c = within_range t in omega arith

  pub no_empty : (A B : ℕ) → key A B [] ∈ R → ⊥
  no_empty A B m = (l _ m).3

module _ {R : List Rule} {F : List Claim} (l : Legal R F) where
  pub known_range : {c : Claim} → Known R F c → Ranged c
  known_range (told {c = c} m) = ranged c (l.facts c m)
  known_range same = inl refl
  known_range (turned e) = flip (known_range e)
  known_range (joined e e') = chain (known_range e) (known_range e')
  known_range (class_shared e h) = let a = known_range e in let b = known_range h in omega arith
  known_range (value_shared e h) = let a = known_range e in let b = known_range h in omega arith
  known_range (one_value g h) = inr ((known_range g).2, (known_range h).2)
  known_range (class_up h s) = let a = known_range h in let b = within_range l.rules s in omega arith
  known_range (class_along h d v) = ((known_range v).2, (leads_range l.rules d).2)
  known_range (class_back v h m) = ((known_range v).0, (l.rules _ m).2)
  known_range (keyed m g h a) = inr ((known_range g).0, (known_range h).0)

-- Completed facts: all that the rules and the facts say of the parts.
use Rattle.std.specs.Prelude.{ℕ, List, [], ◌∷◌}
use Rattle.terms.specs.Worlds.{◌∈◌, Rule, pullback, key}
use Rattle.terms.specs.Steps.{Within, Leads}
use Rattle.terms.specs.Facts.{Claim, in_class, value_at, one_object}

mutual
  -- the least collection of claims with these properties
  pub data Known (R : List Rule) (F : List Claim) : Claim → Type 0 where
    -- every fact is in it
    told : {c : Claim} → c ∈ F → Known R F c
    -- being one object is reflexive, symmetric and transitive
    same : {p : ℕ} → Known R F (one_object p p)
    turned : {p q : ℕ} → Known R F (one_object p q) → Known R F (one_object q p)
    joined : {p q r : ℕ} → Known R F (one_object p q) → Known R F (one_object q r) → Known R F (one_object p r)
    -- parts that are one object share classes and values
    class_shared : {p q A : ℕ} → Known R F (one_object p q) → Known R F (in_class p A) → Known R F (in_class q A)
    value_shared : {p q f u : ℕ} → Known R F (one_object p q) → Known R F (value_at p f u) → Known R F (value_at q f u)
    -- two values of one feature at one part are one object
    one_value : {p f u v : ℕ} → Known R F (value_at p f u) → Known R F (value_at p f v) → Known R F (one_object u v)
    -- a part in A is in every class that A lies within
    class_up : {p A B : ℕ} → Known R F (in_class p A) → Within R A B → Known R F (in_class p B)
    -- if p is in A, A leads by f to B, and f has the value q at p, then q is in B
    class_along : {p A f B q : ℕ} → Known R F (in_class p A) → Leads R A f B → Known R F (value_at p f q) → Known R F (in_class q B)
    -- if f has the value q at p, q is in A, and a rule pulls A back by f to B, then p is in B
    class_back : {p f q A B : ℕ} → Known R F (value_at p f q) → Known R F (in_class q A) → pullback f A B ∈ R → Known R F (in_class p B)
    -- parts of a key's classes that agree on its features are one object
    keyed : {p q A B : ℕ} {fs : List ℕ} → key A B fs ∈ R → Known R F (in_class p A) → Known R F (in_class q B) → Agree R F p q fs → Known R F (one_object p q)

  -- each listed feature has a value at both parts, and the two are one object; an untold value is never agreement
  pub data Agree (R : List Rule) (F : List Claim) : ℕ → ℕ → List ℕ → Type 0 where
    on_none : {p q : ℕ} → Agree R F p q []
    on_one_more : {p q f u v : ℕ} {fs : List ℕ} → Known R F (value_at p f u) → Known R F (value_at q f v) → Known R F (one_object u v)
        → Agree R F p q fs → Agree R F p q (f ∷ fs)

-- Tables of what is known, what it is that they are exact, and what they answer.
use Rattle.std.specs.Prelude.{◌≡◌, ℕ, zero, suc, ◌<◌, ◌≤◌, Bool, true, false, cond, ◌&&◌, ◌||◌, ◌↔◌, List, [], ◌∷◌, nat_lt}
use Rattle.std.proofs.Math.Option.{Option, none, some}
use Rattle.terms.specs.Worlds.{Rule}
use Rattle.terms.specs.Steps.{Within, Leads}
use Rattle.terms.specs.Facts.{Claim, in_class, value_at, one_object}
use Rattle.terms.specs.Completed.{Known}

-- for each part its classes, its leader, and for each feature the leader of its value or none; and the class steps
pub record Tables : Type 0 where
  pub has : ℕ → ℕ → Bool
  pub leader : ℕ → ℕ
  pub value_of : ℕ → ℕ → Option ℕ
  pub leads : ℕ → ℕ → ℕ → Bool

-- the tables hold exactly the completed facts and class steps
pub record Exact (R : List Rule) (F : List Claim) (t : Tables) : Type 0 where
  pub has_is : (p A : ℕ) → (t.has p A ≡ true) ↔ Known R F (in_class p A)
  -- the leader is one object with the part, and the lowest that is
  pub leader_is : (p : ℕ) → Known R F (one_object p (t.leader p))
  pub leader_low : (p q : ℕ) → Known R F (one_object p q) → t.leader p ≤ q
  pub value_is : (p f v : ℕ) → (t.value_of p f ≡ some v) ↔ ((q : ℕ) × Known R F (value_at p f q) × (t.leader q ≡ v))
  pub leads_is : (A f B : ℕ) → (t.leads A f B ≡ true) ↔ Leads R A f B

-- the same for the 256 parts, 64 classes and 16 features alone
pub record ExactBelow (R : List Rule) (F : List Claim) (t : Tables) : Type 0 where
  pub has_is : (p A : ℕ) → p < 256 → A < 64 → (t.has p A ≡ true) ↔ Known R F (in_class p A)
  pub leader_is : (p : ℕ) → p < 256 → Known R F (one_object p (t.leader p))
  pub leader_low : (p q : ℕ) → p < 256 → Known R F (one_object p q) → t.leader p ≤ q
  pub value_is : (p f v : ℕ) → p < 256 → f < 16 → (t.value_of p f ≡ some v) ↔ ((q : ℕ) × Known R F (value_at p f q) × (t.leader q ≡ v))
  pub leads_is : (A f B : ℕ) → A < 64 → f < 16 → B < 64 → (t.leads A f B ≡ true) ↔ Leads R A f B

-- tables of 256 parts, 64 classes and 16 features, read at every number: past the limits they hold nothing
unfoldable pub extended : Tables → Tables
extended t = record {
  has = λ p A. (nat_lt p 256 && nat_lt A 64) && t.has p A;
  leader = λ p. cond (nat_lt p 256) (t.leader p) p;
  value_of = λ p f. cond (nat_lt p 256 && nat_lt f 16) (t.value_of p f) none;
  leads = λ A f B. ((nat_lt A 64 && nat_lt f 16) && nat_lt B 64) && t.leads A f B;
}

-- the class steps of the rules, decided
pub record Decided (R : List Rule) (within : ℕ → ℕ → Bool) (leads : ℕ → ℕ → ℕ → Bool) : Type 0 where
  pub within_is : (A B : ℕ) → (within A B ≡ true) ↔ Within R A B
  pub leads_is : (A f B : ℕ) → (leads A f B ≡ true) ↔ Leads R A f B

-- some number below n passes the test
unfoldable pub any_below : ℕ → (ℕ → Bool) → Bool
any_below zero p = false
any_below (suc n) p = p n || any_below n p

-- the classes to which those of S lead by f
unfoldable pub step : Tables → (ℕ → Bool) → ℕ → (ℕ → Bool)
step t S f B = any_below 64 (λ A. S A && t.leads A f B)

-- and along a word
abbrev pub steps : Tables → (ℕ → Bool) → List ℕ → (ℕ → Bool)
steps t S [] = S
steps t S (f ∷ w) = steps t (step t S f) w

-- follow told values as far as they are told, then step the class sets
abbrev pub follow : Tables → ℕ → List ℕ → ℕ → Bool
follow t p [] A = t.has p A
follow t p (f ∷ w) A = elim (t.value_of p f) [ some v ↦ follow t v w A | none ↦ steps t (t.has p) (f ∷ w) A ]

-- is the object that w reaches from p in A, as the tables have it?
abbrev pub member : Tables → ℕ → List ℕ → ℕ → Bool
member t p w A = follow t (t.leader p) w A

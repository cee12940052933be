-- Paths in the graph of pairs of classes.
use Rattle.std.specs.Prelude.{◌≡◌, ℕ, List, [], ◌∷◌}
use Rattle.std.proofs.Math.Option.{some}
use Rattle.std.proofs.Math.ListN.{get_elem?}
use Rattle.terms.specs.Worlds.{Rule, disjoint}
use Rattle.terms.specs.Steps.{Leads}
use Rattle.terms.specs.Facts.{Claim, in_class}
use Rattle.terms.specs.Completed.{Known}

-- from class A the class steps lead along the word to B
pub data Way (R : List Rule) : ℕ → List ℕ → ℕ → Type 0 where
  stay : {A : ℕ} → Way R A [] A
  go : {A f C B : ℕ} {w : List ℕ} → Leads R A f C → Way R C w B → Way R A (f ∷ w) B

-- a path from two classes of the part p, along the word w, to the pair A and B: each edge takes both classes by one feature
pub record PairPath (R : List Rule) (F : List Claim) (p : ℕ) (w : List ℕ) (A B : ℕ) : Type 0 where
  pub from_a : ℕ
  pub from_b : ℕ
  pub in_a : Known R F (in_class p from_a)
  pub in_b : Known R F (in_class p from_b)
  pub way_a : Way R from_a w A
  pub way_b : Way R from_b w B

-- a path to the pair that rule number i excludes
pub record Reaches (R : List Rule) (F : List Claim) (p : ℕ) (w : List ℕ) (i : ℕ) : Type 0 where
  pub left : ℕ
  pub right : ℕ
  pub row : get_elem? R i ≡ some (disjoint left right)
  pub path : PairPath R F p w left right

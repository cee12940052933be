-- Clashes, verdicts and certain answers, in the words of worlds.
use Rattle.std.specs.Prelude.{◌≡◌, ℕ, ◌≤◌, List, length}
use Rattle.std.proofs.Math.Option.{some}
use Rattle.std.proofs.Math.ListN.{get_elem?}
use Rattle.terms.specs.Worlds.{Rule, disjoint, Obj, World, In, KeepsAll, reach}
use Rattle.terms.specs.Facts.{Claim, KeepsBook, NearlyKeeps}

-- a part, a word and rule number i make a clash: the rule is an exclusion, and every world that keeps the facts and
-- all rules but the exclusions has the object that the word reaches in both its classes
pub record Clash (R : List Rule) (F : List Claim) (p : ℕ) (w : List ℕ) (i : ℕ) : Type 0 where
  pub left : ℕ
  pub right : ℕ
  pub row : get_elem? R i ≡ some (disjoint left right)
  pub both : (W : World) → NearlyKeeps R F W → In W left (reach W p w) × In W right (reach W p w)

-- no part, word and rule make a clash
abbrev pub Stands : List Rule → List Claim → Type 0
Stands R F = (p : ℕ) (w : List ℕ) (i : ℕ) → ¬ Clash R F p w i

-- a clash, and none has a shorter word
pub record Shortest (R : List Rule) (F : List Claim) (p : ℕ) (w : List ℕ) (i : ℕ) : Type 0 where
  pub clash : Clash R F p w i
  pub least : (q : ℕ) (v : List ℕ) (j : ℕ) → Clash R F q v j → length w ≤ length v

-- in every world that keeps the book, the object that the word reaches from the part is in the class
abbrev pub CertainMember : List Rule → List Claim → ℕ → List ℕ → ℕ → Type 0
CertainMember R F p w A = (W : World) → KeepsBook R F W → In W A (reach W p w)

-- in every world that keeps the book, the two parts are one object
abbrev pub CertainSame : List Rule → List Claim → ℕ → ℕ → Type 0
CertainSame R F p q = (W : World) → KeepsBook R F W → W.part p ≡ W.part q

-- some world keeps every rule and has an object in the class
abbrev pub Possible : List Rule → ℕ → Type 0
Possible R A = ∥ ((W : World) × (x : Obj) × KeepsAll R W × In W A x) ∥₁

-- Rules, and the worlds that keep them.
use Rattle.std.specs.Prelude.{◌≡◌, ℕ, zero, suc, Bool, true, false, cond, List, [], ◌∷◌, map, ◌==◌}
use mathlib.Core.List.{Memᴰ}
use Rattle.terms.specs.declared.row.Row.{Row}
use Rattle.terms.specs.Rows.{feature_at}

infix 4 ◌∈◌
-- x stands in the list
abbrev pub ◌∈◌ : {X : Type 0} → X → List X → Type 0
x ∈ xs = Memᴰ x xs

-- a rule, by its kind
pub data Rule : Type 0 where
  subclass : (A B : ℕ) → Rule
  disjoint : (A B : ℕ) → Rule
  value : (A f B : ℕ) → Rule
  pullback : (f A B : ℕ) → Rule
  key : (A B : ℕ) → List ℕ → Rule

-- n features of the row, from place k on
abbrev pub features_from : Row → ℕ → ℕ → List ℕ
features_from r k zero = []
features_from r k (suc n) = feature_at r k ∷ features_from r (suc k) n

-- the rule that a row says: kinds 1 to 5
abbrev pub rule_of : Row → Rule
rule_of r =
    cond (r.kind == 1) (subclass r.left r.right)
    (cond (r.kind == 2) (disjoint r.left r.right)
    (cond (r.kind == 3) (value r.left (feature_at r 0) r.right)
    (cond (r.kind == 4) (pullback (feature_at r 0) r.left r.right)
    (key r.left r.right (features_from r 0 r.count)))))

abbrev pub rules_of : List Row → List Rule
rules_of rows = map rule_of rows

-- the objects of a world are the finite lists of whole numbers
abbrev pub Obj : Type 0
Obj = List ℕ

-- a world gives every part an object, every feature a function and every class a set of objects
pub record World : Type 0 where
  pub part : ℕ → Obj
  pub feature : ℕ → Obj → Obj
  pub class : ℕ → Obj → Bool

-- the object x is in the class A
abbrev pub In : World → ℕ → Obj → Type 0
In W A x = W.class A x ≡ true

-- the rule is true in the world
abbrev pub Keeps : World → Rule → Type 0
-- every object in A is in B
Keeps W (subclass A B) = (x : Obj) → In W A x → In W B x
-- no object is in both A and B
Keeps W (disjoint A B) = (x : Obj) → In W A x → In W B x → ⊥
-- the value by f of every object in A is in B
Keeps W (value A f B) = (x : Obj) → In W A x → In W B (W.feature f x)
-- every object whose value by f is in A is in B
Keeps W (pullback f A B) = (x : Obj) → In W A (W.feature f x) → In W B x
-- an object of A and one of B that agree on all listed features are one object
Keeps W (key A B fs) = (x y : Obj) → In W A x → In W B y → ((f : ℕ) → f ∈ fs → W.feature f x ≡ W.feature f y) → x ≡ y

-- is the rule an exclusion?
abbrev pub exclusion : Rule → Bool
exclusion (subclass A B) = false
exclusion (disjoint A B) = true
exclusion (value A f B) = false
exclusion (pullback f A B) = false
exclusion (key A B fs) = false

-- the world keeps every rule of the list
abbrev pub KeepsAll : List Rule → World → Type 0
KeepsAll R W = (r : Rule) → r ∈ R → Keeps W r

-- the world keeps every rule of the list but the exclusions
abbrev pub KeepsButExclusions : List Rule → World → Type 0
KeepsButExclusions R W = (r : Rule) → r ∈ R → exclusion r ≡ false → Keeps W r

-- the object that a word reaches from x by following its features in order
abbrev pub along : World → List ℕ → Obj → Obj
along W [] x = x
along W (f ∷ w) x = along W w (W.feature f x)

-- the object that a word reaches from a part
abbrev pub reach : World → ℕ → List ℕ → Obj
reach W p w = along W w (W.part p)

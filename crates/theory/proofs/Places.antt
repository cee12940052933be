-- What stands at a number of a list, and what is in it.
use Rattle.std.proofs.Common.{◌≡◌, ℕ, zero, suc, List, [], ◌∷◌, sym, refl, ap, subst}
use mathlib.Core.List.Memᴰ
use mathlib.Core.Option.{Option, some, none-ne-some, some-injective}
use lib.ListN.{get_elem?}
use Rattle.terms.specs.Worlds.{◌∈◌, Rule}

-- what stands at a number is in the list
pub at_mem : (R : List Rule) (i : ℕ) (r : Rule) → get_elem? R i ≡ some r → r ∈ R
at_mem [] i r e = absurd (none-ne-some r e)
at_mem (s ∷ R) zero r e = Memᴰ.head (sym (some-injective s r e))
at_mem (s ∷ R) (suc i) r e = Memᴰ.tail (at_mem R i r e)

-- what is in the list stands at a number
pub mem_at : (R : List Rule) (r : Rule) → r ∈ R → (i : ℕ) × (get_elem? R i ≡ some r)
mem_at [] r m = elim m [ ]
mem_at (s ∷ R) r (Memᴰ.head e) = (0, ap {B = Option Rule} some (sym e))
mem_at (s ∷ R) r (Memᴰ.tail m) = let k = mem_at R r m in (suc k.0, k.1)

-- what holds of each of a list
abbrev pub Each : {A : Type 0} → (A → Type 0) → List A → Type 0
Each P [] = Unit {0}
Each P (a ∷ l) = P a × Each P l

pub each : {A : Type 0} (P : A → Type 0) (l : List A) → Each P l → (a : A) → a ∈ l → P a
each P [] h a m = elim m [ ]
each P (b ∷ l) h a (Memᴰ.head e) = subst P (sym e) h.0
each P (b ∷ l) h a (Memᴰ.tail m) = each P l h.1 a m

-- membership by place
pub is_first : {A : Type 0} {a : A} {l : List A} → a ∈ (a ∷ l)
is_first = Memᴰ.head refl

pub is_second : {A : Type 0} {a b : A} {l : List A} → a ∈ (b ∷ a ∷ l)
is_second = Memᴰ.tail is_first

pub is_third : {A : Type 0} {a b c : A} {l : List A} → a ∈ (b ∷ c ∷ a ∷ l)
is_third = Memᴰ.tail is_second

pub is_fourth : {A : Type 0} {a b c d : A} {l : List A} → a ∈ (b ∷ c ∷ d ∷ a ∷ l)
is_fourth = Memᴰ.tail is_third

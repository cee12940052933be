-- What a set of classes holds, how heavy it is, and what it is to take its lowest class.
use Rattle.std.specs.Prelude.{◌≡◌, ℕ, ◌-◌, ◌/◌, ◌%◌, ◌^◌, ◌<◌, Bool, true, false, not, ◌&&◌, Some, None, Option, ◌==◌, bit_or}
use Rattle.classes.specs.declared.ClassSet.{ClassSet}

-- is the class in the set?
unfoldable pub has : ClassSet → ℕ → Bool
has s k = s.bits / 2 ^ k % 2 == 1

abbrev pub none : ClassSet
none = record { bits = 0 }

abbrev pub all : ClassSet
all = record { bits = 2 ^ 64 - 1 }

abbrev pub joined : ClassSet → ClassSet → ClassSet
joined s t = record { bits = bit_or s.bits t.bits }

-- a number that falls as classes leave the set
abbrev pub weight : ClassSet → ℕ
weight s = s.bits

-- k was the lowest class of s, and t is s without it
pub record Took (s : ClassSet) (k : ℕ) (t : ClassSet) : Type 0 where
  pub low : k < 64
  pub was : has s k ≡ true
  pub first : (j : ℕ) → j < k → has s j ≡ false
  pub rest : (j : ℕ) → has t j ≡ (has s j && not (j == k))
  pub less : weight t < weight s

-- what was taken from s, and the set t that is left
abbrev pub Lowest : ClassSet → Option ℕ → ClassSet → Type 0
Lowest s None t = (s ≡ none) × (t ≡ s)
Lowest s (Some k) t = Took s k t

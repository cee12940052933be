-- What the question "possible" asks, and the parts that its search begins from.
use Rattle.std.specs.Prelude.{◌≡◌, ℕ, suc, ◌&&◌, List, [], ◌∷◌, nat_le, nat_lt}
use Rattle.classes.specs.declared.ClassSet.{ClassSet}
use Rattle.classes.specs.Sets.{none}
use Rattle.terms.specs.Refusals.{Question, ask}
use Rattle.book.specs.Tables.{set_at}

-- is the class below 64, and do the work areas hold 4,096 pairs and 256 part numbers?
abbrev pub possible_questions : ℕ → ℕ → ℕ → List Question
possible_questions class pairs parts = ask 2 (nat_lt class 64) ∷ ask 7 (nat_le 4096 pairs && nat_le 256 parts) ∷ []

-- part 0 has these classes, and no other part has any
pub record Lone (s : ClassSet) (parts : List ClassSet) : Type 0 where
  pub here : set_at parts 0 ≡ s
  pub others : (p : ℕ) → set_at parts (suc p) ≡ none

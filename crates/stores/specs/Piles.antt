-- The additions store: the facts and free places of a pile over another store.
use Rattle.std.specs.Prelude.{ℕ, ◌-◌, ◌≤◌, min, List, ◌++◌, length}
use Rattle.arrayvec.specs.ArrayVec.{array_vec_len}
use Rattle.terms.specs.declared.fact.Fact.{Fact}
use Rattle.stores.specs.declared.additions.Additions.{Additions}
use Rattle.stores.specs.Meaning.{Meaning}

-- the lower list, then its own facts; `facts` gives the list of a lower store
abbrev pub pile_facts : {S : Type 0} → (S → List Fact) → Additions S → List Fact
pile_facts facts s = facts s.below ++ s.own.items

-- the free places over a lower list with n facts in all, of which `used` are its own
abbrev pub free_over : ℕ → ℕ → ℕ
free_over used n = min (64 - used) (65536 - n)

-- the smaller of 64 less its own facts and 65,536 less its whole list
abbrev pub pile_room : {S : Type 0} → (S → List Fact) → Additions S → ℕ
pile_room facts s = free_over (array_vec_len s.own) (length (pile_facts facts s))

-- the states of an additions store: the lower store is in one of its own states, and few facts are its own
pub record PileValid {S : Type 0} (facts : S → List Fact) (valid : S → Type 0) (s : Additions S) : Type 0 where
  pub lower : valid s.below
  pub own_few : array_vec_len s.own ≤ 64
  pub means : Meaning (pile_facts facts s) (pile_room facts s)

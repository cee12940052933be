-- Pairs of classes, their places, and how they were met; no public call cites this file.
use Rattle.std.specs.Prelude.{ℕ, ◌+◌, ◌-◌, ◌*◌, ◌<◌, ◌≤◌, cond, ◌↔◌, List, Some, None, is_none, count_by, Option, min, max, nat_lt, slice_index_or}
use Rattle.classes.specs.declared.ClassSet.{ClassSet}
use Rattle.book.specs.Tables.{At}
use Rattle.search.specs.declared.ClassPair.{ClassPair}
use Rattle.search.specs.declared.trail.Trace.{Trace}

-- the pair has two classes in their order
abbrev pub Proper : ClassPair → Type 0
Proper q = (q.left ≤ q.right) × (q.right < 64)

-- two classes in their order
abbrev pub ordered : ℕ → ℕ → ClassPair
ordered a b = record { left = min a b; right = max a b }

-- the place of a pair among the 2,080: the rows l and 63 - l of the triangle stand side by side
abbrev pub place_of : ClassPair → ℕ
place_of q = cond (nat_lt q.left 32) (64 * q.left + q.right) (65 * (63 - q.left) + q.right + 1)

-- how a pair was met, where it was
abbrev pub entry_of : List (Option Trace) → ClassPair → Option Trace
entry_of T q = slice_index_or T (place_of q) None

-- 0, or one more than the depth
abbrev pub mark : Option Trace → ℕ
mark None = 0
mark (Some t) = t.depth + 1

abbrev pub mark_of : List (Option Trace) → ClassPair → ℕ
mark_of T q = mark (entry_of T q)

-- how many pairs are not met
abbrev pub unmarked : List (Option Trace) → ℕ
unmarked T = count_by is_none T

-- the set of class c has class d exactly when the pair of the two is met
abbrev pub Partners : List ClassSet → List (Option Trace) → Type 0
Partners S T = (c d : ℕ) → c < 64 → d < 64 → At S c d ↔ (0 < mark_of T (ordered c d))

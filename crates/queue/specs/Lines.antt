-- Waiting lines: the entries that wait, and the places for them.
use Rattle.std.specs.Prelude.{ℕ, ◌-◌, cond, List, [], ◌∷◌, ◌++◌, length, take, drop, Ok, Err, Result, nat_lt}
use Rattle.terms.specs.declared.refusal.Refusal.{Refusal}
use Rattle.queue.specs.declared.Queue.{Queue}

-- the place with the number k of a memory of n places, where the first comes again after the last
abbrev pub wrapped : ℕ → ℕ → ℕ
wrapped n k = cond (nat_lt k n) k (k - n)

-- n entries of the memory from place h on, round its end
abbrev pub around : {X : Type 0} → List X → ℕ → ℕ → List X
around memory h n = take n (drop h (memory ++ memory))

-- the entries that wait, in the order they came
abbrev pub waiting : {X : Type 0} → Queue X → List X
waiting q = around q.slots.now q.head q.len

-- every entry of the memory is a place
abbrev pub places : {X : Type 0} → Queue X → ℕ
places q = length q.slots.now

-- the entries that wait once push has answered: an entry that was taken stands at the end
abbrev pub lengthened : {A X : Type 0} → Result A Refusal → List X → X → List X
lengthened (Ok a) entries entry = entries ++ entry ∷ []
lengthened (Err e) entries entry = entries

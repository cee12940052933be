-- Calls on a store and a sheet with their answers, and the facts that the store holds along them.
use Rattle.std.specs.Prelude.{ℕ, Bool, List, [], ◌∷◌, ◌++◌, replicate, Ok, Err, Result}
use Rattle.terms.specs.declared.fact.Fact.{Fact}
use Rattle.terms.specs.declared.refusal.Refusal.{Refusal}
use Rattle.stores.specs.declared.told.Told.{Told}
use Rattle.stores.specs.Meaning.{places_used}
use Rattle.judge.specs.declared.verdict.Verdict.{Verdict}

-- a call, what was lent to it, and its answer: judge has the numbers of pairs and of part numbers in the work areas, and
-- word the place and the buffer before and after
pub data Event : Type 0 where
  tell : (fact : Fact) → Result Told Refusal → Event
  judge : (pairs parts : ℕ) → Result Verdict Refusal → Event
  member : (part : ℕ) (word : List ℕ) (class : ℕ) → Result Bool Refusal → Event
  same : (p q : ℕ) → Result Bool Refusal → Event
  word : (place : ℕ) (before after : List ℕ) → Result ℕ Refusal → Event

-- the facts that the store holds after a call: a fact whose answer uses a place stands at their end
abbrev pub held_after : List Fact → Event → List Fact
held_after fs (tell f r) = fs ++ replicate (places_used r) f
held_after fs (judge m n r) = fs
held_after fs (member p w A r) = fs
held_after fs (same p q r) = fs
held_after fs (word k o n r) = fs

-- and after a list of calls, where it held the facts fs first
abbrev pub held : List Fact → List Event → List Fact
held fs [] = fs
held fs (e ∷ es) = held (held_after fs e) es

-- the call is no judging, or one that was refused
abbrev pub IsQuiet : Event → Type 0
IsQuiet (tell f r) = Unit {0}
IsQuiet (judge m n (Ok v)) = ⊥
IsQuiet (judge m n (Err e)) = Unit {0}
IsQuiet (member p w A r) = Unit {0}
IsQuiet (same p q r) = Unit {0}
IsQuiet (word k o n r) = Unit {0}

-- each of the calls is
abbrev pub Quiet : List Event → Type 0
Quiet [] = Unit {0}
Quiet (e ∷ es) = IsQuiet e × Quiet es

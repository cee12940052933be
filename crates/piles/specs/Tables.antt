-- Row stores that are told facts one after another: their list, and the table that holds it.
use Rattle.std.specs.Prelude.{ℕ, cond, not, ◌&&◌, List, [], ◌∷◌, ◌++◌, length, drop, fold, min, nat_lt}
use Rattle.terms.specs.declared.fact.Fact.{Fact}
use Rattle.terms.specs.Lawful.{lawful_fact}
use Rattle.stores.specs.Meaning.{listed}

-- the places of a table: one a row, up to 65,536
abbrev pub places_of : List Fact → ℕ
places_of rows = min (length rows) 65536

-- the list of a store with so many places, told a fact: a lawful fact that is new is put at the end while a place is free
abbrev pub told : ℕ → List Fact → Fact → List Fact
told places facts f = cond (lawful_fact f && (not (listed facts f) && nat_lt (length facts) places)) (facts ++ f ∷ []) facts

-- its list, told the facts one after another from the empty list on
abbrev pub told_all : ℕ → List Fact → List Fact
told_all places facts = fold (told places) [] facts

-- the rows with the list in front, and past it what they held
abbrev pub rows_with : List Fact → List Fact → List Fact
rows_with facts rows = facts ++ drop (length facts) rows

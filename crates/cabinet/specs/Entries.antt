-- The entries of a log: their facts, the free places beside them, and the states that they can be in.
use Rattle.std.specs.Prelude.{ℕ, ◌-◌, List, map, length}
use Rattle.terms.specs.declared.fact.Fact.{Fact}
use Rattle.stores.specs.Meaning.{Meaning}
use Rattle.cabinet.specs.declared.Entry.{Entry}

abbrev pub fact_of : Entry → Fact
fact_of e = e.fact

-- the facts of the entries, in their order
abbrev pub entry_facts : List Entry → List Fact
entry_facts entries = map fact_of entries

-- one free place an entry that is not in use, of 32
abbrev pub entry_room : List Entry → ℕ
entry_room entries = 32 - length entries

-- the states of a log
abbrev pub LogValid : List Entry → Type 0
LogValid entries = Meaning (entry_facts entries) (entry_room entries)

-- The log of a cabinet: its entries in use, its facts and its free places.
use Rattle.std.specs.Prelude.{ℕ, List}
use Rattle.terms.specs.declared.fact.Fact.{Fact}
use Rattle.cabinet.specs.declared.Entry.{Entry}
use Rattle.cabinet.specs.declared.Cabinet.{Cabinet}
use Rattle.cabinet.specs.Entries.{entry_facts, entry_room}

-- the entries in use, from the first on
abbrev pub in_use : Cabinet → List Entry
in_use s = s.entries.items

abbrev pub log_facts : Cabinet → List Fact
log_facts s = entry_facts (in_use s)

abbrev pub log_room : Cabinet → ℕ
log_room s = entry_room (in_use s)

-- the entry that a fact is written as
abbrev pub next_entry : Cabinet → Fact → Entry
next_entry s f = record { stamp = s.clock; fact = f; panel = s.panel }

-- Whether the facts of entries have a fact.
use Rattle.std.proofs.Common.{◌≡◌, Bool, ◌||◌, List, [], ◌∷◌, refl, ap}
use Rattle.std.specs.List.{list_any}
use Rattle.terms.specs.declared.fact.Fact.{Fact}
use Rattle.terms.specs.Lawful.{same_fact}
use Rattle.stores.specs.Meaning.{listed}
use Rattle.cabinet.specs.declared.Entry.{Entry}
use Rattle.cabinet.specs.Entries.{entry_facts}

-- the entry of a fact that is listed has that fact
pub listed_entry : (entries : List Entry) (f : Fact) → list_any (λ (e : Entry). same_fact e.fact f) entries ≡ listed (entry_facts entries) f
listed_entry [] f = refl
listed_entry (e ∷ entries) f = ap (λ (b : Bool). same_fact e.fact f || b) (listed_entry entries f)

-- Part books as files hold them: rows, factory facts and site facts.
use Rattle.std.specs.Prelude.{◌≡◌, ℕ, ◌+◌, ◌-◌, ◌≤◌, true, ◌⊎◌, cond, List, [], ◌∷◌, ◌++◌, length}
use Rattle.terms.specs.declared.row.Row.{Row}
use Rattle.terms.specs.declared.fact.Fact.{Fact}
use Rattle.terms.specs.Rows.{all_lawful}
use Rattle.terms.specs.Lawful.{lawful_fact}
use Rattle.terms.specs.Worlds.{◌∈◌}
use Rattle.stores.specs.Meaning.{Meaning, listed}
use Rattle.stores.specs.Piles.{free_over}
use Rattle.layout.specs.declared.Group.{Group}
use Rattle.layout.specs.declared.Group.TheVariants.{Rule, Factory, Site}
use Rattle.layout.specs.Layout.{encoded_rows, encoded_facts}

-- the rows, the factory facts, and the site facts in the order in which they are told, those that are listed already among them
pub record PartBook : Type 0 where
  pub rows : List Row
  pub factory : List Fact
  pub site : List Fact

abbrev pub no_records : PartBook
no_records = record { rows = []; factory = []; site = [] }

-- the list after facts were told: one that is listed already is not listed again
abbrev pub told : List Fact → List Fact → List Fact
told facts [] = facts
told facts (f ∷ more) = told (cond (listed facts f) facts (facts ++ f ∷ [])) more

-- the facts that are judged: the factory facts, then the site facts that are new
abbrev pub facts_of : PartBook → List Fact
facts_of b = told b.factory b.site

-- how many places are free for site facts
abbrev pub places_left : PartBook → ℕ
places_left b = free_over (length (facts_of b) - length b.factory) (length (facts_of b))

-- how many records of a group the book has, and how many in all
abbrev pub count_in : PartBook → Group → ℕ
count_in b Rule = length b.rows
count_in b Factory = length b.factory
count_in b Site = length b.site

abbrev pub records_in : PartBook → ℕ
records_in b = length b.rows + (length b.factory + length b.site)

-- the bytes of a book: its rule records, then its factory records, then its site records
abbrev pub encoded_book : PartBook → List ℕ
encoded_book b = encoded_rows b.rows ++ (encoded_facts Factory b.factory ++ encoded_facts Site b.site)

-- rows as records hold them have four feature numbers each
abbrev pub Four : List Row → Type 0
Four [] = Unit {0}
Four (r ∷ rows) = (length r.features ≡ 4) × Four rows

-- the rows are lawful and at most 256, the factory facts lawful and different, the site facts lawful and at most 64 of them new
pub record Lawful (b : PartBook) : Type 0 where
  pub rows : all_lawful b.rows ≡ true
  pub four : Four b.rows
  pub few_rows : length b.rows ≤ 256
  -- different lawful facts
  pub factory : Meaning b.factory 0
  pub site : (f : Fact) → f ∈ b.site → lawful_fact f ≡ true
  pub few_new : length (facts_of b) ≤ length b.factory + 64

-- every record of the book is of one of the groups
abbrev pub InGroups : List Group → PartBook → Type 0
InGroups groups b = (g : Group) → (g ∈ groups) ⊎ (count_in b g ≡ 0)

-- The readers of each group: where a group of records ends, and that reading on from there gives what reading the file gives.
use Rattle.std.specs.Prelude.{◌≡◌, ℕ, ◌-◌, ◌*◌, ◌≤◌, false, cond, not, List, [], ◌∷◌, ◌++◌, length, drop, OnOk, Ok, Err, Result, ◌==◌}
use Rattle.terms.specs.declared.row.Row.{Row}
use Rattle.terms.specs.declared.fact.Fact.{Fact}
use Rattle.terms.specs.declared.refusal.Refusal.{Refusal}
use Rattle.terms.specs.Refusals.{Question, ask, asked, done}
use Rattle.terms.specs.Lawful.{fact_questions}
use Rattle.book.specs.Drafts as drafts
use Rattle.stores.specs.Meaning.{tell_questions}
use Rattle.layout.specs.declared.Group.{Group}
use Rattle.layout.specs.declared.Group.TheVariants.{Rule, Factory, Site}
use Rattle.layout.specs.Layout.{layout, marked, whole, fact_in}
use Rattle.image.specs.Images.{image_facts}
use Rattle.image.specs.SoundParts.{facts_in}
use Rattle.image.specs.declared.store.ImageStore.{ImageStore}
use Rattle.records.specs.declared.Fault.{Fault}
use Rattle.records.specs.declared.rules.RuleGroup.{RuleGroup}
use Rattle.records.specs.Faults.{refused}
use Rattle.records.specs.Books.{PartBook, no_records, told, facts_of, places_left, records_in}
use Rattle.records.specs.Reading.{read_after, all_groups}

-- the bytes after k records of a group
abbrev pub past : Group → ℕ → List ℕ → List ℕ
past g k bytes = drop ((layout g).size * k) bytes

-- there is room for k records of the group at the front of the bytes, and after them its mark does not stand
pub record Ends (g : Group) (k : ℕ) (bytes : List ℕ) : Type 0 where
  pub inside : (layout g).size * k ≤ length bytes
  pub unmarked : marked g (past g k bytes) ≡ false

-- reading on after the first book gives what reading on after the second gives
abbrev pub ReadsOn : List Group → PartBook → List ℕ → PartBook → List ℕ → Type 0
ReadsOn groups b bytes c rest = read_after groups b bytes ≡ read_after groups c rest

-- the next record after the book that is not taken is refused
abbrev pub RefusedAfter : List Group → PartBook → List ℕ → Fault → Type 0
RefusedAfter groups b bytes f = read_after groups b bytes ≡ Err (refused f)

-- a book of rows alone; one of rows and factory facts; the book with k site facts more
abbrev pub rows_alone : List Row → PartBook
rows_alone rows = record { rows = rows; factory = []; site = [] }

abbrev pub no_site : List Row → List Fact → PartBook
no_site rows facts = record { rows = rows; factory = facts; site = [] }

abbrev pub with_site : PartBook → ℕ → List ℕ → PartBook
with_site b k bytes = record { rows = b.rows; factory = b.factory; site = b.site ++ facts_in k bytes }

-- reading the rule records at the front, in any file that begins with them
abbrev pub RulesRead : List ℕ → Result RuleGroup Fault → Type 0
RulesRead bytes (Ok g) =
    (g.records ≡ length (drafts.listed g.draft)) × Ends Rule g.records bytes
    × ((more : List Group) → ReadsOn (Rule ∷ more) no_records bytes (rows_alone (drafts.listed g.draft)) (past Rule g.records bytes))
RulesRead bytes (Err f) = (more : List Group) → RefusedAfter (Rule ∷ more) no_records bytes f

-- reading the factory records at the front, after rows, the first of them being record number `first`
abbrev pub FactoryRead : List ℕ → ℕ → Result ImageStore Fault → Type 0
FactoryRead bytes first (Ok s) =
    Ends Factory (length (image_facts s)) bytes
    × ((rows : List Row) → ReadsOn all_groups (rows_alone rows) bytes (no_site rows (image_facts s)) (past Factory (length (image_facts s)) bytes))
FactoryRead bytes first (Err f) = (rows : List Row) → length rows ≡ first → RefusedAfter all_groups (rows_alone rows) bytes f

-- telling the facts of the site records at the front: before it the book's facts and free places are those of the store, and so they
-- are after it
abbrev pub SiteRead : List ℕ → ℕ → List Fact → ℕ → List Fact → ℕ → Result ℕ Fault → Type 0
SiteRead bytes first facts room facts' room' (Ok k) =
    Ends Site k bytes
    × ((b : PartBook) → facts_of b ≡ facts → places_left b ≡ room
    → (facts_of (with_site b k bytes) ≡ facts') × (places_left (with_site b k bytes) ≡ room') × ReadsOn all_groups b bytes (with_site b k bytes) (past Site k bytes))
SiteRead bytes first facts room facts' room' (Err f) =
    (b : PartBook) → facts_of b ≡ facts → places_left b ≡ room → records_in b ≡ first → RefusedAfter all_groups b bytes f

-- the questions after the last group: no lone byte, and no mark that is not allowed
abbrev pub end_questions : List ℕ → List Question
end_questions rest = ask 12 (not (length rest == 1)) ∷ ask 13 (length rest == 0) ∷ []

-- the questions of what stands after an image, which holds every factory record of the front that could be taken
abbrev pub after_image_questions : List ℕ → List Question
after_image_questions rest =
    cond (marked Factory rest) (ask 12 (whole Factory rest) ∷ (fact_questions (fact_in rest) ++ (ask 14 false ∷ []))) []

-- telling the fact of the record at the front: after it the list and the free places are what the call of tell leaves
pub record SiteTold (bytes : List ℕ) (facts : List Fact) (room : ℕ) (r : Result (Unit {0}) Refusal) (facts' : List Fact) (room' : ℕ) : Type 0 where
  pub answer : done r ≡ asked (ask 12 (whole Site bytes) ∷ tell_questions facts room (fact_in bytes)) tt
  pub list : OnOk r (facts' ≡ told facts (fact_in bytes ∷ []))
  pub left : OnOk r (room' ≡ room - (length facts' - length facts))

-- What an audit writes, and what its last line says in the words of worlds.
use Rattle.std.specs.Prelude.{◌≡◌, ◌<◌, ◌≤◌, ℕ, true, ◌↔◌, List, [], ◌∷◌, ◌++◌, length, codes, decimal, Ok, Err, Result}
use Rattle.terms.specs.declared.row.Row.{Row}
use Rattle.terms.specs.declared.fact.Fact.{Fact}
use Rattle.terms.specs.declared.refusal.Refusal.{Refusal}
use Rattle.terms.specs.Worlds.{World, rules_of}
use Rattle.terms.specs.Facts.{Claim, KeepsBook, claims_of}
use Rattle.terms.specs.Verdicts.{Shortest}
use Rattle.search.specs.declared.Found.{Found}
use Rattle.judge.specs.declared.verdict.Verdict.{Verdict}
use Rattle.judge.specs.declared.verdict.Verdict.TheVariants.{Stands, Clash}
use Rattle.judge.specs.Texts.{Writes}
use Rattle.judge.specs.Verdicts.{low, report_text, saying}
use Rattle.records.specs.Faults.{Refused}
use Rattle.records.specs.Books.{PartBook, facts_of}
use Rattle.records.specs.Reading.{Accepted, all_groups}

-- "refused N record K" and the end of the line
abbrev pub fault_line : Refused → List ℕ
fault_line e = codes "refused " ++ (decimal e.number_of ++ (codes " record " ++ (decimal e.index ++ codes "\n")))

-- a verdict that rows and facts allow, with its word: what it says is true. Which of several shortest clashes it names is open
pub record Allowed (rows : List Row) (facts : List Fact) (v : Verdict) (w : List ℕ) : Type 0 where
  pub size : length w ≡ (saying v).size
  pub says : (saying v).says (rules_of rows) (claims_of facts) w

-- the report of a verdict with its word is written from place 0, or does not fit, and the rows and facts allow the verdict
pub record ReportOf (rows : List Row) (facts : List Fact) (v : Verdict) (w : List ℕ) (old new : List ℕ) (r : Result ℕ Refusal) : Type 0 where
  pub allowed : Allowed rows facts v w
  pub writes : Writes [] (report_text (length rows) (length facts) v w) 0 old new r

-- the report of some verdict that the rows and facts allow is written, or does not fit
abbrev pub Reported : List Row → List Fact → List ℕ → List ℕ → Result ℕ Refusal → Type 0
Reported rows facts old new r = (v : Verdict) × (w : List ℕ) × ReportOf rows facts v w old new r

-- the line of a refusal of record k with the number n is written, or does not fit
abbrev pub RefusalWritten : ℕ → ℕ → List ℕ → List ℕ → Result ℕ Refusal → Type 0
RefusalWritten n k old new r = Writes [] (fault_line (record { number_of = n; index = k })) 0 old new r

-- of a book that was read its report is written, and of a refusal its line
abbrev pub Audited : Result PartBook Refused → List ℕ → List ℕ → Result ℕ Refusal → Type 0
Audited (Ok b) old new r = Reported b.rows (facts_of b) old new r
Audited (Err e) old new r = Writes [] (fault_line e) 0 old new r

-- the text ends with the line, which stands after another one
abbrev pub LastLine : List ℕ → List ℕ → Type 0
LastLine text line = (front : List ℕ) × (text ≡ front ++ 10 ∷ (line ++ 10 ∷ []))

-- all that the facts of a book claim, those of the factory and those of the site
abbrev pub claims_in : PartBook → List Claim
claims_in b = claims_of (b.factory ++ b.site)

-- the bytes are a book's, and some world keeps all its rules and facts
abbrev pub Kept : List ℕ → Type 0
Kept bytes = ∥ ((b : PartBook) × (W : World) × Accepted all_groups bytes b × KeepsBook (rules_of b.rows) (claims_in b) W) ∥₁

-- the bytes are a book's, and the part, the word and the row make a shortest clash of it
abbrev pub ShortestClash : List ℕ → ℕ → List ℕ → ℕ → Type 0
ShortestClash bytes p w i = (b : PartBook) × Accepted all_groups bytes b × Shortest (rules_of b.rows) (claims_in b) p w i

-- the report of a book: at most 6,400 bytes long, with features for letters and bytes for part and row, and of the verdict "stands" exactly when some world keeps the rules and the facts
pub record BookReport (rows : List Row) (facts : List Fact) (v : Verdict) (w : List ℕ) (old new : List ℕ) (r : Result ℕ Refusal) : Type 0 where
  pub report : ReportOf rows facts v w old new r
  pub short : length (report_text (length rows) (length facts) v w) ≤ 6400
  pub letters : low w ≡ true
  pub bytes : (k : Found) → v ≡ Clash k → (k.part < 256) × (k.row < 256)
  pub worlds : (v ≡ Stands) ↔ ∥ ((W : World) × KeepsBook (rules_of rows) (claims_of facts) W) ∥₁

abbrev pub BookReported : List Row → List Fact → List ℕ → List ℕ → Result ℕ Refusal → Type 0
BookReported rows facts old new r = (v : Verdict) × (w : List ℕ) × BookReport rows facts v w old new r

-- Reading a file record by record: what it gives, and the law of the layout.
use Rattle.std.specs.Prelude.{◌≡◌, ℕ, zero, suc, ◌<◌, ◌≤◌, Bool, false, true, cond, not, ◌&&◌, ◌⊎◌, ◌↔◌, List, [], ◌∷◌, ◌++◌, length, drop, Ok, Err, Result, Some, None, Option, ◌==◌, nat_lt}
use Rattle.terms.specs.Refusals.{Question, ask, asked, FirstNo}
use Rattle.terms.specs.Lawful.{fact_questions}
use Rattle.book.specs.Drafts.{rule_questions}
use Rattle.stores.specs.Meaning.{listed, tell_questions}
use Rattle.layout.specs.declared.Group.{Group}
use Rattle.layout.specs.declared.Group.TheVariants.{Rule, Factory, Site}
use Rattle.layout.specs.Layout.{layout, marked, whole, row_in, fact_in}
use Rattle.records.specs.Faults.{Refused, at_record, onward}
use Rattle.records.specs.Books.{PartBook, no_records, facts_of, places_left, records_in, encoded_book, Lawful, InGroups}

-- may a record of the group follow the records of the book? None of a later group may stand before it
abbrev pub may_follow : PartBook → Group → Bool
may_follow b Rule = length b.factory == 0 && length b.site == 0
may_follow b Factory = length b.site == 0
may_follow b Site = true

-- the group of the next record: one of those that the file has, that may follow, and whose mark stands at the front
abbrev pub next_group : List Group → PartBook → List ℕ → Option Group
next_group [] b bytes = None
next_group (g ∷ more) b bytes = cond (may_follow b g && marked g bytes) (Some g) (next_group more b bytes)

-- the questions of a record's row or fact after the records of the book: of a row whether it is lawful and a row is free, of a
-- factory fact whether it is lawful and new, of a site fact whether it is lawful and is listed already or has a free place
abbrev pub own_questions : Group → PartBook → List ℕ → List Question
own_questions Rule b bytes = rule_questions b.rows (row_in bytes)
own_questions Factory b bytes = fact_questions (fact_in bytes) ++ (ask 14 (not (listed b.factory (fact_in bytes))) ∷ [])
own_questions Site b bytes = tell_questions (facts_of b) (places_left b) (fact_in bytes)

-- the questions of a record with its mark: is it whole, then those of its row or fact; no mark that is allowed is a no
abbrev pub mark_questions : Option Group → PartBook → List ℕ → List Question
mark_questions None b bytes = ask 13 false ∷ []
mark_questions (Some g) b bytes = ask 13 true ∷ ask 12 (whole g bytes) ∷ own_questions g b bytes

-- the questions of the next record, in their order: is it more than a lone byte, then those of its mark
abbrev pub next_questions : List Group → PartBook → List ℕ → List Question
next_questions groups b bytes = ask 12 (not (length bytes == 1)) ∷ mark_questions (next_group groups b bytes) b bytes

-- the book with the row or fact of the next record, and the bytes after it
abbrev pub with_record : Option Group → PartBook → List ℕ → PartBook
with_record None b bytes = b
with_record (Some Rule) b bytes = record { rows = b.rows ++ row_in bytes ∷ []; factory = b.factory; site = b.site }
with_record (Some Factory) b bytes = record { rows = b.rows; factory = b.factory ++ fact_in bytes ∷ []; site = b.site }
with_record (Some Site) b bytes = record { rows = b.rows; factory = b.factory; site = b.site ++ fact_in bytes ∷ [] }

abbrev pub after_record : Option Group → List ℕ → List ℕ
after_record None bytes = bytes
after_record (Some g) bytes = drop (layout g).size bytes

-- the book after the records of the bytes, or the first record that has a no; there are at most n of them
unfoldable pub read_on : List Group → ℕ → PartBook → List ℕ → Result PartBook Refused
read_on groups zero b bytes = Ok b
read_on groups (suc n) b bytes =
    let next = next_group groups b bytes in
    cond (length bytes == 0) (Ok b)
    (onward (at_record (records_in b) (asked (next_questions groups b bytes) (tt {0}))) (λ _. read_on groups n (with_record next b bytes) (after_record next bytes)))

-- the records of the bytes after those of the book
abbrev pub read_after : List Group → PartBook → List ℕ → Result PartBook Refused
read_after groups b bytes = read_on groups (length bytes) b bytes

-- what a file of records of the groups gives: its book, or the first refusal
abbrev pub file_read : List Group → List ℕ → Result PartBook Refused
file_read groups bytes =
    onward (at_record 0 (asked (ask 15 (nat_lt (length bytes) 32768) ∷ []) (tt {0}))) (λ _. read_after groups no_records bytes)

-- the groups of a file of rules, and those of a file that holds a whole book
abbrev pub rules_alone : List Group
rules_alone = Rule ∷ []

abbrev pub all_groups : List Group
all_groups = Rule ∷ Factory ∷ Site ∷ []

-- the file is short enough, and is the encoding of the lawful book, whose records are of the groups
pub record Accepted (groups : List Group) (bytes : List ℕ) (b : PartBook) : Type 0 where
  pub short : length bytes < 32768
  pub encoded : bytes ≡ encoded_book b
  pub lawful : Lawful b
  pub groups_of : InGroups groups b

-- the bytes begin with the encoding of a lawful book of k records, and the first question that the next record has no to is n
pub record FirstRefused (groups : List Group) (bytes : List ℕ) (n k : ℕ) : Type 0 where
  pub before : PartBook
  pub rest : List ℕ
  pub cut : bytes ≡ encoded_book before ++ rest
  pub lawful : Lawful before
  pub groups_of : InGroups groups before
  pub place : records_in before ≡ k
  pub more : 0 < length rest
  pub first : FirstNo (next_questions groups before rest) n

-- the file is too long, which refuses record 0, or its record k is the first with a no and n is the first question that has it
abbrev pub RefusedAt : List Group → List ℕ → ℕ → ℕ → Type 0
RefusedAt groups bytes n k = ((32768 ≤ length bytes) × (n ≡ 15) × (k ≡ 0)) ⊎ ((length bytes < 32768) × FirstRefused groups bytes n k)

-- the law of the layout: a file is accepted exactly when it is the encoding of a lawful book, and gives just that book; and
-- just what refuses it is its refusal
pub record LayoutLaw (groups : List Group) (bytes : List ℕ) : Type 0 where
  pub accepted : (b : PartBook) → (file_read groups bytes ≡ Ok b) ↔ Accepted groups bytes b
  pub refused : (n k : ℕ) → (file_read groups bytes ≡ Err (record { number_of = n; index = k })) ↔ RefusedAt groups bytes n k

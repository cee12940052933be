-- Books that were read: what they hold, and how a reader's answer says it.
use Rattle.std.specs.Prelude.{ℕ, List, Ok, Err, Result}
use Rattle.terms.specs.declared.row.Row.{Row}
use Rattle.terms.specs.declared.fact.Fact.{Fact}
use Rattle.book.specs.Books.{rows_of}
use Rattle.book.specs.Drafts as drafts
use Rattle.book.specs.declared.draft.Draft.{Draft}
use Rattle.stores.specs.Piles.{pile_facts, pile_room}
use Rattle.image.specs.Images.{image_facts}
use Rattle.records.specs.declared.Fault.{Fault}
use Rattle.records.specs.declared.opened.Opened.{Opened}
use Rattle.records.specs.Faults.{Refused, refused}
use Rattle.records.specs.Books.{PartBook, facts_of, places_left}

-- the rows of a book, the facts that are judged, and how many places are free for more
pub record Content : Type 0 where
  pub rows : List Row
  pub facts : List Fact
  pub places : ℕ

abbrev pub said_by : PartBook → Content
said_by b = record { rows = b.rows; facts = facts_of b; places = places_left b }

abbrev pub content_of : Opened → Content
content_of o = record { rows = rows_of o.book; facts = pile_facts image_facts o.store; places = pile_room image_facts o.store }

-- what a reader of a book answers, and what a reader of rules alone answers
abbrev pub book_answer : Result Opened Fault → Result Content Refused
book_answer (Ok o) = Ok (content_of o)
book_answer (Err f) = Err (refused f)

abbrev pub draft_answer : Result Draft Fault → Result (List Row) Refused
draft_answer (Ok d) = Ok (drafts.listed d)
draft_answer (Err f) = Err (refused f)

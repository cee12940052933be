-- Accounts of calls that were made on a book, a store and a sheet.
use Rattle.std.specs.Prelude.{◌≡◌, ℕ, List, ◌++◌, None}
use Rattle.terms.specs.declared.fact.Fact.{Fact}
use Rattle.terms.specs.Worlds.{rules_of}
use Rattle.book.specs.declared.sealed.Book.{Book}
use Rattle.book.specs.Books.{rows_of}
use Rattle.judge.specs.declared.sheet.Sheet.{Sheet}
use Rattle.runs.specs.declared.call.Call.{Call}
use Rattle.runs.specs.declared.call.Answer.{Answer}
use Rattle.runs.specs.declared.call.Entry.{Entry}
use Rattle.runs.specs.Events.{Event}
use Rattle.runs.specs.Law.{Law}
use Rattle.runs.specs.Runs.{Step, Run}
use Rattle.runs.specs.Made.{Made, AllMade}

-- one call on a store in the state x and the sheet s, which are y and t after it
pub record Performed {X : Type 0} (facts : X → List Fact) (room : X → ℕ) (b : Book) (x : X) (s : Sheet) (c : Call) (a : Answer) (d : Call) (y : X) (t : Sheet) : Type 0 where
  pub event : Event
  pub made : Made c event d a
  pub step : Step facts room b x s event y t

-- the calls of all entries, each begun from what the one before it handed on, and their law: for a new sheet with no call
-- before them, and for all earlier calls that lead from a new sheet to this state and sheet
pub record Account {X : Type 0} (facts : X → List Fact) (room : X → ℕ) (b : Book) (x : X) (s : Sheet) (cs ds : List Entry) (y : X) (t : Sheet) : Type 0 where
  pub events : List Event
  pub made : AllMade cs events ds
  pub run : Run facts room b x s events y t
  pub new_law : s.judgement ≡ None → Law (rules_of (rows_of b)) (facts x) events
  pub law : (x₀ : X) (s₀ : Sheet) (earlier : List Event) → s₀.judgement ≡ None → Run facts room b x₀ s₀ earlier x s → Law (rules_of (rows_of b)) (facts x₀) (earlier ++ events)

-- Refusals: their numbers, and the questions that a call asks before it is done.
use Rattle.std.specs.Prelude.{◌≡◌, ℕ, Bool, true, false, cond, ◌↔◌, List, [], ◌∷◌, ◌++◌, Ok, Err, Result, codes}
use Rattle.terms.specs.declared.refusal.Refusal.{Refusal}
use Rattle.terms.specs.declared.refusal.Refusal.TheVariants.{UnknownKind, ClassTooHigh, FeatureTooHigh, WrongFields, DraftFull, NoFreePlace, WorkAreasTooSmall, NotJudged, NotStanding, NotClashing, OutputDoesNotFit, RecordCut, MarkNotAllowed, FactNotNew, InputTooLong}

-- the number of each refusal
abbrev pub number : Refusal → ℕ
number UnknownKind = 1
number ClassTooHigh = 2
number FeatureTooHigh = 3
number WrongFields = 4
number DraftFull = 5
number NoFreePlace = 6
number WorkAreasTooSmall = 7
number NotJudged = 8
number NotStanding = 9
number NotClashing = 10
number OutputDoesNotFit = 11
number RecordCut = 12
number MarkNotAllowed = 13
number FactNotNew = 14
number InputTooLong = 15

-- each refusal in plain words
abbrev pub reason : Refusal → List ℕ
reason UnknownKind = codes "the kind is not known"
reason ClassTooHigh = codes "a class is not below 64"
reason FeatureTooHigh = codes "a feature in use or a letter is not below 16"
reason WrongFields = codes "the count does not fit the kind, a feature stands twice, or an unused field is not 0"
reason DraftFull = codes "the draft has no free row"
reason NoFreePlace = codes "no place is free"
reason WorkAreasTooSmall = codes "the work areas are smaller than 4096 pairs and 256 part numbers"
reason NotJudged = codes "the sheet is not judged"
reason NotStanding = codes "the judging did not find that the book stands"
reason NotClashing = codes "the judging did not find a clash"
reason OutputDoesNotFit = codes "the place is past the buffer's end or the output does not fit"
reason RecordCut = codes "the record is not whole"
reason MarkNotAllowed = codes "the mark is not allowed here"
reason FactNotNew = codes "the factory fact is not new"
reason InputTooLong = codes "the input is not shorter than 32768 bytes"

-- an answer with the refusal's number in the place of its name
abbrev pub numbered : {A : Type 0} → Result A Refusal → Result A ℕ
numbered (Ok x) = Ok x
numbered (Err e) = Err (number e)

-- whether a call was done, or the number of its refusal
abbrev pub done : {A : Type 0} → Result A Refusal → Result (Unit {0}) ℕ
done (Ok x) = Ok tt
done (Err e) = Err (number e)

-- a question that a call asks: its number, and whether the answer is yes
pub record Question : Type 0 where
  pub number_of : ℕ
  pub holds : Bool

abbrev pub ask : ℕ → Bool → Question
ask n b = record { number_of = n; holds = b }

-- what a call answers: x where every question has yes, else the number of the first that has no
abbrev pub asked : {A : Type 0} → List Question → A → Result A ℕ
asked [] x = Ok x
asked (q ∷ qs) x = cond q.holds (asked qs x) (Err q.number_of)

-- every question of the list has yes
abbrev pub AllYes : List Question → Type 0
AllYes [] = Unit {0}
AllYes (q ∷ qs) = (q.holds ≡ true) × AllYes qs

-- question number n has no, and every question before it has yes
pub record FirstNo (qs : List Question) (n : ℕ) : Type 0 where
  pub before : List Question
  pub after : List Question
  pub place : qs ≡ before ++ (ask n false ∷ after)
  pub earlier : AllYes before

-- the law of questions: the call is done exactly when all have yes, and is refused with n exactly when n is the first no
pub record Answers {A : Type 0} (qs : List Question) (x : A) (r : Result A ℕ) : Type 0 where
  pub accepted : (r ≡ Ok x) ↔ AllYes qs
  pub refused : (n : ℕ) → (r ≡ Err n) ↔ FirstNo qs n

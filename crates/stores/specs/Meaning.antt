-- What every store means: a list of different lawful facts and a number of free places; and what telling it a fact does.
use Rattle.std.specs.Prelude.{◌≡◌, ℕ, ◌+◌, ◌-◌, ◌<◌, ◌≤◌, Bool, true, cond, ◌||◌, ◌↔◌, List, [], ◌∷◌, ◌++◌, length, replicate, Some, Ok, Err, codes, Result, nat_lt}
use Rattle.std.specs.List.{slice_get, list_any}
use Rattle.terms.specs.declared.fact.Fact.{Fact}
use Rattle.terms.specs.declared.refusal.Refusal.{Refusal}
use Rattle.terms.specs.Refusals.{Question, ask, asked, number, FirstNo}
use Rattle.terms.specs.Lawful.{fact_questions, lawful_fact, same_fact}
use Rattle.terms.specs.Worlds.{◌∈◌}
use Rattle.stores.specs.declared.told.Told.{Told}
use Rattle.stores.specs.declared.told.Told.TheVariants.{Added, Already}

-- no fact stands at two places of the list
abbrev pub Different : List Fact → Type 0
Different facts = (i j : ℕ) (f : Fact) → slice_get facts i ≡ Some f → slice_get facts j ≡ Some f → i ≡ j

-- a list of different lawful facts, at most 65,536, and a number of free places, at most 65,536 less the list's length
pub record Meaning (facts : List Fact) (free : ℕ) : Type 0 where
  pub lawful : (f : Fact) → f ∈ facts → lawful_fact f ≡ true
  pub different : Different facts
  pub short : length facts ≤ 65536
  pub fits : free ≤ 65536 - length facts

-- is the fact in the list?
abbrev pub listed : List Fact → Fact → Bool
listed facts f = list_any (λ g. same_fact g f) facts

-- what an answer by which a fact is accepted says: its word, and how many free places it uses
pub record Saying : Type 0 where
  pub word : List ℕ
  pub places : ℕ

abbrev pub saying : Told → Saying
-- the fact was put at the list's end
saying Added = record { word = codes "added"; places = 1 }
-- the fact was listed already, and nothing changed
saying Already = record { word = codes "already"; places = 0 }

-- an answer of tell with its word in the place of its case, and a refusal's number in the place of its name
abbrev pub worded : Result Told Refusal → Result (List ℕ) ℕ
worded (Ok t) = Ok (saying t).word
worded (Err e) = Err (number e)

-- how many free places an answer uses; a refusal uses none
abbrev pub places_used : Result Told Refusal → ℕ
places_used (Ok t) = (saying t).places
places_used (Err e) = 0

-- is the fact listed already, or a place free?
abbrev pub place_questions : Bool → ℕ → List Question
place_questions is_listed free = ask 6 (is_listed || nat_lt 0 free) ∷ []

-- the questions of tell, in their order: those of the fact, then whether it is listed already or a place is free
abbrev pub answer_questions : Bool → ℕ → Fact → List Question
answer_questions is_listed free f = fact_questions f ++ place_questions is_listed free

-- the word by which a fact is accepted, by whether it is listed already
abbrev pub answer_accepted : Bool → List ℕ
answer_accepted is_listed = cond is_listed (codes "already") (codes "added")

-- the same two, of a list of facts
abbrev pub tell_questions : List Fact → ℕ → Fact → List Question
tell_questions facts free f = answer_questions (listed facts f) free f

abbrev pub accepted_as : List Fact → Fact → List ℕ
accepted_as facts f = answer_accepted (listed facts f)

-- a call of tell: its answer, and the list and the free places after it
pub record Tells (facts : List Fact) (free : ℕ) (f : Fact) (r : Result Told Refusal) (facts' : List Fact) (free' : ℕ) : Type 0 where
  pub answer : worded r ≡ asked (tell_questions facts free f) (accepted_as facts f)
  pub list : facts' ≡ facts ++ replicate (places_used r) f
  pub left : free' ≡ free - places_used r

-- the law of tell: what was accepted is listed, at its place, once, and nothing else changed
pub record TellLaw (facts : List Fact) (free : ℕ) (f : Fact) (r : Result Told Refusal) (facts' : List Fact) (free' : ℕ) : Type 0 where
  -- a lawful fact is accepted as already told exactly when it is listed, and as added exactly when it is not and a place is free
  pub already : (worded r ≡ Ok (codes "already")) ↔ ((lawful_fact f ≡ true) × (f ∈ facts))
  pub added : (worded r ≡ Ok (codes "added")) ↔ ((lawful_fact f ≡ true) × (¬ (f ∈ facts)) × (0 < free))
  -- it is refused with n exactly when the question of that number is the first that has no
  pub refused : (n : ℕ) → (worded r ≡ Err n) ↔ FirstNo (tell_questions facts free f) n
  -- what was accepted is listed at one place and no other
  pub once : (t : Told) → r ≡ Ok t → (place : ℕ) × (slice_get facts' place ≡ Some f) × ((k : ℕ) → slice_get facts' k ≡ Some f → k ≡ place)
  -- where a place is used, the fact stands at the list's end and one free place less is left
  pub grown : places_used r ≡ 1 → (facts' ≡ facts ++ f ∷ []) × (free ≡ free' + 1)
  -- but for that, nothing changes
  pub same : places_used r ≡ 0 → (facts' ≡ facts) × (free' ≡ free)

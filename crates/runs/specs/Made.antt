-- The calls of a list that were made: their events, what is handed back of what was lent, and their answers.
use Rattle.std.specs.Prelude.{◌≡◌, ℕ, Bool, List, [], ◌∷◌, length, Some, OnErr, Result}
use Rattle.std.specs.Borrow.{MutBor}
use Rattle.terms.specs.declared.refusal.Refusal.{Refusal}
use Rattle.stores.specs.declared.told.Told.{Told}
use Rattle.search.specs.declared.ClassPair.{ClassPair}
use Rattle.judge.specs.declared.verdict.Verdict.{Verdict}
use Rattle.runs.specs.declared.call.Call.{Call}
use Rattle.runs.specs.declared.call.Call.TheVariants.{Tell, Judge, Member, Same, Word}
use Rattle.runs.specs.declared.call.Answer.{Answer}
use Rattle.runs.specs.declared.call.Answer.TheVariants as answer
use Rattle.runs.specs.declared.call.Entry.{Entry}
use Rattle.runs.specs.Events.{Event, tell, judge, member, same, word}

-- the same memory is handed back
abbrev pub Back : {A : Type 0} → MutBor (List A) → MutBor (List A) → Type 0
Back lent back = (back.ghost_name ≡ lent.ghost_name) × (length back.now ≡ length lent.now)

-- the work areas are handed back, with any content, or as they were where the judging was refused
pub record AreasBack (pairs pairs' : MutBor (List ClassPair)) (parts parts' : MutBor (List ℕ)) (r : Result Verdict Refusal) : Type 0 where
  pub pairs_back : Back pairs pairs'
  pub parts_back : Back parts parts'
  pub unchanged : OnErr r ((pairs'.now ≡ pairs.now) × (parts'.now ≡ parts.now))

-- the call c was made: e is its event, d is the call after it, and a its answer
abbrev pub Made : Call → Event → Call → Answer → Type 0
Made (Tell f) e d a = (r : Result Told Refusal) × (e ≡ tell f r) × (d ≡ Tell f) × (a ≡ answer.Tell r)
Made (Judge pairs parts) e d a = (r : Result Verdict Refusal) × (e ≡ judge (length pairs.now) (length parts.now) r)
    × ((pairs' : MutBor (List ClassPair)) × (parts' : MutBor (List ℕ)) × (d ≡ Judge pairs' parts') × AreasBack pairs pairs' parts parts' r)
    × (a ≡ answer.Judge r)
Made (Member p w A) e d a = (r : Result Bool Refusal) × (e ≡ member p w.now A r) × (d ≡ Member p w A) × (a ≡ answer.Member r)
Made (Same p q) e d a = (r : Result Bool Refusal) × (e ≡ same p q r) × (d ≡ Same p q) × (a ≡ answer.Same r)
Made (Word k out) e d a = (r : Result ℕ Refusal) × (out' : MutBor (List ℕ)) × (e ≡ word k out.now out'.now r) × (d ≡ Word k out') × Back out out' × (a ≡ answer.Word r)

-- the call of an entry was made, and the entry holds its answer
pub record EntryMade (c : Entry) (e : Event) (d : Entry) : Type 0 where
  pub answer : Answer
  pub given : d.answer ≡ Some answer
  pub made : Made c.call e d.call answer

-- as many events as entries: the call of each entry was made, in their order
pub data AllMade : List Entry → List Event → List Entry → Type 0 where
  none : AllMade [] [] []
  more : {c d : Entry} {e : Event} {cs ds : List Entry} {es : List Event} → EntryMade c e d → AllMade cs es ds → AllMade (c ∷ cs) (e ∷ es) (d ∷ ds)

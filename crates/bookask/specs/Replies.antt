-- Lines of a script: the call that each asks for, which is made once, and the line that says what it answered.
use Rattle.std.specs.Prelude.{◌≡◌, ℕ, Bool, true, false, List, [], ◌∷◌, ◌++◌, take, replicate, codes, decimal, string_bytes, IfOk, IsUtf8, Ok, Err, Result}
use Rattle.std.specs.Io.BufRead.{strip_last}
use Rattle.std.specs.declared.alloc.AllocError.{AllocError}
use Rattle.std.specs.declared.alloc.Global.{Global}
use Rattle.std.specs.declared.string.String.{String}
use Rattle.terms.specs.declared.refusal.Refusal.{Refusal}
use Rattle.terms.specs.Refusals.{reason}
use Rattle.stores.specs.declared.told.Told.{Told}
use Rattle.stores.specs.Meaning as stores
use Rattle.stores.specs.Piles.{pile_facts, pile_room}
use Rattle.image.specs.Images.{image_facts}
use Rattle.judge.specs.declared.sheet.Sheet.{Sheet}
use Rattle.judge.specs.declared.verdict.Verdict.{Verdict}
use Rattle.judge.specs.declared.verdict.Verdict.TheVariants.{Stands, Clash}
use Rattle.judge.specs.Verdicts.{numbers}
use Rattle.records.specs.declared.opened.Opened.{Opened}
use Rattle.runs.specs.declared.call.Answer.{Answer}
use Rattle.runs.specs.declared.call.Answer.TheVariants.{Tell, Judge, Member, Same, Word}
use Rattle.runs.specs.Events as event
use Rattle.runs.specs.Events.{Event}
use Rattle.runs.specs.Runs.{Step}
use Rattle.script.specs.Lines.{Meant, tell, judge, member, same, word, IsLineOf}

-- a line of bytes, but for its end, is a text that asks for the call
abbrev pub AsksFor : Meant → List ℕ → Type 0
AsksFor m line = IsUtf8 (strip_last 10 line) × IsLineOf m (strip_last 10 line)

-- what a call answered, in words, or the reason of its refusal
abbrev pub in_words : {A : Type 0} → (A → List ℕ) → Result A Refusal → List ℕ
in_words words (Ok x) = words x
in_words words (Err e) = reason e

abbrev pub verdict_words : Verdict → List ℕ
verdict_words Stands = codes "stands"
verdict_words (Clash k) = codes "clash part " ++ (decimal k.part ++ (codes " row " ++ (decimal k.row ++ (codes " length " ++ decimal k.length))))

abbrev pub yes_or_no : Bool → List ℕ
yes_or_no true = codes "yes"
yes_or_no false = codes "no"

-- the letters as numbers, one blank between two
abbrev pub letters_words : List ℕ → List ℕ
letters_words [] = []
letters_words (n ∷ w) = decimal n ++ numbers w

-- the line of an answer; a word call has written its letters over the front of the buffer
abbrev pub line_of : Answer → List ℕ → List ℕ
line_of (Tell r) out = in_words (λ t. (stores.saying t).word) r
line_of (Judge r) out = in_words verdict_words r
line_of (Member r) out = in_words yes_or_no r
line_of (Same r) out = in_words yes_or_no r
line_of (Word r) out = in_words (λ n. letters_words (take n out)) r

-- the call that a line means, with what is lent to it, work areas that are just large enough or a buffer for the longest word;
-- its answer, and what the buffer holds after it
abbrev pub Calls : Meant → Event → Answer → List ℕ → Type 0
Calls (tell f) e a out = (r : Result Told Refusal) × (e ≡ event.tell f r) × (a ≡ Tell r)
Calls judge e a out = (r : Result Verdict Refusal) × (e ≡ event.judge 4096 256 r) × (a ≡ Judge r)
Calls (member p w A) e a out = (r : Result Bool Refusal) × (e ≡ event.member p w A r) × (a ≡ Member r)
Calls (same p q) e a out = (r : Result Bool Refusal) × (e ≡ event.same p q r) × (a ≡ Same r)
Calls word e a out = (r : Result ℕ Refusal) × (e ≡ event.word 0 (replicate 2079 0) out r) × (a ≡ Word r)

-- just the call that is meant is made, on the book, the store and the sheet as they were; and where memory does not run out,
-- the line says its answer
pub record Replied (o : Opened) (s : Sheet) (m : Meant) (r : Result (String Global) AllocError) (o' : Opened) (t : Sheet) : Type 0 where
  pub event : Event
  pub answer : Answer
  pub out : List ℕ
  pub calls : Calls m event answer out
  pub step : Step (pile_facts image_facts) (pile_room image_facts) o.book o.store s event o'.store t
  pub book : o'.book ≡ o.book
  pub line : IfOk r (λ line. string_bytes line ≡ line_of answer out)

-- The law of every list of calls, in the words of worlds, rules and facts.
use Rattle.std.specs.Prelude.{◌≡◌, ℕ, ◌<◌, Bool, true, ◌↔◌, List, ◌∷◌, ◌++◌, length, Ok}
use Rattle.terms.specs.declared.fact.Fact.{Fact}
use Rattle.terms.specs.Worlds.{◌∈◌, Rule, World}
use Rattle.terms.specs.Facts.{Claim, KeepsBook, claims_of}
use Rattle.terms.specs.Verdicts.{CertainMember, CertainSame, Shortest}
use Rattle.stores.specs.declared.told.Told.{Told}
use Rattle.search.specs.declared.Found.{Found}
use Rattle.judge.specs.declared.verdict.Verdict.{Verdict}
use Rattle.judge.specs.declared.verdict.Verdict.TheVariants.{Stands, Clash}
use Rattle.judge.specs.Texts.{placed}
use Rattle.runs.specs.Events.{Event, tell, judge, member, same, word, held, Quiet}

-- the claims that the store held before a call
abbrev pub claims_before : List Fact → List Event → List Claim
claims_before first before = claims_of (held first before)

-- a judging that was not refused stands in the calls, and since it none but refused ones
pub record LastJudged (before : List Event) (v : Verdict) (calls : List Event) : Type 0 where
  pub pairs : ℕ
  pub parts : ℕ
  pub since : List Event
  pub place : calls ≡ before ++ (judge pairs parts (Ok v) ∷ since)
  pub quiet : Quiet since

-- R are the book's rules, and first the facts that the store held when the first call was made
pub record Law (R : List Rule) (first : List Fact) (calls : List Event) : Type 0 where
  -- a fact that was accepted is among those that the store holds from then on
  pub accepted : (earlier since rest : List Event) (f : Fact) (t : Told) → calls ≡ earlier ++ (tell f (Ok t) ∷ (since ++ rest))
      → f ∈ held first (earlier ++ (tell f (Ok t) ∷ since))
  -- judge answers stands exactly when some world keeps every rule and all facts that the store holds then
  pub judged : (before rest : List Event) (m n : ℕ) (v : Verdict) → calls ≡ before ++ (judge m n (Ok v) ∷ rest)
      → (v ≡ Stands) ↔ ∥ ((W : World) × KeepsBook R (claims_before first before) W) ∥₁
  -- member and same, where they are not refused, speak of the last judging that was not refused, which answered stands, and
  -- say yes exactly when it is true in every world that keeps every rule and all facts that the store held then; a part's
  -- number is below 256
  pub member_asked : (earlier rest : List Event) (p : ℕ) (w : List ℕ) (A : ℕ) (b : Bool) → calls ≡ earlier ++ (member p w A (Ok b) ∷ rest)
      → (before : List Event) × LastJudged before Stands earlier × ((b ≡ true) ↔ CertainMember R (claims_before first before) p w A)
  pub same_asked : (earlier rest : List Event) (p q : ℕ) (b : Bool) → p < 256 → q < 256 → calls ≡ earlier ++ (same p q (Ok b) ∷ rest)
      → (before : List Event) × LastJudged before Stands earlier × ((b ≡ true) ↔ CertainSame R (claims_before first before) p q)
  -- after a clash there is one word, as long as the verdict says: its object is in both classes of the verdict's row in every
  -- world that keeps those facts and all rules but the exclusions, and no shorter word does so; every word call that is not
  -- refused writes it
  pub clash : (before rest : List Event) (m n : ℕ) (k : Found) → calls ≡ before ++ (judge m n (Ok (Clash k)) ∷ rest)
      → (w : List ℕ) × (length w ≡ k.length) × Shortest R (claims_before first before) k.part w k.row
      × ((since after : List Event) (place : ℕ) (old new : List ℕ) (c : ℕ) → rest ≡ since ++ (word place old new (Ok c) ∷ after) → Quiet since → (new ≡ placed old place w) × (c ≡ k.length))
  -- a word call that is not refused comes after a clash
  pub word_asked : (earlier rest : List Event) (place : ℕ) (old new : List ℕ) (c : ℕ) → calls ≡ earlier ++ (word place old new (Ok c) ∷ rest)
      → (before : List Event) × (k : Found) × LastJudged before (Clash k) earlier

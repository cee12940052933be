-- Lines of a script: which call each asks for.
use Rattle.std.specs.Prelude.{◌≡◌, ◌≢◌, ℕ, ◌-◌, ◌<◌, cond, ◌||◌, List, ◌∷◌, length, map, drop, take, slice_index, codes, decimal, bytes_eq, nat_lt, ◌==◌, All, Option, Some, None}
use Rattle.std.specs.List.{slice_split}
use Rattle.terms.specs.declared.fact.Fact.{Fact}
use Rattle.script.specs.declared.ask.Ask.{Ask}
use Rattle.script.specs.declared.ask.Ask.TheVariants as ask

-- the calls that a line can ask for, with what they are given
pub data Meant : Type 0 where
  tell : (fact : Fact) → Meant
  judge : Meant
  member : (part : ℕ) (word : List ℕ) (class : ℕ) → Meant
  same : (p q : ℕ) → Meant
  word : Meant

abbrev pub meant : Ask → Meant
meant (ask.Tell f) = tell f
meant ask.Judge = judge
meant (ask.Member p w A) = member p w.items A
meant (ask.Same p q) = same p q
meant ask.Word = word

-- the words of a line, cut at each blank
abbrev pub words_of : List ℕ → List (List ℕ)
words_of line = slice_split (λ b. b == 32) line

-- numbers that stand in one byte each
abbrev pub Bytes : List ℕ → Type 0
Bytes ns = All (λ n. n < 256) ns

-- the words are not all decimals of such numbers
abbrev pub NoNumbers : List (List ℕ) → Type 0
NoNumbers words = (ns : List ℕ) → Bytes ns → words ≢ map decimal ns

-- the kind and the three numbers of a fact; a third that is not written is 0, as is what is read past a list's end
abbrev pub tell_of : List ℕ → Option Meant
tell_of ns =
    cond (length ns == 3 || length ns == 4)
    (Some (tell (record { kind = slice_index ns 0; first = slice_index ns 1; second = slice_index ns 2; third = slice_index ns 3 })))
    None

-- the part, the letters of the word, and the class
abbrev pub member_of : List ℕ → Option Meant
member_of ns =
    cond (nat_lt 1 (length ns)) (Some (member (slice_index ns 0) (take (length ns - 2) (drop 1 ns)) (slice_index ns (length ns - 1)))) None

abbrev pub same_of : List ℕ → Option Meant
same_of ns = cond (length ns == 2) (Some (same (slice_index ns 0) (slice_index ns 1))) None

-- a call that is given no number
abbrev pub alone : Meant → List ℕ → Option Meant
alone m ns = cond (length ns == 0) (Some m) None

-- the call that a name and its numbers ask for
abbrev pub meant_by : List ℕ → List ℕ → Option Meant
meant_by name ns =
    cond (bytes_eq name (codes "tell")) (tell_of ns)
    (cond (bytes_eq name (codes "judge")) (alone judge ns)
    (cond (bytes_eq name (codes "member")) (member_of ns)
    (cond (bytes_eq name (codes "same")) (same_of ns)
    (cond (bytes_eq name (codes "word")) (alone word ns)
    None))))

-- the words of the line are a name and the decimals of its numbers, each below 256, and they ask for m
pub record IsLineOf (m : Meant) (line : List ℕ) : Type 0 where
  pub name : List ℕ
  pub numbers : List ℕ
  pub words : words_of line ≡ name ∷ map decimal numbers
  pub bytes : Bytes numbers
  pub asked : meant_by name numbers ≡ Some m

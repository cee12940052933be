-- What a verdict says, and its line in a report.
use Rattle.std.specs.Prelude.{ℕ, Bool, true, ◌&&◌, List, [], ◌∷◌, ◌++◌, take, codes, decimal, nat_lt}
use Rattle.terms.specs.Worlds.{Rule}
use Rattle.terms.specs.Facts.{Claim}
use Rattle.terms.specs.Verdicts as verdicts
use Rattle.judge.specs.declared.verdict.Verdict.{Verdict}
use Rattle.judge.specs.declared.verdict.Verdict.TheVariants.{Stands, Clash}

-- the numbers, each after one blank
abbrev pub numbers : List ℕ → List ℕ
numbers [] = []
numbers (n ∷ w) = (32 ∷ decimal n) ++ numbers w

-- the line that names a clash, but for its end
abbrev pub clash_line : ℕ → ℕ → List ℕ → List ℕ
clash_line p i w = codes "clash part" ++ ((32 ∷ decimal p) ++ (codes " row" ++ ((32 ∷ decimal i) ++ (codes " word" ++ numbers w))))

-- what a verdict says of rules and claims with its word, how long the word is, and the line of a report
pub record Saying : Type 1 where
  pub says : List Rule → List Claim → List ℕ → Type 0
  pub size : ℕ
  pub line : List ℕ → List ℕ

abbrev pub saying : Verdict → Saying
saying Stands = record {
  says = λ R F w. verdicts.Stands R F;
  size = 0;
  line = λ w. codes "stands\n";
}
saying (Clash k) = record {
  says = λ R F w. verdicts.Shortest R F k.part w k.row;
  size = k.length;
  line = λ w. clash_line k.part k.row w ++ codes "\n";
}

-- the lines of a report: the number of rows, the number of facts, and the verdict with its word
abbrev pub report_text : ℕ → ℕ → Verdict → List ℕ → List ℕ
report_text rows facts v w = codes "rules" ++ ((32 ∷ decimal rows) ++ (codes "\nfacts" ++ ((32 ∷ decimal facts) ++ (codes "\n" ++ (saying v).line w))))

-- the word of the verdict, the first of the letters
abbrev pub word : Verdict → List ℕ → List ℕ
word v letters = take (saying v).size letters

-- every letter is a feature
abbrev pub low : List ℕ → Bool
low [] = true
low (f ∷ w) = nat_lt f 16 && low w

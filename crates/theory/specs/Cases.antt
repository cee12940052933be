-- The worked cases, in one statement, on rows and facts.
use Rattle.std.specs.Prelude.{◌≡◌, ℕ, ◌≤◌, List, [], ◌∷◌, length}
use Rattle.terms.specs.declared.row.Row.{Row}
use Rattle.terms.specs.declared.fact.Fact.{Fact}
use Rattle.terms.specs.Worlds.{rules_of}
use Rattle.terms.specs.Steps.{Within}
use Rattle.terms.specs.Facts.{claims_of}
use Rattle.terms.specs.Examples.{plain_row, example_rows}
use Rattle.terms.specs.Verdicts.{Clash, Stands, CertainMember, CertainSame, Possible}
use Rattle.theory.specs.Tables.{Tables, Exact}

-- a row with one feature in use
abbrev pub feature_row : ℕ → ℕ → ℕ → ℕ → Row
feature_row k l f r = record { kind = k; left = l; right = r; count = 1; features = f ∷ 0 ∷ 0 ∷ 0 ∷ [] }

-- part p is in class A; the value of f at p is q
abbrev pub in_fact : ℕ → ℕ → Fact
in_fact p A = record { kind = 1; first = p; second = A; third = 0 }

abbrev pub value_fact : ℕ → ℕ → ℕ → Fact
value_fact p f q = record { kind = 2; first = p; second = f; third = q }

-- the books: the small example; a chain of two features; two values that exclude each other; a key
abbrev pub chain_rows : List Row
chain_rows = feature_row 3 0 0 1 ∷ feature_row 3 1 1 2 ∷ plain_row 2 2 2 0 ∷ []

abbrev pub fork_rows : List Row
fork_rows = feature_row 3 0 0 2 ∷ feature_row 3 1 0 3 ∷ plain_row 2 2 3 0 ∷ []

abbrev pub key_rows : List Row
key_rows = feature_row 5 0 0 0 ∷ []

-- it is a clash, and every clash that is no longer is this one
pub record Sole (rows : List Row) (facts : List Fact) (p i : ℕ) (w : List ℕ) : Type 0 where
  pub clash : Clash (rules_of rows) (claims_of facts) p w i
  pub only : (q : ℕ) (v : List ℕ) (j : ℕ) → Clash (rules_of rows) (claims_of facts) q v j → length v ≤ length w → (q ≡ p) × (v ≡ w) × (j ≡ i)

abbrev pub BookStands : List Row → List Fact → Type 0
BookStands rows facts = Stands (rules_of rows) (claims_of facts)

abbrev pub InEvery : List Row → List Fact → ℕ → List ℕ → ℕ → Type 0
InEvery rows facts p w A = CertainMember (rules_of rows) (claims_of facts) p w A

abbrev pub OneInEvery : List Row → List Fact → ℕ → ℕ → Type 0
OneInEvery rows facts p q = CertainSame (rules_of rows) (claims_of facts) p q

-- some tables hold exactly the completed facts
abbrev pub HasTables : List Row → List Fact → Type 0
HasTables rows facts = (t : Tables) × Exact (rules_of rows) (claims_of facts) t

abbrev pub lone_fact : ℕ → ℕ → List Fact
lone_fact p A = in_fact p A ∷ []

abbrev pub told_value : List Fact
told_value = in_fact 0 0 ∷ value_fact 0 0 5 ∷ []

abbrev pub two_classes : List Fact
two_classes = in_fact 4 0 ∷ in_fact 4 1 ∷ []

abbrev pub both_told : List Fact
both_told = in_fact 1 0 ∷ in_fact 2 0 ∷ value_fact 1 0 9 ∷ value_fact 2 0 9 ∷ []

abbrev pub one_untold : List Fact
one_untold = in_fact 1 0 ∷ in_fact 2 0 ∷ value_fact 1 0 9 ∷ []

pub record WorkedCases : Type 0 where
  pub implied : Within (rules_of example_rows) 0 3
  pub impossible : ¬ Possible (rules_of example_rows) 0
  pub possible : Possible (rules_of example_rows) 1
  pub clash_at_part : Sole example_rows (lone_fact 7 0) 7 3 []
  pub clash_along_word : Sole chain_rows (lone_fact 0 0) 0 2 (0 ∷ 1 ∷ [])
  pub clash_after_value : Sole chain_rows told_value 5 2 (1 ∷ [])
  pub clash_of_two : Sole fork_rows two_classes 4 2 (0 ∷ [])
  pub one_class_stands : BookStands fork_rows (lone_fact 4 0)
  pub one_class_in_2 : InEvery fork_rows (lone_fact 4 0) 4 (0 ∷ []) 2
  pub one_class_not_in_3 : ¬ InEvery fork_rows (lone_fact 4 0) 4 (0 ∷ []) 3
  pub agreed_stands : BookStands key_rows both_told
  pub agreed_is_one : OneInEvery key_rows both_told 1 2
  pub untold_stands : BookStands key_rows one_untold
  pub untold_is_not_one : ¬ OneInEvery key_rows one_untold 1 2

-- exact tables exist for the facts of every worked case
pub record CasesHaveTables : Type 0 where
  pub clash_at_part : HasTables example_rows (lone_fact 7 0)
  pub clash_along_word : HasTables chain_rows (lone_fact 0 0)
  pub clash_after_value : HasTables chain_rows told_value
  pub clash_of_two : HasTables fork_rows two_classes
  pub one_class : HasTables fork_rows (lone_fact 4 0)
  pub agreed : HasTables key_rows both_told
  pub untold : HasTables key_rows one_untold

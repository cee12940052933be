-- The rows of the small example book.
use Rattle.std.specs.Prelude.{ℕ, List, [], ◌∷◌}
use Rattle.terms.specs.declared.row.Row.{Row}

-- a row with at most the feature 0 in use
abbrev pub plain_row : ℕ → ℕ → ℕ → ℕ → Row
plain_row k l r n = record { kind = k; left = l; right = r; count = n; features = 0 ∷ 0 ∷ 0 ∷ 0 ∷ [] }

abbrev pub example_rows : List Row
example_rows = plain_row 3 0 1 1 ∷ plain_row 1 1 2 0 ∷ plain_row 4 2 3 1 ∷ plain_row 2 0 3 0 ∷ []

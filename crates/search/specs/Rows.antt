-- The rows that exclude a pair; no public call cites this file.
use Rattle.std.specs.Prelude.{◌≡◌, ℕ, Some, None, Option}
use Rattle.std.proofs.Math.Option.{some}
use Rattle.std.proofs.Math.ListN.{get_elem?}
use Rattle.terms.specs.declared.row.Row.{Row}
use Rattle.terms.specs.Worlds.{disjoint, rules_of}
use Rattle.book.specs.declared.sealed.Book.{Book}
use Rattle.book.specs.Books.{rows_of}
use Rattle.search.specs.declared.ClassPair.{ClassPair}
use Rattle.search.specs.Pairs.{ordered}

-- the row is an exclusion of the two classes of the pair
abbrev pub Bars : Row → ClassPair → Type 0
Bars r q = (r.kind ≡ 2) × (ordered r.left r.right ≡ q)

-- row i excludes the pair
pub record Excludes (b : Book) (i : ℕ) (q : ClassPair) : Type 0 where
  pub left : ℕ
  pub right : ℕ
  pub rule : get_elem? (rules_of (rows_of b)) i ≡ some (disjoint left right)
  pub both : ordered left right ≡ q

-- a row that excludes the pair, where there is one
abbrev pub Excluding : Book → ClassPair → Option ℕ → Type 0
Excluding b q None = (i : ℕ) → Excludes b i q → ⊥
Excluding b q (Some i) = Excludes b i q

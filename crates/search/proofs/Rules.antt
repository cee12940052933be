-- Exclusion rows.
use Rattle.std.proofs.Common.{◌≡◌, ℕ, zero, suc, ◌<◌, Bool, true, false, cond, eqb, List, [], ◌∷◌, length, get_or, Some, None, Option, sym, refl, ap, ◌∙◌, subst, arith}
use mathlib.Core.Option.{some}
use lib.ListN.{get_elem?}
use Rattle.std.proofs.lemmas.Bool.{eqb-true}
use Rattle.std.specs.Option.{MatchOption}
use Rattle.std.specs.List.{AllWithin, HoldsAt}
use Rattle.terms.specs.declared.row.Row.{Row}
use Rattle.book.specs.declared.sealed.Book.{Book}
use Rattle.book.specs.Books.{rows_of}
use Rattle.book.proofs.Legal.{rule_2}
use Rattle.search.specs.declared.ClassPair.{ClassPair}
use Rattle.search.specs.Pairs.{ordered}
use Rattle.search.specs.Rows.{Bars, Excludes, Excluding}
use Rattle.terms.specs.Worlds.{Rule, subclass, disjoint, value, pullback, key, features_from, rule_of, rules_of}

abbrev pub no_row : Row
no_row = record { kind = 0; left = 0; right = 0; count = 0; features = [] }

pub rule_at : (rows : List Row) (i : ℕ) → i < length rows → get_elem? (rules_of rows) i ≡ some (rule_of (get_or rows i no_row))
rule_at [] i h = absurd (omega arith)
rule_at (r ∷ rows) zero h = refl
rule_at (r ∷ rows) (suc i) h = rule_at rows i (omega arith)

pub rule_some : (rows : List Row) (i : ℕ) (x : Rule) → get_elem? (rules_of rows) i ≡ some x → i < length rows
rule_some [] i x e = cc
rule_some (r ∷ rows) zero x e = omega arith
rule_some (r ∷ rows) (suc i) x e = let h = rule_some rows i x e in omega arith

-- a row that says an exclusion is of kind 2, with its classes
pub kind_2 : (r : Row) (A B : ℕ) → rule_of r ≡ disjoint A B → (r.kind ≡ 2) × (r.left ≡ A) × (r.right ≡ B)
kind_2 r A B e = by (eqb r.kind 1) (eqb r.kind 2) (eqb r.kind 3) (eqb r.kind 4) (λ t. eqb-true r.kind 2 t) e
  where
    by : (s t u v : Bool) → (t ≡ true → r.kind ≡ 2)
        → cond s (subclass r.left r.right) (cond t (disjoint r.left r.right) (cond u (value r.left (get_or r.features 0 0) r.right) (cond v (pullback (get_or r.features 0 0) r.left r.right) (key r.left r.right (features_from r 0 r.count))))) ≡ disjoint A B
        → (r.kind ≡ 2) × (r.left ≡ A) × (r.right ≡ B)
    by true t u v k e = cc
    by false true u v k e = (k refl, cc, cc)
    by false false true v k e = cc
    by false false false true k e = cc
    by false false false false k e = cc

-- what the rows R of the book say of the pair q at place i
module _ (b : Book) (R : List Row) (same : R ≡ rows_of b) (i : ℕ) (q : ClassPair) where
  abbrev row : Row
  row = get_or R i no_row

  pub excludes : i < length R → Bars row q → Excludes b i q
  excludes l h = record {
    left = row.left;
    right = row.right;
    rule = subst (λ (X : List Row). get_elem? (rules_of X) i ≡ some (disjoint row.left row.right)) same (rule_at R i l ∙ ap some (rule_2 row h.0));
    both = h.1;
  }

  rule_is : (x : Excludes b i q) → get_elem? (rules_of R) i ≡ some (disjoint x.left x.right)
  rule_is x = ap (λ (X : List Row). get_elem? (rules_of X) i) same ∙ x.rule

  pub excludes_low : Excludes b i q → i < length R
  excludes_low x = rule_some R i (disjoint x.left x.right) (rule_is x)

  pub excludes_bars : Excludes b i q → Bars row q
  excludes_bars x =
      let w : rule_of row ≡ disjoint x.left x.right = some_one (sym (rule_at R i (excludes_low x)) ∙ rule_is x) in
      let k = kind_2 row x.left x.right w in
      (k.0, ap (λ a. ordered a row.right) k.1 ∙ ap (ordered x.left) k.2 ∙ x.both)
    where
      some_one : {s t : Rule} → some s ≡ some t → s ≡ t
      some_one e = cc

-- the first row of the book that bars the pair, or none
pub first_excludes : (b : Book) (R : List Row) (q : ClassPair) (o : Option ℕ) → R ≡ rows_of b
    → MatchOption o (AllWithin (λ r. Bars r q → ⊥) R 0 (length R)) (λ i. (i < length R) × HoldsAt (λ r. Bars r q) R i × AllWithin (λ r. Bars r q → ⊥) R 0 i) → Excluding b q o
first_excludes b R q None same h = λ i x. h i no_row (omega arith) (excludes_low b R same i q x) (excludes_bars b R same i q x)
first_excludes b R q (Some i) same h = excludes b R same i q h.0 (h.1 no_row)

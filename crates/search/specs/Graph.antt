-- The graph of pairs of classes of a book, and what the search in it answers.
use Rattle.std.specs.Prelude.{◌≡◌, ℕ, ◌<◌, ◌≤◌, true, List, [], ◌∷◌, length, take, Some, None, Ok, Err, Option, Result}
use Rattle.std.proofs.Math.Option.{some}
use Rattle.std.proofs.Math.ListN.{get_elem?}
use Rattle.terms.specs.declared.refusal.Refusal.{Refusal}
use Rattle.terms.specs.Refusals.{number}
use Rattle.terms.specs.Worlds.{disjoint, rules_of}
use Rattle.classes.specs.declared.ClassSet.{ClassSet}
use Rattle.classes.specs.Sets.{has}
use Rattle.book.specs.declared.sealed.Book.{Book}
use Rattle.book.specs.Books.{rows_of, leads_set}
use Rattle.book.specs.Tables.{At}
use Rattle.search.specs.declared.Found.{Found}

-- class A leads by f to B
abbrev pub Lead : Book → ℕ → ℕ → ℕ → Type 0
Lead b A f B = has (leads_set b A f) B ≡ true

-- from class A the classes lead along the word to B
pub data Way (b : Book) : ℕ → List ℕ → ℕ → Type 0 where
  stay : {A : ℕ} → Way b A [] A
  go : {A f C B : ℕ} {w : List ℕ} → Lead b A f C → Way b C w B → Way b A (f ∷ w) B

-- two classes of part p lead along the word w to the two classes of row i, an exclusion; P has the classes of each part
pub record Reaches (P : List ClassSet) (b : Book) (p : ℕ) (w : List ℕ) (i : ℕ) : Type 0 where
  pub left : ℕ
  pub right : ℕ
  pub from_left : ℕ
  pub from_right : ℕ
  pub in_left : At P p from_left
  pub in_right : At P p from_right
  pub way_left : Way b from_left w left
  pub way_right : Way b from_right w right
  pub row : get_elem? (rules_of (rows_of b)) i ≡ some (disjoint left right)

-- what the search finds: no path reaches an excluded pair; or the first letters are such a path, and no path is shorter
abbrev pub Answer : List ClassSet → Book → List ℕ → Option Found → Type 0
Answer P b letters None = (p : ℕ) (w : List ℕ) (i : ℕ) → Reaches P b p w i → ⊥
Answer P b letters (Some k) =
    Reaches P b k.part (take k.length letters) k.row
    × ((p : ℕ) (w : List ℕ) (i : ℕ) → Reaches P b p w i → k.length ≤ length w)
    × (k.length ≤ 2079)

-- refused with 7 exactly when the memory holds fewer than 4,096 pairs, and nothing has changed then
abbrev pub Searched : List ClassSet → Book → ℕ → List ℕ → List ℕ → Result (Option Found) Refusal → Type 0
Searched P b pairs before after (Ok r) = (4096 ≤ pairs) × Answer P b after r
Searched P b pairs before after (Err e) = (pairs < 4096) × (number e ≡ 7) × (after ≡ before)

-- The lines that show a book's class steps, and the line that says why a record is refused.
use Rattle.std.specs.Prelude.{ℕ, zero, suc, Bool, cond, not, ◌&&◌, List, [], ◌∷◌, ◌++◌, length, Some, None, codes, decimal, Option, ◌==◌}
use Rattle.terms.specs.declared.refusal.Refusal.{Refusal}
use Rattle.terms.specs.Refusals.{reason}
use Rattle.classes.specs.declared.ClassSet.{ClassSet}
use Rattle.classes.specs.Sets.{has}
use Rattle.book.specs.declared.sealed.Book.{Book}
use Rattle.book.specs.Books.{rows_of, within_set, leads_set}

-- the texts of the numbers below n, one after another in rising order
unfoldable pub joined_below : ℕ → (ℕ → List ℕ) → List ℕ
joined_below zero text = []
joined_below (suc n) text = joined_below n text ++ text n

-- a blank and the number, where the test holds of it
abbrev pub number_if : (ℕ → Bool) → ℕ → List ℕ
number_if p k = cond (p k) (32 ∷ decimal k) []

-- the classes for which the test holds, in rising order, each after one blank
abbrev pub numbers : (ℕ → Bool) → List ℕ
numbers p = joined_below 64 (number_if p)

-- a line of classes; none where the test holds of no class
abbrev pub line : List ℕ → (ℕ → Bool) → List ℕ
line heading p = cond (length (numbers p) == 0) [] (heading ++ (numbers p ++ (10 ∷ [])))

-- the same line where the heading may be unknown
abbrev pub line_of : Option (List ℕ) → (ℕ → Bool) → Option (List ℕ)
line_of None p = None
line_of (Some heading) p = Some (line heading p)

-- the classes of a set but one
abbrev pub kept : ClassSet → ℕ → ℕ → Bool
kept s A k = has s k && not (k == A)

-- the other classes that class A lies within
abbrev pub others : Book → ℕ → ℕ → Bool
others b A = kept (within_set b A) A

-- "class A within" and the other classes that A lies within
abbrev pub within_line : Book → ℕ → List ℕ
within_line b A = line (codes "class " ++ (decimal A ++ codes " within")) (others b A)

-- "class A leads by F to" and the classes that A leads to by F
abbrev pub leads_line : Book → ℕ → ℕ → List ℕ
leads_line b A f = line (codes "class " ++ (decimal A ++ (codes " leads by " ++ (decimal f ++ codes " to")))) (has (leads_set b A f))

-- the lines of one class
abbrev pub class_lines : Book → ℕ → List ℕ
class_lines b A = within_line b A ++ joined_below 16 (leads_line b A)

-- the number of rows, then the lines of every class
abbrev pub book_lines : Book → List ℕ
book_lines b = codes "rules " ++ (decimal (length (rows_of b)) ++ (10 ∷ joined_below 64 (class_lines b)))

-- "impossible" and the classes of a set; none where it has no class
abbrev pub impossible_line : ClassSet → List ℕ
impossible_line s = line (codes "impossible") (has s)

-- the lines of a book whose impossible classes are those of the set
abbrev pub all_lines : Book → ClassSet → List ℕ
all_lines b s = book_lines b ++ impossible_line s

-- "record K: " and the reason
abbrev pub refusal_line : Refusal → ℕ → List ℕ
refusal_line e k = codes "record " ++ (decimal k ++ (codes ": " ++ (reason e ++ (10 ∷ []))))

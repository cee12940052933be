-- What the functions of the search promise each other; no public call cites this file.
use Rattle.std.specs.Prelude.{◌≡◌, ℕ, ◌+◌, ◌<◌, ◌≤◌, ◌⊎◌, List, [], ◌∷◌, ◌++◌, length, Some, None, Option}
use Rattle.classes.specs.declared.ClassSet.{ClassSet}
use Rattle.book.specs.declared.sealed.Book.{Book}
use Rattle.book.specs.Tables.{At}
use Rattle.queue.specs.Lines.{waiting}
use Rattle.search.specs.declared.ClassPair.{ClassPair}
use Rattle.search.specs.declared.trail.Trace.{Trace}
use Rattle.search.specs.declared.trail.Origin.TheVariants.{Part, Step}
use Rattle.search.specs.declared.walk.Excluded.{Excluded}
use Rattle.search.specs.declared.walk.Walk.{Walk}
use Rattle.search.specs.Graph.{Lead, Reaches}
use Rattle.search.specs.Pairs.{Proper, ordered, entry_of, mark_of, unmarked}
use Rattle.search.specs.Rows.{Excludes}

-- no pair is met, and none waits
abbrev pub Begun : Walk → Type 0
Begun w = (waiting w.queue ≡ []) × ((q : ClassPair) → mark_of w.trail.trace q ≡ 0)

-- the walk is through the same book, from the same parts
abbrev pub Same : Walk → Walk → Type 0
Same v w = (w.parts.now ≡ v.parts.now) × (w.book.now ≡ v.book.now)

-- the pair waits in the line
abbrev pub Waits : List ClassPair → ClassPair → Type 0
Waits [] q = ⊥
Waits (p ∷ ps) q = (p ≡ q) ⊎ Waits ps q

-- the pair is met, with a mark of at most n
pub record Near (T : List (Option Trace)) (q : ClassPair) (n : ℕ) : Type 0 where
  pub proper : Proper q
  pub met : 0 < mark_of T q
  pub by : mark_of T q ≤ n

-- the pair is one of two classes of a part, and was met as such
pub record Source (P : List ClassSet) (T : List (Option Trace)) (q : ClassPair) : Type 0 where
  pub part : ℕ
  pub entry : entry_of T q ≡ Some (record { depth = 0; origin = Part part })
  pub left : At P part q.left
  pub right : At P part q.right

-- the two classes of p lead by f to those of q
pub record Edge (b : Book) (p : ClassPair) (f : ℕ) (q : ClassPair) : Type 0 where
  pub c : ℕ
  pub d : ℕ
  pub left : Lead b p.left f c
  pub right : Lead b p.right f d
  pub ends : ordered c d ≡ q

-- the pair was met one step after the pair that it comes from
pub record Stepped (b : Book) (T : List (Option Trace)) (q : ClassPair) : Type 0 where
  pub depth : ℕ
  pub from : ClassPair
  pub letter : ℕ
  pub entry : entry_of T q ≡ Some (record { depth = depth; origin = Step from letter })
  pub proper : Proper from
  pub deep : 0 < depth
  pub before : mark_of T from ≡ depth
  pub edge : Edge b from letter q

-- each pair that is met is a source or comes by a step
abbrev pub Linked : List ClassSet → Book → List (Option Trace) → Type 0
Linked P b T = (q : ClassPair) → Proper q → 0 < mark_of T q → Source P T q ⊎ Stepped b T q

-- all that the pair leads to is met, at most one step later
abbrev pub Closed : Book → List (Option Trace) → ClassPair → Type 0
Closed b T q = (f c d : ℕ) → Lead b q.left f c → Lead b q.right f d → Near T (ordered c d) (mark_of T q + 1)

-- what holds of the line W and the traces T all along; N holds of the pair that is worked on
pub record Met (P : List ClassSet) (b : Book) (N : ClassPair → Type 0) (W : List ClassPair) (T : List (Option Trace)) (depth : ℕ) : Type 0 where
  pub low : (q : ClassPair) → Proper q → 0 < mark_of T q → mark_of T q + unmarked T ≤ 2080
  pub linked : Linked P b T
  pub clear : (q : ClassPair) → Proper q → 0 < mark_of T q → (i : ℕ) → Excludes b i q → ⊥
  pub deep : 0 < depth
  pub top : (q : ClassPair) → Proper q → 0 < mark_of T q → mark_of T q ≤ depth
  pub near : List ClassPair
  pub far : List ClassPair
  pub split : W ≡ near ++ far
  pub nears : (q : ClassPair) → Waits near q → Proper q × (0 < mark_of T q) × (mark_of T q + 1 ≡ depth)
  pub fars : (q : ClassPair) → Waits far q → Proper q × (mark_of T q ≡ depth)
  pub closed : (q : ClassPair) → Proper q → 0 < mark_of T q → Waits W q ⊎ (N q ⊎ Closed b T q)

abbrev pub Nothing : ClassPair → Type 0
Nothing q = ⊥

-- every two classes of one part are met at once
abbrev pub Sources : List ClassSet → List (Option Trace) → Type 0
Sources P T = (p a b : ℕ) → At P p a → At P p b → Near T (ordered a b) 1

-- between two turns of the search
pub record Between (P : List ClassSet) (b : Book) (W : List ClassPair) (T : List (Option Trace)) : Type 0 where
  pub depth : ℕ
  pub met : Met P b Nothing W T depth
  pub sources : Sources P T

-- the pair is met and row i excludes it, and no path is shorter
pub record Shown (P : List ClassSet) (b : Book) (T : List (Option Trace)) (q : ClassPair) (i : ℕ) : Type 0 where
  pub proper : Proper q
  pub met : 0 < mark_of T q
  pub low : mark_of T q ≤ 2080
  pub linked : Linked P b T
  pub row : Excludes b i q
  pub least : (p : ℕ) (w : List ℕ) (j : ℕ) → Reaches P b p w j → mark_of T q ≤ length w + 1

-- what setting out answers in the walk v, which is w then: an excluded pair of two classes of one part, or all such pairs wait
abbrev pub Seeded : Walk → Walk → Option Excluded → Type 0
Seeded v w None = Between v.parts.now v.book.now (waiting w.queue) w.trail.trace
Seeded v w (Some x) = Shown v.parts.now v.book.now w.trail.trace x.pair x.row

-- what the loops answer: an excluded pair at the end of a shortest path, or there is no path to one
abbrev pub Hunted : Walk → Walk → Option Excluded → Type 0
Hunted v w None = (p : ℕ) (u : List ℕ) (i : ℕ) → Reaches v.parts.now v.book.now p u i → ⊥
Hunted v w (Some x) = Shown v.parts.now v.book.now w.trail.trace x.pair x.row

-- The theorems of the theory, of the definitions alone.
use Rattle.std.specs.Prelude.{◌≡◌, ℕ, ◌≤◌, Bool, true, ◌↔◌, List, [], length}
use Rattle.std.proofs.Math.Option.{some}
use Rattle.std.proofs.Math.ListN.{get_elem?}
use Rattle.terms.specs.Worlds.{Rule, disjoint, World, Obj, In, reach}
use Rattle.terms.specs.Steps.{Within, Leads, AlwaysWithin, AlwaysLeads}
use Rattle.terms.specs.Facts.{Claim, Holds, KeepsBook, NearlyKeeps}
use Rattle.terms.specs.Completed.{Known}
use Rattle.terms.specs.Verdicts.{Clash, Stands, Shortest, CertainMember, CertainSame, Possible}
use Rattle.theory.specs.Legal.{Legal}
use Rattle.theory.specs.Tables.{Tables, Exact, ExactBelow, extended, Decided, member}
use Rattle.theory.specs.Paths.{Way, Reaches}

-- everything completed, and every class step, is true in every world that keeps the facts and all rules but the exclusions
pub record TrueIn (R : List Rule) (F : List Claim) (W : World) : Type 0 where
  pub known : (c : Claim) → Known R F c → Holds W c
  pub within : (A B : ℕ) → Within R A B → (x : Obj) → In W A x → In W B x
  pub leads : (A f B : ℕ) → Leads R A f B → (x : Obj) → In W A x → In W B (W.feature f x)

abbrev pub CompletedIsTrue : Type 0
CompletedIsTrue = (R : List Rule) (F : List Claim) (W : World) → NearlyKeeps R F W → TrueIn R F W

-- one world keeps the facts and all rules but the exclusions, and every rule where there is no clash; in it, for all
-- parts, words and classes together, what is reached is in the class exactly when the tables say so, and two parts are
-- one object exactly when their leaders are equal
pub record Canonical (R : List Rule) (F : List Claim) (t : Tables) (W : World) : Type 0 where
  pub nearly : NearlyKeeps R F W
  pub wholly : Stands R F → KeepsBook R F W
  pub member_is : (p : ℕ) (w : List ℕ) (A : ℕ) → In W A (reach W p w) ↔ (member t p w A ≡ true)
  pub same_is : (p q : ℕ) → (W.part p ≡ W.part q) ↔ (t.leader p ≡ t.leader q)

abbrev pub CanonicalWorld : Type 0
CanonicalWorld = (R : List Rule) (F : List Claim) (t : Tables) → Legal R F → Exact R F t → (W : World) × Canonical R F t W

-- what exact tables answer: a book stands exactly when some world keeps it; and then yes is said exactly of what is
-- true in every such world
pub record Answers (R : List Rule) (F : List Claim) (t : Tables) : Type 0 where
  pub stands : Stands R F ↔ ∥ ((W : World) × KeepsBook R F W) ∥₁
  pub member_is : Stands R F → (p : ℕ) (w : List ℕ) (A : ℕ) → (member t p w A ≡ true) ↔ CertainMember R F p w A
  pub same_is : Stands R F → (p q : ℕ) → (t.leader p ≡ t.leader q) ↔ CertainSame R F p q

abbrev pub TablesAnswer : Type 0
TablesAnswer = (R : List Rule) (F : List Claim) (t : Tables) → Legal R F → ∥ Exact R F t ∥₁ → Answers R F t

-- paths in the graph of pairs are clashes of their length, and every clash has a path that is no longer; so a least path
-- is a shortest clash, no path means that the book stands, and a shortest clash word has at most 2,079 letters
pub record PathsAreClashes (R : List Rule) (F : List Claim) : Type 0 where
  pub clash : (p : ℕ) (w : List ℕ) (i : ℕ) → Reaches R F p w i → Clash R F p w i
  pub path : (p : ℕ) (w : List ℕ) (i : ℕ) → Clash R F p w i → (q : ℕ) × (v : List ℕ) × (length v ≤ length w) × Reaches R F q v i
  pub least : (p : ℕ) (w : List ℕ) (i : ℕ) → Reaches R F p w i → ((q : ℕ) (v : List ℕ) (j : ℕ) → Reaches R F q v j → length w ≤ length v) → Shortest R F p w i
  pub none : ((p : ℕ) (w : List ℕ) (i : ℕ) → ¬ Reaches R F p w i) → Stands R F
  pub bound : (p : ℕ) (w : List ℕ) (i : ℕ) → Shortest R F p w i → length w ≤ 2079

abbrev pub ClashesArePaths : Type 0
ClashesArePaths = (R : List Rule) (F : List Claim) (t : Tables) → Legal R F → Exact R F t → PathsAreClashes R F

-- every shortest clash word of legal rules and facts that have exact tables has at most n letters
abbrev pub ClashWordsWithin : ℕ → Type 0
ClashWordsWithin n = (R : List Rule) (F : List Claim) (t : Tables) → Legal R F → Exact R F t → (p : ℕ) (w : List ℕ) (i : ℕ) → Shortest R F p w i → length w ≤ n

-- class steps miss nothing that is true of the classes in every world
pub record StepsMissNothing (R : List Rule) : Type 0 where
  pub within : (A B : ℕ) → AlwaysWithin R A B → Within R A B
  pub leads : (A f B : ℕ) → AlwaysLeads R A f B → Leads R A f B

abbrev pub StepsAreComplete : Type 0
StepsAreComplete = (R : List Rule) (within : ℕ → ℕ → Bool) (leads : ℕ → ℕ → ℕ → Bool) → Legal R [] → Decided R within leads → StepsMissNothing R

-- two ways from a class along one word to what a rule excludes
pub record Undone (R : List Rule) (A : ℕ) : Type 0 where
  pub first : ℕ
  pub second : ℕ
  pub word : List ℕ
  pub rule : ℕ
  pub left : ℕ
  pub right : ℕ
  pub in_first : Within R A first
  pub in_second : Within R A second
  pub way_left : Way R first word left
  pub way_right : Way R second word right
  pub row : get_elem? R rule ≡ some (disjoint left right)

-- a class is possible exactly when no such ways lead from it
abbrev pub PossibleBySearch : Type 0
PossibleBySearch = (R : List Rule) (within : ℕ → ℕ → Bool) (leads : ℕ → ℕ → ℕ → Bool) → Legal R [] → Decided R within leads → (A : ℕ) → Possible R A ↔ (¬ Undone R A)

-- tables that are exact for the same rules and facts are equal in every class, leader and value
pub record Equal (t u : Tables) : Type 0 where
  pub has : (p A : ℕ) → t.has p A ≡ u.has p A
  pub leader : (p : ℕ) → t.leader p ≡ u.leader p
  pub value_of : (p f : ℕ) → t.value_of p f ≡ u.value_of p f

abbrev pub ExactIsOne : Type 0
ExactIsOne = (R : List Rule) (F : List Claim) (t u : Tables) → Exact R F t → Exact R F u → Equal t u

-- tables that are exact below the limits say all that there is to say of a book within them
abbrev pub BelowIsEnough : Type 0
BelowIsEnough = (R : List Rule) (F : List Claim) (t : Tables) → Legal R F → ExactBelow R F t → Exact R F (extended t)

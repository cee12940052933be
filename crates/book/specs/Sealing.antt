-- What the inner functions of sealing promise each other. Public calls cite two definitions of it: `Direct` (`Book::links`), with those that it is made of, and `Gathered` (`gather`).
use Rattle.std.specs.Prelude.{◌≡◌, ℕ, ◌+◌, ◌-◌, ◌^◌, ◌<◌, ◌≤◌, true, false, cond, ◌⊎◌, ◌↔◌, List, [], ◌∷◌, length, slice_index_or}
use Rattle.classes.specs.declared.ClassSet.{ClassSet}
use Rattle.classes.specs.Sets.{has, joined, weight}
use Rattle.terms.specs.Worlds.{◌∈◌, Rule, subclass, value, pullback}
use Rattle.terms.specs.Steps.{Within}
use Rattle.theory.specs.Legal.{RulesLegal}
use Rattle.book.specs.Tables.{set_at, table_at, At}
use Rattle.book.specs.declared.links.FeatureLinks.{FeatureLinks}
use Rattle.book.specs.declared.links.Links.{Links}

-- the links by a feature; past the last, those with no table
abbrev pub links_by : Links → ℕ → FeatureLinks
links_by l f = slice_index_or l.by_feature f (record { ahead = []; behind = [] })

-- the links by feature f hold exactly what the rules, which are within the limits, say of classes along it
pub record DirectBy (R : List Rule) (f : ℕ) (b : FeatureLinks) : Type 0 where
  pub ahead_is : (A B : ℕ) → A < 64 → At b.ahead A B ↔ (value A f B ∈ R)
  pub behind_is : (A B : ℕ) → A < 64 → At b.behind A B ↔ (pullback f A B ∈ R)
  pub long_ahead : length b.ahead ≡ 64
  pub long_behind : length b.behind ≡ 64
  pub legal : RulesLegal R

-- every class has the classes with a value in it, and may have more
abbrev pub Entered : List Rule → List ClassSet → Type 0
Entered R into = (A f B : ℕ) → value A f B ∈ R → At into B A

-- the links hold exactly what the rules, which are within the limits, say of classes directly; `into` may hold more
pub record Direct (R : List Rule) (l : Links) : Type 0 where
  pub above_is : (A B : ℕ) → A < 64 → At l.above A B ↔ (subclass A B ∈ R)
  pub by_is : (f : ℕ) → f < 16 → DirectBy R f (links_by l f)
  pub into_has : Entered R l.into
  pub legal : RulesLegal R

-- r is the union of the sets of the classes k of s
pub record Gathered (table : List ClassSet) (s r : ClassSet) : Type 0 where
  pub from : (B : ℕ) → has r B ≡ true → (k : ℕ) × (k < 64) × (has s k ≡ true) × At table k B
  pub all : (k B : ℕ) → has s k ≡ true → At table k B → has r B ≡ true

-- the same while the classes of rest are still to come
pub record Gathering (table : List ClassSet) (s rest r : ClassSet) : Type 0 where
  pub from : (B : ℕ) → has r B ≡ true → (k : ℕ) × (k < 64) × (has s k ≡ true) × At table k B
  pub all : (k B : ℕ) → has s k ≡ true → At table k B → (has rest k ≡ true) ⊎ (has r B ≡ true)
  pub part : (k : ℕ) → has rest k ≡ true → has s k ≡ true

-- the set s gains more where it has a
abbrev pub widened : ClassSet → ℕ → ClassSet → ClassSet
widened s a more = cond (has s a) (joined s more) s

-- how far the sets are from full, as a number that falls when one grows
unfoldable pub missing : List ClassSet → ℕ
missing [] = 0
missing (s ∷ w) = 2 ^ 64 - weight s + missing w

-- the table is no lighter, and it is heavier unless the set g is empty
pub record Heavier (w : List ClassSet) (g : ClassSet) (v : List ClassSet) : Type 0 where
  pub least : missing v ≤ missing w
  pub unless : (weight g ≡ 0) ⊎ (missing v < missing w)

-- every set of the table w that has a gained more; g has each class whose set grew
pub record Extended (w : List ClassSet) (a : ℕ) (more : ClassSet) (v : List ClassSet) (g : ClassSet) : Type 0 where
  pub each : (X : ℕ) → set_at v X ≡ widened (set_at w X) a more
  pub kept : (X : ℕ) → has g X ≡ false → set_at v X ≡ set_at w X

-- the same for the sets of the classes below n, the others being as they were
pub record Extending (w : List ClassSet) (a : ℕ) (more : ClassSet) (n : ℕ) (v : List ClassSet) (g : ClassSet) : Type 0 where
  pub each : (X : ℕ) → X < n → set_at v X ≡ widened (set_at w X) a more
  pub later : (X : ℕ) → n ≤ X → set_at v X ≡ set_at w X
  pub kept : (X : ℕ) → has g X ≡ false → set_at v X ≡ set_at w X

-- the relation that the table holds is an order on the classes
pub record Ordered (w : List ClassSet) : Type 0 where
  pub refl : (A : ℕ) → A < 64 → At w A A
  pub trans : (A B C : ℕ) → At w A B → At w B C → At w A C

abbrev pub Sound : List Rule → List ClassSet → Type 0
Sound R w = (A B : ℕ) → At w A B → Within R A B

-- every set keeps its classes
abbrev pub Grew : List ClassSet → List ClassSet → Type 0
Grew w v = (A B : ℕ) → At w A B → At v A B

-- class a now lies within the classes of s, too
pub record Placed (w : List ClassSet) (a : ℕ) (s : ClassSet) (v : List ClassSet) (g : ClassSet) : Type 0 where
  pub grew : Grew w v
  pub kept : (X : ℕ) → has g X ≡ false → set_at v X ≡ set_at w X
  pub ordered : Ordered w → Ordered v
  pub there : Ordered w → (B : ℕ) → has s B ≡ true → At v a B
  pub sound : (R : List Rule) → Sound R w → ((B : ℕ) → has s B ≡ true → Within R a B) → Sound R v

-- what the values by f of A's objects pull back to A is in the table
abbrev pub Served : List Rule → List ClassSet → ℕ → ℕ → Type 0
Served R w A f = (D B C : ℕ) → value A f D ∈ R → At w D B → pullback f B C ∈ R → At w A C

-- one step of the search from the table w to v; again has each class that may have to be served anew
pub record Step (R : List Rule) (w : List ClassSet) (again : ClassSet) (v : List ClassSet) : Type 0 where
  pub grew : Grew w v
  pub ordered : Ordered w → Ordered v
  pub sound : Sound R w → Sound R v
  pub keeps : (A f : ℕ) → has again A ≡ false → Served R w A f → Served R v A f

-- the table is sound and ordered, and has the subclass rules
pub record Ready (R : List Rule) (w : List ClassSet) : Type 0 where
  pub sound : Sound R w
  pub ordered : Ordered w
  pub rules : (A B : ℕ) → subclass A B ∈ R → At w A B

-- besides, every class that does not wait is served by every feature
pub record Open (R : List Rule) (w : List ClassSet) (waiting : ClassSet) : Type 0 where
  pub ready : Ready R w
  pub served : (A f : ℕ) → A < 64 → f < 16 → has waiting A ≡ false → Served R w A f

-- r has what the classes of s lead to by these links: from a class of s by a link to a class, and on to all that it lies within
pub record Led (w ahead : List ClassSet) (s r : ClassSet) : Type 0 where
  pub from : (B : ℕ) → has r B ≡ true → (C : ℕ) × (D : ℕ) × (C < 64) × (has s C ≡ true) × At ahead C D × At w D B
  pub all : (C D B : ℕ) → has s C ≡ true → At ahead C D → At w D B → has r B ≡ true

-- the table has for each class what it leads to by these links
pub record EachLed (w ahead leads : List ClassSet) : Type 0 where
  pub each : (A : ℕ) → A < 64 → Led w ahead (set_at w A) (set_at leads A)

-- and the tables for each feature
abbrev pub AllLed : List ClassSet → Links → List (List ClassSet) → Type 0
AllLed w l leads = (f : ℕ) → f < 16 → EachLed w (links_by l f).ahead (table_at leads f)

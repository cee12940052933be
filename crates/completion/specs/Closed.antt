-- What it is that the rules add nothing to the records; no public call cites this file.
use Rattle.std.specs.Prelude.{◌≡◌, ℕ, ◌+◌, ◌*◌, ◌<◌, true, List, [], length, Some, slice_index_or}
use Rattle.classes.specs.declared.ClassSet.{ClassSet}
use Rattle.classes.specs.Sets.{has}
use Rattle.terms.specs.declared.row.Row.{Row}
use Rattle.terms.specs.Worlds.{◌∈◌, Rule, key, rules_of}
use Rattle.terms.specs.Facts.{Claim}
use Rattle.book.specs.Tables.{At, table_at, Steps}
use Rattle.book.specs.Books.{rows_of, steps_of}
use Rattle.book.specs.Sealing.{Direct, links_by}
use Rattle.completion.specs.declared.record.PartRecord.{PartRecord}
use Rattle.completion.specs.declared.growth.Growth.{Growth}
use Rattle.completion.specs.declared.rules.Rules.{Rules}
use Rattle.completion.specs.Growths.{Went}
use Rattle.completion.specs.declared.index.Index.{Index}
use Rattle.completion.specs.PartSets.{Lists}
use Rattle.completion.specs.Records.{Agree, Has, Right, key_features, leader_of, part_at, value_by}

-- the rows and the rules of the book
abbrev pub key_rows : Rules → List Row
key_rows r = rows_of r.book.now

abbrev pub rules_in : Rules → List Rule
rules_in r = rules_of (rows_of r.book.now)

abbrev pub row_at : Rules → ℕ → Row
row_at r k = slice_index_or (rows_of r.book.now) k (record { kind = 0; left = 0; right = 0; count = 0; features = [] })

-- the tables hold exactly what the rules say of classes
pub record Meant (r : Rules) : Type 0 where
  pub steps : Steps (rules_in r) (steps_of r.book.now).within (steps_of r.book.now).leads
  pub direct : Direct (rules_in r) r.links

-- the leader of p has all that p has
pub record Handed (ps : List PartRecord) (p : ℕ) : Type 0 where
  pub classes : (A : ℕ) → Has (part_at ps p) A → Has (part_at ps (leader_of ps p)) A
  pub values : (f v : ℕ) → f < 16 → value_by (part_at ps p) f ≡ Some v → value_by (part_at ps (leader_of ps p)) f ≡ Some v

-- p is in each class that its classes lie within
abbrev pub Climbed : Rules → List PartRecord → ℕ → Type 0
Climbed r ps p = (A B : ℕ) → Has (part_at ps p) A → At (steps_of r.book.now).within A B → Has (part_at ps p) B

-- the value of p by f is in each class that p's classes lead to, and p in each that is pulled back
pub record FollowedTo (r : Rules) (ps : List PartRecord) (p f v : ℕ) : Type 0 where
  pub along : (A B : ℕ) → Has (part_at ps p) A → At (table_at (steps_of r.book.now).leads f) A B → Has (part_at ps v) B
  pub back : (A B : ℕ) → Has (part_at ps v) A → At (links_by r.links f).behind A B → Has (part_at ps p) B

abbrev pub Followed : Rules → List PartRecord → ℕ → ℕ → Type 0
Followed r ps p f = (v : ℕ) → value_by (part_at ps p) f ≡ Some v → FollowedTo r ps p f v

-- nothing but a key adds anything at p
pub record Visited (r : Rules) (ps : List PartRecord) (p : ℕ) : Type 0 where
  pub handed : Handed ps p
  pub climbed : Climbed r ps p
  pub followed : (f : ℕ) → f < 16 → Followed r ps p f

-- the key adds nothing at p and q
abbrev pub Keyed : Row → List PartRecord → ℕ → ℕ → Type 0
Keyed row ps p q = Has (part_at ps p) row.left → Has (part_at ps q) row.right → Agree (key_features row) (part_at ps p) (part_at ps q) → leader_of ps p ≡ leader_of ps q

-- nor at p and the places of a set in a block of 64 parts
abbrev pub KeyedIn : Row → List PartRecord → ℕ → ℕ → ClassSet → Type 0
KeyedIn row ps p block set = (k : ℕ) → has set k ≡ true → Keyed row ps p (64 * block + k)

-- nor at two parts that are their own leaders
abbrev pub KeyedBy : Row → List PartRecord → Type 0
KeyedBy row ps = (p q : ℕ) → p < 256 → q < 256 → leader_of ps p ≡ p → leader_of ps q ≡ q → Keyed row ps p q

-- nor at p and another, where the index lists the parts
abbrev pub KeyedFrom : Row → Index → List PartRecord → ℕ → Type 0
KeyedFrom row x ps p = Lists ps x → (q : ℕ) → q < 256 → leader_of ps p ≡ p → leader_of ps q ≡ q → Keyed row ps p q

-- no rule adds anything
pub record Settled (r : Rules) (ps : List PartRecord) : Type 0 where
  pub parts : (p : ℕ) → p < 256 → Visited r ps p
  pub keys : (k : ℕ) → k < length (key_rows r) → (row_at r k).kind ≡ 5 → KeyedBy (row_at r k) ps

-- from g to h what was added is what the rules say, or what the key of the row says
pub record Follows (r : Rules) (g h : Growth) : Type 0 where
  pub went : Went g h
  pub right : (F : List Claim) → Meant r → Right (rules_in r) F g.parts → Right (rules_in r) F h.parts

pub record Joins (row : Row) (g h : Growth) : Type 0 where
  pub went : Went g h
  pub right : (R : List Rule) (F : List Claim) → key row.left row.right (key_features row) ∈ R → Right R F g.parts → Right R F h.parts

-- The records of parts: what they say, and how one grows.
use Rattle.std.specs.Prelude.{◌≡◌, ℕ, ◌+◌, ◌-◌, ◌^◌, ◌<◌, ◌≤◌, Bool, true, false, cond, List, [], ◌∷◌, map, Some, None, Option, ◌==◌, slice_index_or, slice_set}
use Rattle.std.proofs.Math.ListN.{replicate}
use Rattle.classes.specs.declared.ClassSet.{ClassSet}
use Rattle.classes.specs.Sets.{has, none, joined}
use Rattle.classes.specs.Sets as sets
use Rattle.terms.specs.declared.row.Row.{Row}
use Rattle.terms.specs.Worlds.{◌∈◌, Rule, features_from}
use Rattle.terms.specs.Facts.{Claim, in_class, value_at, one_object}
use Rattle.terms.specs.Completed.{Known}
use Rattle.theory.specs.Legal.{ClaimLegal}
use Rattle.completion.specs.declared.record.PartRecord.{PartRecord}

-- a part of which nothing is said but that it is itself
abbrev pub alone : ℕ → PartRecord
alone p = record { classes = none; leader = p; values = replicate 16 None }

-- the record of a part
abbrev pub part_at : List PartRecord → ℕ → PartRecord
part_at ps p = slice_index_or ps p (record { classes = none; leader = 0; values = [] })

-- its leader, its classes, and the leader of its value by a feature
abbrev pub leader_of : List PartRecord → ℕ → ℕ
leader_of ps p = (part_at ps p).leader

abbrev pub Has : PartRecord → ℕ → Type 0
Has r A = has r.classes A ≡ true

abbrev pub value_by : PartRecord → ℕ → Option ℕ
value_by r f = slice_index_or r.values f None

-- what the records say
abbrev pub Says : List PartRecord → Claim → Type 0
Says ps (in_class p A) = Has (part_at ps p) A
Says ps (value_at p f q) = value_by (part_at ps p) f ≡ Some (leader_of ps q)
Says ps (one_object p q) = leader_of ps p ≡ leader_of ps q

-- the record with more classes
abbrev pub gained : PartRecord → ClassSet → PartRecord
gained r more = record { classes = joined r.classes more; leader = r.leader; values = r.values }

-- the record with a value by a feature
abbrev pub valued : PartRecord → ℕ → ℕ → PartRecord
valued r f v = record { classes = r.classes; leader = r.leader; values = slice_set r.values f (Some v) }

-- the record where the part `from` has become the part `to`
abbrev pub named : ℕ → ℕ → ℕ → ℕ
named from to p = cond (p == from) to p

abbrev pub named_value : ℕ → ℕ → Option ℕ → Option ℕ
named_value from to None = None
named_value from to (Some v) = Some (named from to v)

abbrev pub renamed : ℕ → ℕ → PartRecord → PartRecord
renamed from to r = record { classes = r.classes; leader = named from to r.leader; values = map (named_value from to) r.values }

-- a number that falls at each growth of a record: for the classes that it lacks, its leader, and its values
abbrev pub value_weight : Option ℕ → ℕ
value_weight None = 256
value_weight (Some v) = v

unfoldable pub values_weight : List (Option ℕ) → ℕ
values_weight [] = 0
values_weight (v ∷ vs) = value_weight v + values_weight vs

abbrev pub weight : PartRecord → ℕ
weight r = (2 ^ 64 - sets.weight r.classes) + r.leader + values_weight r.values

-- the record grew, or it is as it was
pub record Grew (grew : Bool) (r s : PartRecord) : Type 0 where
  pub more : grew ≡ true → weight s < weight r
  pub none : grew ≡ false → s ≡ r

-- the features that a key lists
abbrev pub key_features : Row → List ℕ
key_features row = features_from row 0 row.count

-- by each of the features both records have a value, and it is one object
abbrev pub Agree : List ℕ → PartRecord → PartRecord → Type 0
Agree fs r s = (f : ℕ) → f ∈ fs → (v : ℕ) × (value_by r f ≡ Some v) × (value_by s f ≡ Some v)

-- leaders are the lowest and their own leaders, and values are leaders
pub record Shape (ps : List PartRecord) : Type 0 where
  pub low : (p : ℕ) → p < 256 → leader_of ps p ≤ p
  pub own : (p : ℕ) → p < 256 → leader_of ps (leader_of ps p) ≡ leader_of ps p
  pub lead : (p f v : ℕ) → p < 256 → value_by (part_at ps p) f ≡ Some v → (v < 256) × (leader_of ps v ≡ v)

-- what the record says of part p is known
pub record RightOf (R : List Rule) (F : List Claim) (p : ℕ) (r : PartRecord) : Type 0 where
  pub classes : (A : ℕ) → Has r A → Known R F (in_class p A)
  pub leader : Known R F (one_object p r.leader)
  pub values : (f v : ℕ) → value_by r f ≡ Some v → (q : ℕ) × Known R F (value_at p f q) × Known R F (one_object q v)

-- all that the records say is known
abbrev pub Right : List Rule → List Claim → List PartRecord → Type 0
Right R F ps = (p : ℕ) → p < 256 → RightOf R F p (part_at ps p)

-- nothing that was said is forgotten
abbrev pub Kept : List PartRecord → List PartRecord → Type 0
Kept ps qs = (c : Claim) → ClaimLegal c → Says ps c → Says qs c

-- how much the records can still grow
unfoldable pub total : List PartRecord → ℕ
total [] = 0
total (r ∷ ps) = weight r + total ps

-- the record of each part in qs is that of its leader in ps
abbrev pub Led : List PartRecord → List PartRecord → Type 0
Led ps qs = (p : ℕ) → p < 256 → part_at qs p ≡ part_at ps (leader_of ps p)

-- Records: the groups of a file's records, and how each record is laid out in bytes.
use Rattle.std.specs.Prelude.{ℕ, Bool, List, [], ◌∷◌, ◌++◌, length, nat_eq, nat_le, slice_index}
use Rattle.std.specs.List.{starts_with}
use Rattle.terms.specs.declared.row.Row.{Row}
use Rattle.terms.specs.declared.fact.Fact.{Fact}
use Rattle.layout.specs.declared.Group.{Group}
use Rattle.layout.specs.declared.Group.TheVariants.{Rule, Factory, Site}

-- the mark with which each record of a group begins, and how many bytes it has
pub record Layout : Type 0 where
  pub mark : List ℕ
  pub size : ℕ

abbrev pub layout : Group → Layout
-- 50 52 (hexadecimal), then kind, left, right, count and four features
layout Rule = record { mark = 80 ∷ 82 ∷ []; size = 10 }
-- 50 46, then kind and three numbers
layout Factory = record { mark = 80 ∷ 70 ∷ []; size = 6 }
-- 50 53, then the same
layout Site = record { mark = 80 ∷ 83 ∷ []; size = 6 }

-- a row as a rule record, and rows as records one after another
abbrev pub encoded_row : Row → List ℕ
encoded_row r = (layout Rule).mark ++ (r.kind ∷ r.left ∷ r.right ∷ r.count ∷ r.features)

abbrev pub encoded_rows : List Row → List ℕ
encoded_rows [] = []
encoded_rows (r ∷ rows) = encoded_row r ++ encoded_rows rows

-- a fact as a factory or a site record, and facts as such records one after another
abbrev pub encoded_fact : Group → Fact → List ℕ
encoded_fact g f = (layout g).mark ++ (f.kind ∷ f.first ∷ f.second ∷ f.third ∷ [])

abbrev pub encoded_facts : Group → List Fact → List ℕ
encoded_facts g [] = []
encoded_facts g (f ∷ facts) = encoded_fact g f ++ encoded_facts g facts

-- does the group's mark stand at the front of the bytes?
abbrev pub marked : Group → List ℕ → Bool
marked g bytes = starts_with nat_eq bytes (layout g).mark

-- are the bytes as many as a record of the group has, or more?
abbrev pub whole : Group → List ℕ → Bool
whole g bytes = nat_le (layout g).size (length bytes)

-- the row of the rule record at the front of the bytes, and the fact of the factory or site record there
abbrev pub row_in : List ℕ → Row
row_in bytes = record {
  kind = slice_index bytes 2;
  left = slice_index bytes 3;
  right = slice_index bytes 4;
  count = slice_index bytes 5;
  features = slice_index bytes 6 ∷ slice_index bytes 7 ∷ slice_index bytes 8 ∷ slice_index bytes 9 ∷ [];
}

abbrev pub fact_in : List ℕ → Fact
fact_in bytes = record { kind = slice_index bytes 2; first = slice_index bytes 3; second = slice_index bytes 4; third = slice_index bytes 5 }

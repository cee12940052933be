-- Rows: the questions that make a row lawful.
use Rattle.std.specs.Prelude.{ℕ, zero, suc, Bool, true, cond, not, ◌&&◌, ◌||◌, List, [], ◌∷◌, ◌==◌, nat_le, nat_lt, slice_index}
use Rattle.terms.specs.declared.row.Row.{Row}
use Rattle.terms.specs.Refusals.{Question, ask}

-- p holds of each number below n
unfoldable pub each_below : ℕ → (ℕ → Bool) → Bool
each_below zero p = true
each_below (suc n) p = p n && each_below n p

-- the feature at a place of the row, and whether that place is in use
abbrev pub feature_at : Row → ℕ → ℕ
feature_at r k = slice_index r.features k

abbrev pub in_use : Row → ℕ → Bool
in_use r k = nat_lt k r.count

-- 1: is the kind known?
abbrev pub kind_known : Row → Bool
kind_known r = nat_le 1 r.kind && nat_le r.kind 5

-- 2: is every class below 64?
abbrev pub classes_low : Row → Bool
classes_low r = nat_lt r.left 64 && nat_lt r.right 64

-- 3: is every feature in use below 16?
abbrev pub low_at : Row → ℕ → Bool
low_at r k = not (in_use r k) || nat_lt (feature_at r k) 16

abbrev pub features_low : Row → Bool
features_low r = each_below 4 (low_at r)

-- has the row its kind's count?
abbrev pub count_fits : Row → Bool
count_fits r =
    cond (nat_le r.kind 2) (r.count == 0)
    (cond (nat_le r.kind 4) (r.count == 1) (nat_le 1 r.count && nat_le r.count 4))

-- is the feature at place i, if in use, another than that at place j?
abbrev pub other_than : Row → ℕ → ℕ → Bool
other_than r i j = not (in_use r i) || not (feature_at r i == feature_at r j)

abbrev pub new_at : Row → ℕ → Bool
new_at r i = each_below i (other_than r i)

-- is no feature in use twice?
abbrev pub none_twice : Row → Bool
none_twice r = each_below 4 (new_at r)

-- are the unused features 0?
abbrev pub zero_at : Row → ℕ → Bool
zero_at r k = in_use r k || feature_at r k == 0

abbrev pub unused_zero : Row → Bool
unused_zero r = each_below 4 (zero_at r)

-- 4: has the row its kind's count and no feature twice, and are its unused fields 0?
abbrev pub fields_right : Row → Bool
fields_right r = count_fits r && (none_twice r && unused_zero r)

-- the questions of a row, in their order
abbrev pub row_questions : Row → List Question
row_questions r =
    ask 1 (kind_known r) ∷ ask 2 (classes_low r) ∷ ask 3 (features_low r) ∷ ask 4 (fields_right r) ∷ []

-- a row is lawful when its questions have yes
abbrev pub lawful : Row → Bool
lawful r = kind_known r && (classes_low r && (features_low r && fields_right r))

abbrev pub all_lawful : List Row → Bool
all_lawful [] = true
all_lawful (r ∷ rs) = lawful r && all_lawful rs

-- How the weight of a record falls as it grows.
use Rattle.std.proofs.Common.{◌≡◌, ℕ, zero, suc, ◌+◌, ◌^◌, ◌<◌, Bool, true, false, cond, nat_eq, List, [], ◌∷◌, ◌++◌, length, map, take, drop, Some, None, Option, slice_set, slice_index_or, refl, sym, ap, ◌∙◌, subst, arith}
use Rattle.std.specs.Prelude.{not, ◌==◌}
use Rattle.std.specs.Option.{option_eq}
use Rattle.std.proofs.lemmas.Bool.{both_ways, eqb-true, eq-eqb}
use Rattle.std.proofs.lemmas.List.{get_or_default, set-get_or}
use Rattle.std.proofs.lemmas.List.Edits.{map_over_more}
use Rattle.classes.specs.declared.ClassSet.{ClassSet}
use Rattle.classes.specs.Sets.{joined}
use Rattle.classes.specs.Sets as sets
use Rattle.classes.proofs.Members.{joined_more, same_weight}
use Rattle.completion.specs.declared.record.PartRecord.{PartRecord}
use Rattle.completion.specs.Records.{Grew, named_value, value_by, value_weight, valued, values_weight, weight}

-- the record with other classes
abbrev pub with_classes : PartRecord → ClassSet → PartRecord
with_classes r s = record { classes = s; leader = r.leader; values = r.values }

-- a value that is set takes the place of another
values_set : (vs : List (Option ℕ)) (f : ℕ) (v : Option ℕ) → f < length vs
    → values_weight (slice_set vs f v) + value_weight (slice_index_or vs f None) ≡ values_weight vs + value_weight v
unfolding values_weight
values_set [] f v h = absurd (omega arith)
values_set (x ∷ vs) zero v h = omega arith
values_set (x ∷ vs) (suc f) v h = let i = values_set vs f v (omega arith) in omega arith

-- a value below the one before makes the record lighter, and any value is below none
pub valued_lighter : (r : PartRecord) (f v : ℕ) → f < length r.values → v < value_weight (value_by r f) → weight (valued r f v) < weight r
valued_lighter r f v h l = let e = values_set r.values f (Some v) h in omega arith

grew_lighter : {r s : PartRecord} → weight s < weight r → Grew true r s
grew_lighter l = record { more = λ _. l; none = λ e. cc }

-- a record that is lighter than one that may have grown has grown
pub grew_then : (b : Bool) (r s t : PartRecord) → Grew b r s → weight t < weight s → Grew true r t
grew_then true r s t g l = let m = g.more refl in grew_lighter (omega arith)
grew_then false r s t g l = grew_lighter (subst (λ (q : PartRecord). weight t < weight q) (g.none refl) l)

-- a union that differs is heavier, so the record is lighter
pub gained_grew : (r : PartRecord) (more s : ClassSet) → s ≡ joined r.classes more → sets.weight s < 2 ^ 64
    → Grew (not (sets.weight s == sets.weight r.classes)) r (with_classes r s)
gained_grew r more s is h = by (sets.weight s == sets.weight r.classes) refl
  where
    by : (b : Bool) → (sets.weight s == sets.weight r.classes) ≡ b → Grew (not b) r (with_classes r s)
    by true e = record { more = λ q. cc; none = λ _. ap (with_classes r) (same_weight s r.classes (eqb-true _ _ e)) }
    by false e =
        let up = joined_more r.classes more in
        let w : sets.weight s ≡ sets.weight (joined r.classes more) = ap (λ (t : ClassSet). sets.weight t) is in
        let ne : sets.weight s ≡ sets.weight r.classes → ⊥ = λ q. both_ways _ e (eq-eqb _ _ q) in
        grew_lighter (omega arith)

-- what a test of a value says, where `from` is to become `to`
pub value_is : (v : Option ℕ) (from : ℕ) → option_eq nat_eq v (Some from) ≡ true → v ≡ Some from
value_is None from e = cc
value_is (Some u) from e = ap Some (eqb-true u from e)

pub value_stays : (v : Option ℕ) (from to : ℕ) → option_eq nat_eq v (Some from) ≡ false → named_value from to v ≡ v
value_stays None from to e = refl
value_stays (Some u) from to e = ap (λ (b : Bool). Some (cond b to u)) e

-- the values of which those below place i are renamed
abbrev pub named_below : ℕ → ℕ → ℕ → List (Option ℕ) → List (Option ℕ)
named_below from to i vs = map (named_value from to) (take i vs) ++ drop i vs

module _ (from to i : ℕ) (vs ws : List (Option ℕ)) (low : i < length vs) (long : i < length ws) (so : ws ≡ named_below from to i vs) where
  named_more : (v : Option ℕ) → slice_index_or ws i None ≡ v → slice_set ws i (named_value from to v) ≡ named_below from to (i + 1) vs
  named_more v e = map_over_more (named_value from to) vs ws i v low so (sym e ∙ get_or_default ws i None v long)

  pub value_renamed : slice_index_or ws i None ≡ Some from → slice_set ws i (Some to) ≡ named_below from to (i + 1) vs
  value_renamed e =
      let n : named_value from to (Some from) ≡ Some to = ap (λ (b : Bool). Some (cond b to from)) (eq-eqb from from refl) in
      subst (λ (v : Option ℕ). slice_set ws i v ≡ named_below from to (i + 1) vs) n (named_more (Some from) e)

  pub value_left : named_value from to (slice_index_or ws i None) ≡ slice_index_or ws i None → ws ≡ named_below from to (i + 1) vs
  value_left e =
      sym (set-get_or ws i None) ∙ (ap (λ (v : Option ℕ). slice_set ws i v) (sym e) ∙ named_more (slice_index_or ws i None) refl)

-- one more value is renamed
pub value_falls : (b : Bool) (r s : PartRecord) (f from to : ℕ) → Grew b r s → f < length s.values → value_by s f ≡ Some from → to < from
    → Grew true r (valued s f to)
value_falls b r s f from to g h e l = grew_then b r s _ g (valued_lighter s f to h (rw e l))

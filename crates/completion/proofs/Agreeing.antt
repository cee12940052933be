-- What it is that two records agree on the features of a key, as a test of the features in use.
use Rattle.std.proofs.Common.{◌≡◌, ℕ, zero, suc, ◌+◌, ◌<◌, ◌≤◌, Bool, true, false, cond, ◌&&◌, eqb, leb, nat_eq, length, take, Some, None, Option, sym, refl, ap, ◌∙◌, subst, inl, inr, arith}
use mathlib.Core.List.Memᴰ
use Rattle.std.specs.Prelude.{is_some, ◌↔◌}
use Rattle.std.specs.Option.{option_eq}
use Rattle.std.proofs.lemmas.Bool.{and_parts, eqb-true, eq-eqb, leb-true, cases_eq, both_ways, false≢true}
use Rattle.std.proofs.lemmas.List.{get_or-take, length-take}
use Rattle.terms.specs.declared.row.Row.{Row}
use Rattle.terms.specs.Rows.{lawful, kind_known, classes_low, features_low, count_fits, feature_at}
use Rattle.terms.specs.Worlds.{◌∈◌, features_from}
use Rattle.terms.proofs.Features.{AllAnswer}
use Rattle.completion.specs.declared.record.PartRecord.{PartRecord}
use Rattle.completion.specs.Records.{Agree, key_features, value_by}

pub lawful_count : (r : Row) → lawful r ≡ true → r.count ≤ 4
lawful_count r h =
    let a = and_parts (kind_known r) _ h in
    let b = and_parts (classes_low r) _ a.1 in
    let d = and_parts (features_low r) _ b.1 in
    by (leb r.kind 2) (leb r.kind 4) (and_parts (count_fits r) _ d.1).0
  where
    by : (s t : Bool) → cond s (eqb r.count 0) (cond t (eqb r.count 1) (leb 1 r.count && leb r.count 4)) ≡ true → r.count ≤ 4
    by true t e = let z = eqb-true r.count 0 e in omega arith
    by false true e = let z = eqb-true r.count 1 e in omega arith
    by false false e = leb-true r.count 4 (and_parts (leb 1 r.count) _ e).1

feature_from : (r : Row) (k n f : ℕ) → f ∈ features_from r k n → (j : ℕ) × (k ≤ j) × (j < k + n) × (feature_at r j ≡ f)
feature_from r k zero f m = absurd (Memᴰ.not-nil m)
feature_from r k (suc n) f m =
    elim (Memᴰ.cases_cons m) [
      | inl e ↦ (k, omega arith, omega arith, sym e)
      | inr t ↦ let j = feature_from r (suc k) n f t in (j.0, omega arith, omega arith, j.3)
    ]

pub feature_in : (r : Row) (k n j : ℕ) → k ≤ j → j < k + n → feature_at r j ∈ features_from r k n
feature_in r k zero j a b = absurd (omega arith)
feature_in r k (suc n) j a b =
    elim (cases_eq j k) [
      | inl e ↦ Memᴰ.head (ap (λ (i : ℕ). feature_at r i) e)
      | inr ne ↦ Memᴰ.tail (feature_in r (suc k) n j (omega arith) (omega arith))
    ]

-- is the one a value, and the other the same?
abbrev pub alike : Option ℕ → Option ℕ → Bool
alike a b = is_some a && option_eq nat_eq a b

alike_values : (a b : Option ℕ) → alike a b ≡ true → (v : ℕ) × (a ≡ Some v) × (b ≡ Some v)
alike_values None b e = cc
alike_values (Some u) None e = cc
alike_values (Some u) (Some v) e = (u, refl, ap Some (sym (eqb-true u v e)))

values_alike : (a b : Option ℕ) (v : ℕ) → a ≡ Some v → b ≡ Some v → alike a b ≡ true
values_alike a b v d e = rw (d, e) (eq-eqb v v refl)

module _ (row : Row) (r s : PartRecord) (most : row.count ≤ 4) (four : length row.features ≡ 4) where
  pub agree_from_all : (b : Bool) → AllAnswer (λ f. alike (value_by r f) (value_by s f)) (take row.count row.features) b
      → (b ≡ true) ↔ Agree (key_features row) r s
  agree_from_all true g = (
    (λ _ f m.
        let j = feature_from row 0 row.count f m in
        let n : j.0 < length (take row.count row.features) = let e = length-take row.count row.features in omega arith in
        let t = subst (λ (x : ℕ). alike (value_by r x) (value_by s x) ≡ true) (get_or-take row.count row.features j.0 0 (omega arith) ∙ j.3) (g j.0 0 (omega arith) n) in
        alike_values (value_by r f) (value_by s f) t),
    (λ _. refl),
  )
  agree_from_all false g = (
    (λ e. absurd (false≢true e)),
    (λ a.
        let e = length-take row.count row.features in
        let l : g.0 < row.count = omega arith in
        let f = feature_at row g.0 in
        let t = subst (λ (x : ℕ). alike (value_by r x) (value_by s x) ≡ false) (get_or-take row.count row.features g.0 0 l) (g.2 0) in
        let v = a f (feature_in row 0 row.count g.0 (omega arith) (omega arith)) in
        absurd (both_ways _ t (values_alike (value_by r f) (value_by s f) v.0 v.1 v.2))),
  )

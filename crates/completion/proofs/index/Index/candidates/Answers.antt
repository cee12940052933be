use Rattle.std.proofs.Common.{◌≡◌, ℕ, ◌<◌, Some, None, length, subst, sym, ◌∙◌, inl, inr, arith}
use Rattle.std.proofs.lemmas.Bool.{cases_lt}
use Rattle.std.proofs.lemmas.List.{get_or_past}
use Rattle.completion.specs.declared.record.PartRecord.{PartRecord}
use Rattle.completion.specs.Records.{value_by}
use Rattle.completion.specs.PartSets.{In, namers_at, parts_at}
use Rattle.completion.proofs.Agreeing.{feature_in}
use Rattle.completion.proofs.index.Index.candidates.Goals as goal

value_low : (r : PartRecord) (f v : ℕ) → length r.values ≡ 16 → value_by r f ≡ Some v → f < 16
value_low r f v long e =
    elim (cases_lt f 16) [
      | inl l ↦ l
      | inr l ↦ let n : value_by r f ≡ None = get_or_past r.values f None (omega arith) in cc
    ]

pub returns-in_default : goal.returns-in_default
returns-in_default c ps lists q low leads has agree =
    let v = agree _ (feature_in c.args.key 0 c.args.key.count c.loop-place.place (omega arith) (omega arith)) in
    let e = c.value.ensures in
    absurd (c.in_default.not-Some v.0 (e ∙ v.1))

pub loop-place-preserved : goal.loop-place-preserved
loop-place-preserved c ps lists q low leads has agree =
    let v = agree _ (feature_in c.args.key 0 c.args.key.count c.loop-place.place (omega arith) (omega arith)) in
    let i = c.loop-place.invariant ps lists q low leads has agree in
    let said = sym c.value.ensures ∙ c.in-Some.is in
    let same : v.0 ≡ c.in-Some.value = cc in
    let f = c.from-in-loop-place.result in
    let sets = namers_at c.args.self.now.namers f in
    let named : In (parts_at sets v.0) q = rw c.from-in-loop-place.ensures (lists.namers _ (value_low c.args.one.now _ v.0 (omega arith) v.1) q v.0 low leads v.2) in
    c.meet-set.ensures q low i (rw c.from-in-loop-place-2.ensures (subst (λ n. In (parts_at sets n) q) same named))

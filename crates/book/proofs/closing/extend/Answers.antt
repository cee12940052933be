use Rattle.std.proofs.Common.{◌≡◌, ◌==◌, ◌≢◌, sym, ap, ◌∙◌, arith}
use Rattle.std.proofs.lemmas.List.{length-set, set-get_or}
use Rattle.std.proofs.lemmas.Bool.{not-true, not-false, both_ways, eqb-true, eq-eqb}
use Rattle.classes.specs.Sets.{none, weight}
use Rattle.classes.proofs.Members.{same_weight}
use Rattle.book.specs.Tables.{set_at}
use Rattle.book.proofs.Extending.{extend_by_none, extend_same, extend_grown, extend_heavier, extend_all}
use Rattle.book.proofs.closing.extend.Goals as goal
use Rattle.book.proofs.closing.extend.Goals.{then-ne, else-ne}

pub returns-then-is_empty-clause-extended : goal.returns-then-is_empty-clause-extended
returns-then-is_empty-clause-extended c =
    let e = eqb-true (weight c.args.more) 0 (sym c.if-is_empty.ensures) in
    extend_by_none c.args.within.now c.args.a c.args.more e

pub loop-class-preserved : goal.loop-class-preserved
loop-class-preserved c =
    let i = c.loop-class.invariant in
    let w₀ = c.args.within.now in
    let a = c.args.a in
    let more = c.args.more in
    let x = c.loop-class.class in
    let v = c.loop-class.within in
    let s = c.widen-new.result in
    let d = c.ne.ensures in
    elim c.if-ne.branch [
      | then-ne w ↦
          let differ : set_at v x ≢ s = λ q. both_ways (weight s == weight (set_at v x)) (not-true _ (sym d ∙ w.if-ne.true)) (eq-eqb (weight s) (weight (set_at v x)) (sym (ap weight q))) in
          rw (w.within-is, w.grown-is) (record {
            long = length-set v x s ∙ i.long;
            extending = extend_grown w₀ a more x v c.loop-class.grown i.extending s w.insert.new.self c.widen-new.ensures i.long c.loop-class-test.true w.insert.ensures;
            heavier = extend_heavier w₀ a more x v c.loop-class.grown i.extending s w.insert.new.self c.widen-new.ensures i.long c.loop-class-test.true w.insert.ensures differ (omega arith) i.heavier;
          })
      | else-ne w ↦
          let same : s ≡ set_at v x = same_weight s (set_at v x) (eqb-true (weight s) (weight (set_at v x)) (not-false _ (sym d ∙ w.if-ne.false))) in
          let table : c.if-ne.within ≡ v = w.within-is ∙ set-get_or v x none in
          rw (table, w.grown-is) (record {
            long = i.long;
            extending = extend_same w₀ a more x v c.loop-class.grown i.extending (sym same ∙ c.widen-new.ensures);
            heavier = i.heavier;
          })
    ]

pub returns-clause-extended : goal.returns-clause-extended
returns-clause-extended c =
    extend_all c.args.within.now c.args.a c.args.more c.loop-class.class c.loop-class.within c.loop-class.grown (omega arith) c.loop-class.invariant.long c.loop-class-test.false c.loop-class.invariant.extending

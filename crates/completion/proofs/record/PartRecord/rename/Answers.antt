use Rattle.std.proofs.Common.{◌≡◌, Some, None, slice_index_or, sym, ◌∙◌, arith}
use Rattle.std.proofs.lemmas.List.{length-set, set-get_or}
use Rattle.completion.proofs.Weighing.{value_is, value_stays, value_renamed, value_left, value_falls}
use Rattle.completion.proofs.record.PartRecord.rename.Goals as goal
use Rattle.completion.proofs.record.PartRecord.rename.Goals.{then-eq, else-eq}

pub loop-value-preserved : goal.loop-value-preserved
loop-value-preserved c =
    let i = c.loop-value.invariant in
    let x = c.loop-value.value-index in
    let vs = c.loop-value.value-items in
    let from = c.args.from in
    let to = c.args.to in
    elim c.if-eq.branch [
      | then-eq w ↦
          let e = value_is (slice_index_or vs x None) from (sym c.eq.ensures ∙ w.if-eq.true) in
          rw (w.grew-is, w.value-items-is) (record {
            long = length-set vs x (Some to) ∙ i.long;
            values = value_renamed from to x c.args.self.now.values vs (omega arith) (omega arith) i.values e;
            grew = value_falls c.loop-value.grew _ _ x from to i.grew (omega arith) e c.requires;
          })
      | else-eq w ↦
          let e = value_stays (slice_index_or vs x None) from to (sym c.eq.ensures ∙ w.if-eq.false) in
          let same : c.if-eq.value-items ≡ vs = w.value-items-is ∙ set-get_or vs x None in
          rw (w.grew-is, same) (record {
            long = i.long;
            values = value_left from to x c.args.self.now.values vs (omega arith) (omega arith) i.values e;
            grew = i.grew;
          })
    ]

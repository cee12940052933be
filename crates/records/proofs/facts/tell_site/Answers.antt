use Rattle.std.proofs.Common.{◌≡◌, ℕ, ◌+◌, Ok, Err, rules, sym, ap, ◌∙◌}
use Rattle.std.proofs.lemmas.Result.{err_from_is_err_and}
use Rattle.records.proofs.Sites.{underway_none, turn_none, turn_ends, turn_refused, turn_told}
use Rattle.records.proofs.facts.tell_site.Goals as goal

pub loop-place-init : goal.loop-place-init
loop-place-init g c = record {
  valid = c.requires.valid;
  underway =
      rw (c.into_iter-place-iterator.ensures.into_iter_gives, c.enumerate-place-items.ensures.source, c.enumerate-place-items.ensures.count, c.chunks.ensures.rest, c.chunks.ensures.size)
      (underway_none c.args.bytes.now (g.S.Store.facts c.args.store.now) (g.S.Store.room c.args.store.now) _ c.size-size.ensures);
}

pub returns-then-not-marks-clause-told : goal.returns-then-not-marks-clause-told
returns-then-not-marks-clause-told g c =
    let s = c.in-Some.ensures.steps in
    rw s.1 (turn_ends c.loop-place.invariant.underway c.in-Some.record.now _ s.0.1.0 s.0.1.1 c.args.first c.if-not-marks.ensures)

pub loop-place-preserved : goal.loop-place-preserved
loop-place-preserved g c =
    let s = c.in-Some.ensures.steps in
    let there : c.tell_record.result ≡ Ok tt = search rules in
    rw (s.0.0, s.2) (record {
      valid = c.tell_record.ensures.stays;
      underway = turn_told c.loop-place.invariant.underway c.in-Some.record.now _ s.0.1.0 s.0.1.1 c.if-not-marks.ensures c.tell_record.ensures.told there;
    })

pub returns-in_err-map_err-clause-told : goal.returns-in_err-map_err-clause-told
returns-in_err-map_err-clause-told g c =
    let s = c.in-Some.ensures.steps in
    let p = err_from_is_err_and c.from_residual.result c.from_residual.ensures.1 in
    let f = c.in_err-map_err.field-0.0 in
    let there : c.tell_record.result ≡ Err f.refusal = search rules in
    let place : f.index ≡ c.args.first + c.in-Some.place = search rules in
    rw (p.1, p.2) (turn_refused c.loop-place.invariant.underway c.in-Some.record.now _ s.0.1.0 s.0.1.1 c.if-not-marks.ensures c.tell_record.ensures.told
    c.args.first f (place ∙ ap (λ (k : ℕ). c.args.first + k) s.1) there)

pub returns-clause-told : goal.returns-clause-told
returns-clause-told g c =
    let s = c.in-None.ensures.steps in
    turn_none c.loop-place.invariant.underway c.args.first c.size-size.result (c.size-size.ensures ∙ sym c.loop-place.invariant.underway.chunks.sized) s.0.1.0

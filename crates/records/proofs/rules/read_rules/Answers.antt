use Rattle.std.proofs.Common.{◌≡◌, ℕ, ◌/◌, length, Ok, Err, rules, sym, ap, ◌∙◌}
use Rattle.std.proofs.lemmas.Result.{err_from_is_err_and}
use Rattle.terms.specs.Refusals.{done}
use Rattle.book.specs.Drafts.{listed}
use Rattle.records.specs.Faults.{at_record, refused}
use Rattle.records.proofs.Chunks.{chunked_end, chunk_ends}
use Rattle.records.proofs.Rows.{underway_none, underway_ends, turn_faults, group_faults, turn_takes}
use Rattle.records.proofs.rules.read_rules.Goals as goal

pub loop-index-init : goal.loop-index-init
loop-index-init c = rw (c.into_iter-index-iterator.ensures.into_iter_gives, c.enumerate-index-items.ensures.source, c.enumerate-index-items.ensures.count, c.chunks.ensures.rest, c.chunks.ensures.size, c.new-draft.ensures) (underway_none c.args.bytes.now _ c.size-size.ensures)

pub returns-then-not-marks : goal.returns-then-not-marks
returns-then-not-marks c =
    let s = c.in-Some.ensures.steps in
    let u = c.loop-index.invariant in
    let ends = chunk_ends u.chunks c.in-Some.record.now _ s.0.1.0 s.0.1.1 c.if-not-marks.ensures in
    let sized = c.size-size.ensures in
    rw s.1 (record {
      answer = underway_ends u ends _ (search (sized, rules));
      counted = u.counted;
      place = search (sized, rules);
      read = (u.counted, ends, u.left);
    })

pub loop-index-preserved : goal.loop-index-preserved
loop-index-preserved c =
    let s = c.in-Some.ensures.steps in
    let there : Ok tt ≡ at_record c.loop-index.index-iterator.count (done c.take_rule.result) = search rules in
    rw (s.0.0, s.2) (turn_takes c.loop-index.invariant c.in-Some.record.now _ s.0.1.0 s.0.1.1 c.take_rule.result c.if-not-marks.ensures c.take_rule.ensures.answer
    (listed c.take_rule.new.draft) there c.take_rule.ensures.after)

pub returns-in_err-map_err : goal.returns-in_err-map_err
returns-in_err-map_err c =
    let s = c.in-Some.ensures.steps in
    let p = err_from_is_err_and c.from_residual.result c.from_residual.ensures.1 in
    let f = c.in_err-map_err.field-0.0 in
    let there : Err (refused f) ≡ at_record c.in-Some.index (done c.take_rule.result) = search rules in
    let here = there ∙ ap (λ (k : ℕ). at_record k (done c.take_rule.result)) s.1 in
    let u = c.loop-index.invariant in
    rw (p.1, p.2) (record {
      answer = group_faults u c.in-Some.record.now _ s.0.1.0 s.0.1.1 c.take_rule.result c.if-not-marks.ensures c.take_rule.ensures.answer _ here;
      counted = tt;
      place = tt;
      read = turn_faults u c.in-Some.record.now _ s.0.1.0 s.0.1.1 c.take_rule.result c.if-not-marks.ensures c.take_rule.ensures.answer _ here;
    })

pub returns : goal.returns
returns c =
    let u = c.loop-index.invariant in
    let e = chunked_end u.chunks c.in-None.ensures.steps.0.1.0 in
    let n = ap (λ (n : ℕ). length c.args.bytes.now / n) (c.size-size.ensures ∙ sym u.chunks.sized) ∙ e.0 in
    rw n (record { answer = underway_ends u e.1 _ e.2; counted = u.counted; place = e.2; read = (u.counted, e.1, u.left) })

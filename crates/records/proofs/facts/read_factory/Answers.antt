use Rattle.std.proofs.Common.{◌≡◌, ◌+◌, ◌∙◌, ap, sym, Ok, Err, arith, rules}
use Rattle.std.proofs.lemmas.Result.{err_from_is_err_and}
use Rattle.terms.specs.Refusals.{number, done}
use Rattle.records.specs.Faults.{at_record}
use Rattle.layout.specs.declared.Group.TheVariants.{Factory}
use Rattle.records.proofs.Chunks.{slice_past}
use Rattle.records.proofs.Images.{image_inside, image_passed, image_ends, image_refused}
use Rattle.records.proofs.facts.read_factory.Goals as goal

pub slice_bounds-rest-count : goal.slice_bounds-rest-count
slice_bounds-rest-count c = rw (c.size.ensures, c.count-count.ensures) (omega (arith, image_inside _ _ _ c.open-image.ensures.law))

pub slice_bounds-rest-start : goal.slice_bounds-rest-start
slice_bounds-rest-start c = rw (c.size.ensures, c.count-count.ensures) (omega (arith, image_inside _ _ _ c.open-image.ensures.law))

pub returns-in_err-map_err : goal.returns-in_err-map_err
returns-in_err-map_err c =
    let p = err_from_is_err_and c.from_residual.result c.from_residual.ensures.1 in
    let f = c.in_err-map_err.field-0.0 in
    let k = c.args.first + c.count-count.result in
    let there : Err (record { number_of = number f.refusal; index = f.index }) ≡ at_record k (done c.refuse_factory.result) = search rules in
    let law = c.open-image.ensures.law in
    let r = slice_past Factory _ _ _ c.args.bytes.now c.size.ensures c.count-count.ensures in
    rw (p.1, p.2) (λ rows e. image_refused _ _ _ law _ r _ k (omega arith) (there ∙ ap (at_record k) c.refuse_factory.ensures) rows (omega arith))

pub returns : goal.returns
returns c =
    let there : Ok tt ≡ done c.refuse_factory.result = search rules in
    let law = c.open-image.ensures.law in
    let r = slice_past Factory _ _ _ c.args.bytes.now c.size.ensures c.count-count.ensures in
    (image_ends _ _ _ law _ r (sym (there ∙ c.refuse_factory.ensures)), image_passed _ _ _ law)

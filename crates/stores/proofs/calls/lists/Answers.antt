use Rattle.std.proofs.Common.{◌≡◌, Some, refl, rules, tests, arith}
use Rattle.std.specs.List.{slice_get}
use Rattle.std.proofs.lemmas.Iterator.{cases_from_any, YieldsList-from_range}
use Rattle.stores.proofs.Listing.{listed_scan}
use Rattle.stores.proofs.calls.lists.Goals as goal

pub returns : goal.returns
returns g c =
    let facts = g.S.Store.facts c.args.store.now in
    listed_scan facts c.args.fact c.count.result c.any.result c.count.ensures
    (cases_from_any _ _ _ (λ i. slice_get facts i ≡ Some c.args.fact) (λ i. ¬ (slice_get facts i ≡ Some c.args.fact))
    c.any.ensures.ran (YieldsList-from_range 0 c.count.result c.count.result refl (omega arith)) (λ x q k. search (rules, tests)) (λ x q k. search (rules, tests)))

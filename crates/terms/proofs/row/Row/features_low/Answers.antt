use Rattle.std.proofs.Common.{rules, ◌≡◌, true, false}
use Rattle.std.specs.Prelude.{nat_lt}
use Rattle.std.proofs.lemmas.Iterator.{cases_from_all, YieldsList-from_slice}
use borrow.Author.Tests.{tests}
use Rattle.terms.proofs.Features.{each_used}
use Rattle.terms.proofs.row.Row.features_low.Goals as goal

pub returns : goal.returns
returns c =
    each_used c.args.self.now (search rules) (λ x. nat_lt x 16) c.all.result
    (cases_from_all _ _ _ (λ x. nat_lt x 16 ≡ true) (λ x. nat_lt x 16 ≡ false) c.all.ensures.ran (YieldsList-from_slice _ (search rules))
    (λ x q k. search (rules, tests)) (λ x q k. search (rules, tests)))

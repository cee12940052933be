use Rattle.std.proofs.Common.{rules, ◌≡◌, true, false}
use Rattle.std.specs.Prelude.{◌==◌}
use Rattle.std.proofs.lemmas.Iterator.{cases_from_all, YieldsList-from_slice}
use borrow.Author.Tests.{tests}
use Rattle.terms.proofs.Features.{each_unused}
use Rattle.terms.proofs.row.Row.unused_zero.Goals as goal

pub returns : goal.returns
returns c =
    each_unused c.args.self.now (search rules) (λ x. x == 0) c.all.result
    (cases_from_all _ _ _ (λ x. (x == 0) ≡ true) (λ x. (x == 0) ≡ false) c.all.ensures.ran (YieldsList-from_slice _ (search rules))
    (λ x q k. search (rules, tests)) (λ x q k. search (rules, tests)))

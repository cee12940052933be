-- The row that is found, and no earlier one.
use Rattle.std.proofs.Common.{sym, subst, ◌∙◌, rules}
use Rattle.std.proofs.lemmas.Iterator.{IsFirst-from_position, YieldsList-from_slice}
use borrow.Author.Tests.{tests}
use Rattle.search.specs.Rows.{Bars, Excluding}
use Rattle.search.proofs.Rules.{first_excludes}
use Rattle.search.proofs.excluding.excluding.Goals as goal

pub returns-in_err-row : goal.returns-in_err-row
returns-in_err-row c =
    let q = c.args.pair in
    let R = c.rows.result.now in
    let first = IsFirst-from_position _ _ c.position.result (λ r. Bars r q) (λ r. Bars r q → ⊥) c.position.ensures.ran (YieldsList-from_slice R cc) (λ x p k. search (rules, tests)) (λ x p k. search (rules, tests)) in
    subst (Excluding c.args.book.now q) (c.in_err-row.was ∙ sym c.from_residual.ensures) (first_excludes c.args.book.now R q c.position.result c.rows.ensures first)

pub returns : goal.returns
returns c =
    let q = c.args.pair in
    let R = c.rows.result.now in
    let first = IsFirst-from_position _ _ c.position.result (λ r. Bars r q) (λ r. Bars r q → ⊥) c.position.ensures.ran (YieldsList-from_slice R cc) (λ x p k. search (rules, tests)) (λ x p k. search (rules, tests)) in
    subst (Excluding c.args.book.now q) c.in_ok-row.was (first_excludes c.args.book.now R q c.position.result c.rows.ensures first)

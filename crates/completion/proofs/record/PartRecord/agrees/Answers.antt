use Rattle.std.proofs.Common.{rules, ◌≡◌, ℕ, true, false, take, ap, ◌∙◌, arith}
use Rattle.std.proofs.lemmas.Iterator.{cases_from_all, YieldsList-from_slice}
use borrow.Author.Tests.{tests}
use Rattle.completion.specs.Records.{value_by}
use Rattle.completion.proofs.Agreeing.{alike, lawful_count, agree_from_all}
use Rattle.completion.proofs.record.PartRecord.agrees.Goals as goal

pub returns : goal.returns
returns c =
    let r = c.args.self.now in
    let s = c.args.other.now in
    let row = c.args.key in
    let most = lawful_count row c.requires in
    let all : c.min.result ≡ row.count = omega arith in
    agree_from_all row r s most (search rules) c.all.result
    (cases_from_all _ _ _ (λ f. alike (value_by r f) (value_by s f) ≡ true) (λ f. alike (value_by r f) (value_by s f) ≡ false) c.all.ensures.ran
    (YieldsList-from_slice _ (c.iter.ensures.rest ∙ ap (λ (n : ℕ). take n row.features) all)) (λ x q k. search (rules, tests)) (λ x q k. search (rules, tests)))

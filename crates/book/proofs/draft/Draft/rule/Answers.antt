use Rattle.std.proofs.Common.{arith}
use Rattle.std.proofs.lemmas.Grind.{common_steps}
use Rattle.book.proofs.Taking.{rule_law, row_lawful, lawful_push}
use Rattle.book.specs.Drafts.{listed}
use Rattle.book.proofs.draft.Draft.rule.Goals as goal

pub returns-in_err-check-clause-law : goal.returns-in_err-check-clause-law
returns-in_err-check-clause-law c = rule_law (listed c.args.self.now) c.args.row _ (grind (arith, common_steps))

pub returns-in_default-clause-law : goal.returns-in_default-clause-law
returns-in_default-clause-law c = rule_law (listed c.args.self.now) c.args.row _ (grind (arith, common_steps))

pub invariant_of-self : goal.invariant_of-self
invariant_of-self c =
    let more = lawful_push (listed c.args.self.now) c.args.row c.args.self.now.lawful (row_lawful (listed c.args.self.now) c.args.row c.in_ok-check.ensures) in
    record { room = grind (arith, common_steps); lawful = grind (arith, common_steps, more) }

pub returns-clause-law : goal.returns-clause-law
returns-clause-law c = rule_law (listed c.args.self.now) c.args.row _ (grind (arith, common_steps))

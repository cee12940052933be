use Rattle.std.proofs.Common.{rules, arith}
use Rattle.std.proofs.lemmas.Grind.{common_steps}
use Rattle.stores.proofs.Law.{means_told}
use Rattle.stores.proofs.Rowing.{row_table}
use Rattle.stores.proofs.row.RowStoreStore.tell.Goals as goal

pub invariant_of-self : goal.invariant_of-self
invariant_of-self c = record {
  valid = record {
    within = search rules;
    means = means_told _ _ c.args.fact c.answer_lawful.result _ _ c.args.self.now.valid.means (grind (arith, common_steps));
  };
}

pub returns-then-eq-clause-table : goal.returns-then-eq-clause-table
returns-then-eq-clause-table c = row_table _ _ _ _ c.put.ensures

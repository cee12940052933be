use Rattle.std.proofs.Common.{arith}
use Rattle.std.proofs.lemmas.Grind.{common_steps}
use Rattle.stores.proofs.Law.{means_told}
use Rattle.stores.proofs.additions.AdditionsStore.tell.Goals as goal

pub returns-then-eq-clause-stays : goal.returns-then-eq-clause-stays
returns-then-eq-clause-stays g c = record {
  lower = c.requires.lower;
  own_few = grind (arith, common_steps);
  means = means_told _ _ c.args.fact c.answer_lawful.result _ _ c.requires.means (grind (arith, common_steps));
}

use Rattle.std.proofs.Common.{arith}
use Rattle.std.proofs.lemmas.Grind.{common_steps}
use Rattle.stores.proofs.Law.{means_told}
use Rattle.cabinet.proofs.CabinetStore.tell.Goals as goal

pub invariant_of-self : goal.invariant_of-self
invariant_of-self c = record {
  room = grind (arith, common_steps);
  valid = means_told _ _ c.args.fact c.answer_lawful.result _ _ c.args.self.now.valid (grind (arith, common_steps));
}

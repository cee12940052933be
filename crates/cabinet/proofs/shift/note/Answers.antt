use Rattle.std.proofs.Common.{rules}
use Rattle.stores.proofs.Law.{tell_law}
use Rattle.cabinet.proofs.shift.note.Goals as goal

pub returns-clause-law : goal.returns-clause-law
returns-clause-law c = let law = tell_law _ _ _ _ _ _ c.args.log.now.valid c.tell.ensures.tells in search (rules, law)

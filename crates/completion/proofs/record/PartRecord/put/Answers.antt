use Rattle.std.proofs.Common.{arith}
use Rattle.completion.proofs.Weighing.{valued_lighter}
use Rattle.completion.proofs.record.PartRecord.put.Goals as goal

pub returns-clause-grew : goal.returns-clause-grew
returns-clause-grew c =
    valued_lighter c.args.self.now c.from.result c.args.value (omega arith)
    (rw (c.from.ensures, c.requires.untold) (omega arith))

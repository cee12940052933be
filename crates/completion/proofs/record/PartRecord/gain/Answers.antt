use Rattle.std.proofs.Common.{arith}
use Rattle.completion.proofs.Weighing.{gained_grew}
use Rattle.completion.proofs.record.PartRecord.gain.Goals as goal

pub returns-clause-grew : goal.returns-clause-grew
returns-clause-grew c =
    rw c.ne-grew.ensures (gained_grew c.args.self.now c.args.more c.union-classes.result c.union-classes.ensures.value (omega arith))

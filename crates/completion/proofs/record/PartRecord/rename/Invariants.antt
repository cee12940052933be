use Rattle.std.proofs.Common.{◌≡◌, length}
use Rattle.completion.specs.Records.{Grew, named}
use Rattle.completion.proofs.Weighing.{named_below}
use Rattle.completion.proofs.record.PartRecord.rename.Given as goal

abbrev pub invariant-loop-value : goal.invariant-loop-value
invariant-loop-value l = record {
  long : length l.value-items ≡ 16;
  values : l.value-items ≡ named_below l.from l.to l.value-index l.fn.self.values;
  grew : Grew l.grew l.fn.self (record { classes = l.fn.self.classes; leader = named l.from l.to l.fn.self.leader; values = l.value-items });
}

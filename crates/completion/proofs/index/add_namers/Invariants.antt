-- The sets have the namers of each value among the parts that the loop has passed.
use Rattle.std.proofs.Common.{◌≡◌, ℕ, ◌<◌, Some, length}
use Rattle.completion.specs.Records.{leader_of, part_at, value_by}
use Rattle.completion.specs.PartSets.{In, parts_at}
use Rattle.completion.proofs.index.add_namers.Given as goal

abbrev pub invariant-loop-part : goal.invariant-loop-part
invariant-loop-part l = record {
  long : length l.sets ≡ 256;
  named : (q v : ℕ) → q < l.part → leader_of l.parts q ≡ q → value_by (part_at l.parts q) l.feature ≡ Some v → In (parts_at l.sets v) q;
}

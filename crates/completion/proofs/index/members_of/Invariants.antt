-- The set has the members of the class among the parts that the loop has passed.
use Rattle.std.proofs.Common.{◌≡◌, ℕ, ◌<◌}
use Rattle.completion.specs.Records.{Has, leader_of, part_at}
use Rattle.completion.specs.PartSets.{In}
use Rattle.completion.proofs.index.members_of.Given as goal

abbrev pub invariant-loop-part : goal.invariant-loop-part
invariant-loop-part l = (q : ℕ) → q < l.part → leader_of l.parts q ≡ q → Has (part_at l.parts q) l.class → In l.set q

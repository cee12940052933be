use Rattle.completion.proofs.Saying.{follows_then}
use Rattle.completion.specs.Closed.{Follows}
use Rattle.completion.proofs.growth.Growth.sweep_listed.Goals.{Joined-not-is_empty, then-not-is_empty, else-not-is_empty}
use Rattle.completion.proofs.growth.Growth.sweep_listed.Goals as goal

next : (c : Joined-not-is_empty) → Follows c.args.rules.now c.args.self.now c.if-not-is_empty.self
next c =
    elim c.if-not-is_empty.branch [
      | then-not-is_empty w ↦ rw w.self-is (follows_then c.loop-p.invariant w.sweep_part.ensures)
      | else-not-is_empty w ↦ rw w.self-is c.loop-p.invariant
    ]

pub loop-p-preserved : goal.loop-p-preserved
loop-p-preserved c = next (goal.at.loop-p-preserved c).Joined-not-is_empty

pub returns-after-not-is_empty : goal.returns-after-not-is_empty
returns-after-not-is_empty c = next (goal.at.returns-after-not-is_empty c).Joined-not-is_empty

use Rattle.completion.specs.Closed.{Joins}
use Rattle.completion.proofs.Saying.{joins_none, joins_then}
use Rattle.completion.proofs.growth.Growth.sweep_row.Goals as goal
use Rattle.completion.proofs.growth.Growth.sweep_row.Goals.{Joined-has, then-has, else-has}

first : (c : Joined-has) → Joins c.args.row c.args.self.now c.if-has.self
first c =
    elim c.if-has.branch [
      | then-has w ↦ rw w.self-is w.meet_each.ensures
      | else-has w ↦ rw w.self-is (joins_none c.args.row c.args.self.now)
    ]

pub returns-then-has-2 : goal.returns-then-has-2
returns-then-has-2 c = joins_then (first (goal.at.returns-then-has-2 c).Joined-has) c.meet_each-then-has-2.ensures

pub returns-else-row : goal.returns-else-row
returns-else-row c = first (goal.at.returns-else-row c).Joined-has

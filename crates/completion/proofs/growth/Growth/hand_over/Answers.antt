-- Classes first, and then a value by each feature.
use Rattle.std.proofs.Common.{◌+◌, sym, subst, arith}
use Rattle.completion.proofs.Following.{Handing, handed_first, handed_value, handed_none}
use Rattle.completion.proofs.growth.Growth.hand_over.Goals as goal
use Rattle.completion.proofs.growth.Growth.hand_over.Goals.{in-Some, in_default}

pub loop-feature-init : goal.loop-feature-init
loop-feature-init c =
    let more = c.gain.ensures in
    handed_first c.args.part (omega arith) more.went (rw c.from.ensures at more.given) (rw c.from.ensures at more.right)

pub loop-feature-preserved : goal.loop-feature-preserved
loop-feature-preserved c =
    let next = Handing c.args.self.now c.args.part (c.loop-feature.feature + 1) in
    let i = c.loop-feature.invariant in
    elim c.match-value.branch [
      | in-Some w ↦
          let more = w.value-in-Some.ensures in
          let leader = w.leader-leader.ensures in
          subst next (sym w.self-is) (handed_value w.in-Some.value (omega arith) (sym (rw c.from.ensures at w.in-Some.ensures)) i more.went (rw leader at more.given) (rw leader at more.right))
      | in_default w ↦
          subst next (sym w.self-is) (handed_none (sym (rw c.from.ensures at w.in_default.ensures)) i)
    ]

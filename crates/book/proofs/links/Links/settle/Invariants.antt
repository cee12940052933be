use Rattle.std.proofs.Common.{◌≡◌, ◌+◌, ◌*◌, ◌^◌, List, length}
use Rattle.classes.specs.Sets.{weight}
use Rattle.terms.specs.Worlds.{Rule}
use Rattle.book.specs.Sealing.{Direct, Ready, Open, missing}
use Rattle.book.proofs.links.Links.settle.Given as goal

abbrev pub invariant-loop-a : goal.invariant-loop-a
invariant-loop-a l =
    (length l.within ≡ 64)
    × ((R : List Rule) → Direct R l.self → Ready R l.initial.within → Open R l.within l.waiting)

abbrev pub decreases-loop-a : goal.decreases-loop-a
decreases-loop-a l = missing l.within * 2 ^ 64 + weight l.waiting

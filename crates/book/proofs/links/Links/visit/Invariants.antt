use Rattle.std.proofs.Common.{◌≡◌, ℕ, ◌<◌, false, List}
use Rattle.classes.specs.Sets.{has}
use Rattle.terms.specs.Worlds.{Rule}
use Rattle.book.specs.Sealing.{Direct, Ordered, Served, Step, Heavier}
use Rattle.book.proofs.links.Links.visit.Given as goal

abbrev pub invariant-loop-by : goal.invariant-loop-by
invariant-loop-by l =
    ((R : List Rule) → Direct R l.self → Step R l.initial.within l.again l.within)
    × ((R : List Rule) → Direct R l.self → Ordered l.initial.within → has l.again l.a ≡ false → (f : ℕ) → f < l.by-index → Served R l.within l.a f)
    × Heavier l.initial.within l.again l.within

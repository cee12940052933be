use Rattle.std.proofs.Common.{ℕ, ◌<◌, List}
use Rattle.terms.specs.Worlds.{◌∈◌, Rule, subclass}
use Rattle.book.specs.Tables.{At}
use Rattle.book.specs.Sealing.{Direct, Sound, Ordered}
use Rattle.book.proofs.links.Links.climb.Given as goal

abbrev pub invariant-loop-class : goal.invariant-loop-class
invariant-loop-class l =
    (R : List Rule) → Direct R l.self → Sound R l.initial.within → Ordered l.initial.within
    → Sound R l.within × Ordered l.within × ((A B : ℕ) → A < l.class → subclass A B ∈ R → At l.within A B)

use Rattle.std.proofs.Common.{◌≡◌, ℕ, List, ◌++◌}
use Rattle.std.specs.Fmt.{HasWritten, IsPlainFormatter}
use Rattle.classes.specs.Sets.{has}
use Rattle.listing.specs.Lines.{numbers}
use Rattle.listing.proofs.NumbersDisplay.fmt.Given as goal

abbrev pub invariant-loop-class : goal.invariant-loop-class
invariant-loop-class g l =
    IsPlainFormatter l.initial.f
    → (text : List ℕ) × HasWritten g.W.Write.write_str_gives l.initial.f text l.f × (text ++ numbers (has l.class-iterator.rest) ≡ numbers (has l.self.0))

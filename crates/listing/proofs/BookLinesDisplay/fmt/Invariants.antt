use Rattle.std.specs.Fmt.{HasWritten, IsPlainFormatter}
use Rattle.listing.specs.Lines.{joined_below, class_lines}
use Rattle.listing.proofs.BookLinesDisplay.fmt.Given as goal

abbrev pub invariant-loop-class : goal.invariant-loop-class
invariant-loop-class g l =
    IsPlainFormatter l.initial.f → HasWritten g.W.Write.write_str_gives l.initial.f (joined_below l.class (class_lines l.book)) l.f

use Rattle.std.specs.Fmt.{HasWritten, IsPlainFormatter}
use Rattle.listing.specs.Lines.{joined_below, leads_line}
use Rattle.listing.proofs.ClassLinesDisplay.fmt.Given as goal

abbrev pub invariant-loop-feature : goal.invariant-loop-feature
invariant-loop-feature g l =
    IsPlainFormatter l.initial.f → HasWritten g.W.Write.write_str_gives l.initial.f (joined_below l.feature-counter (leads_line l.self.book.now l.class)) l.f

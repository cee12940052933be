use Rattle.listing.proofs.Joining.{lines_none, lines_some}
use Rattle.listing.proofs.LineDisplay.fmt.Goals as goal

pub returns-then-is_empty-clause-writes : goal.returns-then-is_empty-clause-writes
returns-then-is_empty-clause-writes g c = lines_none _ _ _ _ c.if-is_empty.ensures

pub returns-clause-writes : goal.returns-clause-writes
returns-clause-writes g c = lines_some _ _ _ _ _ _ c.if-is_empty.ensures c.writeln.ensures.writes

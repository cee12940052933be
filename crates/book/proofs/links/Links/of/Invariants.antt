use Rattle.std.proofs.Common.{take}
use Rattle.terms.specs.Worlds.{rules_of}
use Rattle.book.specs.Sealing.{Direct}
use Rattle.book.proofs.links.Links.of.Given as goal

abbrev pub invariant-loop-row : goal.invariant-loop-row
invariant-loop-row l = Direct (rules_of (take l.row-index l.rows)) l.links

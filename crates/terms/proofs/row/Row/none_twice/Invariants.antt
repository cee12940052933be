-- Each feature before is new at its place.
use Rattle.std.proofs.Common.{◌≡◌, true}
use Rattle.terms.specs.Rows.{each_below, new_at}
use Rattle.terms.proofs.row.Row.none_twice.Given as goal

abbrev pub invariant-loop-i : goal.invariant-loop-i
invariant-loop-i l = each_below l.i (new_at l.self) ≡ true

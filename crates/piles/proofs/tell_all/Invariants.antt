use Rattle.std.proofs.Common.{◌≡◌, take}
use Rattle.piles.specs.Tables.{places_of, told_all}
use Rattle.piles.proofs.Telling.{Filled}
use Rattle.piles.proofs.tell_all.Given as goal

abbrev pub invariant-loop-fact : goal.invariant-loop-fact
invariant-loop-fact l =
    (l.store.rows.ghost_name ≡ l.initial.store.rows.ghost_name)
    × Filled l.fn.rows (told_all (places_of l.fn.rows) (take l.fact-index l.facts)) l.store

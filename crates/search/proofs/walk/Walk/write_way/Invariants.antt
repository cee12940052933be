-- What the loop that goes back over the pairs keeps.
use Rattle.std.proofs.Common.{◌≡◌, ◌+◌, length, reverse, take}
use Rattle.search.specs.Pairs.{Proper, mark_of}
use Rattle.search.proofs.Retracing.{Tail}
use Rattle.search.proofs.walk.Walk.write_way.Given as goal

abbrev pub invariant-loop-slot : goal.invariant-loop-slot
invariant-loop-slot l =
    Proper l.pair
    × (mark_of l.self.trail.trace l.pair + l.slot-index ≡ length l.letters + 1)
    × Tail l.self.book.now l.pair (reverse (take l.slot-index l.letters)) l.fn.end.pair

-- What the loops over parts, classes and partners keep.
use Rattle.std.proofs.Common.{◌≡◌, ℕ, true}
use Rattle.classes.specs.Sets.{has}
use Rattle.book.specs.Tables.{set_at, At}
use Rattle.queue.specs.Lines.{waiting}
use Rattle.search.specs.Search.{Met, Nothing, Same}
use Rattle.search.proofs.Turns.{Done, From, Rows, Cells, Fresh}
use Rattle.search.proofs.Sowing.{Sown}
use Rattle.search.proofs.walk.Walk.seed.Given as goal

abbrev pub invariant-loop-part : goal.invariant-loop-part
invariant-loop-part l =
    Same l.fn.self l.self
    × Met l.fn.self.parts.now l.fn.self.book.now Nothing (waiting l.self.queue) l.self.trail.trace 1
    × Done (Sown l.fn.self.parts.now) (From l.part) l.self.trail.trace 1

abbrev pub invariant-loop-a : goal.invariant-loop-a
invariant-loop-a l =
    Same l.fn.self l.self
    × Met l.fn.self.parts.now l.fn.self.book.now Nothing (waiting l.self.queue) l.self.trail.trace 1
    × Done (Sown l.fn.self.parts.now) (Rows l.part l.a-iterator.rest) l.self.trail.trace 1
    × ((c : ℕ) → has l.a-iterator.rest c ≡ true → At l.fn.self.parts.now l.part c)

abbrev pub invariant-loop-b : goal.invariant-loop-b
invariant-loop-b l =
    Same l.fn.self l.self
    × Met l.fn.self.parts.now l.fn.self.book.now Nothing (waiting l.self.queue) l.self.trail.trace 1
    × Done (Sown l.fn.self.parts.now) (Cells l.part l.a-iterator.rest l.a l.b-iterator.rest) l.self.trail.trace 1
    × Fresh l.self.trail.trace (set_at l.fn.self.parts.now l.part) l.a l.b-iterator.rest

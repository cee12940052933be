-- What the loops over waiting pairs, features, classes and partners keep.
use Rattle.std.proofs.Common.{◌≡◌, ℕ, ◌+◌, ◌≤◌, true, length, None}
use Rattle.classes.specs.Sets.{has}
use Rattle.book.specs.Books.{leads_set}
use Rattle.queue.specs.Lines.{waiting}
use Rattle.search.specs.declared.walk.Walk.{Walk}
use Rattle.search.specs.Graph.{Lead}
use Rattle.search.specs.Pairs.{unmarked}
use Rattle.search.specs.Search.{Between, Same}
use Rattle.search.proofs.Turns.{Done, From, Rows, Cells, Fresh}
use Rattle.search.proofs.Working.{AtWork, Led}
use Rattle.search.proofs.walk.Walk.hunt.Given as goal

-- the work that is left: pairs that wait, and pairs that are not met
abbrev left_of : Walk → ℕ
left_of w = length (waiting w.queue) + unmarked w.trail.trace

abbrev pub invariant-search : goal.invariant-search
invariant-search l =
    Same l.fn.self l.self
    × Between l.fn.self.parts.now l.fn.self.book.now (waiting l.self.queue) l.self.trail.trace
    × (l.found ≡ None)

abbrev pub decreases-search : goal.decreases-search
decreases-search l = left_of l.self

abbrev pub invariant-loop-letter : goal.invariant-loop-letter
invariant-loop-letter l =
    Same l.fn.self l.self
    × AtWork l.fn.self.parts.now l.fn.self.book.now (waiting l.self.queue) l.self.trail.trace l.from l.depth
    × Done (Led l.fn.self.book.now l.from) (From l.letter) l.self.trail.trace (l.depth + 1)
    × (left_of l.self ≤ left_of l.initial.self)
    × (l.found ≡ None)

abbrev pub invariant-loop-c : goal.invariant-loop-c
invariant-loop-c l =
    Same l.fn.self l.self
    × AtWork l.fn.self.parts.now l.fn.self.book.now (waiting l.self.queue) l.self.trail.trace l.from l.depth
    × Done (Led l.fn.self.book.now l.from) (Rows l.letter l.c-iterator.rest) l.self.trail.trace (l.depth + 1)
    × (left_of l.self ≤ left_of l.initial.self)
    × (l.found ≡ None)
    × ((k : ℕ) → has l.c-iterator.rest k ≡ true → Lead l.fn.self.book.now l.from.left l.letter k)

abbrev pub invariant-loop-d : goal.invariant-loop-d
invariant-loop-d l =
    Same l.fn.self l.self
    × AtWork l.fn.self.parts.now l.fn.self.book.now (waiting l.self.queue) l.self.trail.trace l.from l.depth
    × Done (Led l.fn.self.book.now l.from) (Cells l.letter l.c-iterator.rest l.c l.d-iterator.rest) l.self.trail.trace (l.depth + 1)
    × (left_of l.self ≤ left_of l.initial.self)
    × (l.found ≡ None)
    × Fresh l.self.trail.trace (leads_set l.fn.self.book.now l.from.right l.letter) l.c l.d-iterator.rest

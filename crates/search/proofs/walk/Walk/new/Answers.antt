-- A walk that has met no pair: a place is left for each.
use Rattle.std.proofs.Common.{length, is_none, Option, ap, arith}
use Rattle.std.proofs.lemmas.List.Sums.{count_by-le-length}
use Rattle.search.specs.declared.trail.Trace.{Trace}
use Rattle.search.proofs.walk.Walk.new.Goals as goal

pub invariant_of-result-clause-room : goal.invariant_of-result-clause-room
invariant_of-result-clause-room c =
    let T = c.new-2.result.trace in
    omega (arith, ap length c.new.ensures.empty, count_by-le-length (λ (e : Option Trace). is_none e) T, c.new-2.result.size, c.new.ensures.room, c.requires)

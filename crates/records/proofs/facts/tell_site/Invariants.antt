use Rattle.std.specs.Slice.Iter.{chunks_rest, chunks_size}
use Rattle.records.proofs.Sites.{Underway}
use Rattle.records.proofs.facts.tell_site.Given as goal

abbrev pub invariant-loop-place : goal.invariant-loop-place
invariant-loop-place g l = record {
  valid : g.S.Store.valid l.store;
  underway : Underway l.bytes (g.S.Store.facts l.fn.store) (g.S.Store.room l.fn.store) (chunks_size l.place-iterator.iter) (chunks_rest l.place-iterator.iter) l.place-iterator.count (g.S.Store.facts l.store) (g.S.Store.room l.store);
}

use Rattle.std.specs.Slice.Iter.{chunks_rest, chunks_size}
use Rattle.book.specs.Drafts.{listed}
use Rattle.records.proofs.Rows.{Underway}
use Rattle.records.proofs.rules.read_rules.Given as goal

abbrev pub invariant-loop-index : goal.invariant-loop-index
invariant-loop-index l =
    Underway l.bytes (chunks_size l.index-iterator.iter) (chunks_rest l.index-iterator.iter) l.index-iterator.count (listed l.draft)

use Rattle.runs.proofs.Making.{MadeBelow}
use Rattle.runs.proofs.running.run.Given as goal

abbrev pub invariant-loop-entry : goal.invariant-loop-entry
invariant-loop-entry g l = record {
  valid : g.S.Store.valid l.store;
  below : MadeBelow g.S.Store.facts g.S.Store.room l.book l.initial.store l.initial.sheet l.initial.entries l.entry-index l.store l.sheet l.entries;
}

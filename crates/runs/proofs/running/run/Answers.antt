use Rattle.std.proofs.Common.{arith}
use Rattle.runs.proofs.Keeping.{runs_keep_the_law}
use Rattle.runs.proofs.Making.{none_made, one_more, all_made}
use Rattle.runs.proofs.running.run.Goals as goal

pub loop-entry-init : goal.loop-entry-init
loop-entry-init g c = record { valid = c.requires; below = none_made g.S.Store.facts g.S.Store.room c.args.book.now c.args.store.now c.args.sheet.now c.args.entries.now }

pub loop-entry-preserved : goal.loop-entry-preserved
loop-entry-preserved g c = record {
  valid = c.perform.ensures.stays;
  below = one_more g.S.Store.facts g.S.Store.room c.args.book.now c.args.store.now c.args.sheet.now c.args.entries.now
      c.loop-entry.entry-index _ _ _ _ c.loop-entry.entries _ _ _ c.loop-entry.invariant.below c.perform.ensures.performed (omega arith) c.loop-entry.auto.entries;
}

pub returns-clause-account : goal.returns-clause-account
returns-clause-account g c =
    all_made g.S.Store.facts g.S.Store.room c.args.book.now c.args.store.now c.args.sheet.now c.args.entries.now
    c.loop-entry.entry-index _ _ c.loop-entry.entries c.loop-entry.invariant.below c.loop-entry-test.false c.loop-entry.auto.entries

pub returns-clause-every : goal.returns-clause-every
returns-clause-every g c = runs_keep_the_law g.S.Store.facts g.S.Store.room c.args.book.now

use Rattle.std.proofs.Common.{◌≡◌, ℕ, ◌<◌, length}
use Rattle.book.specs.Tables.{set_at}
use Rattle.book.specs.Sealing.{Led}
use Rattle.book.proofs.links.FeatureLinks.lead.Given as goal

abbrev pub invariant-loop-class : goal.invariant-loop-class
invariant-loop-class l = record {
  long : length l.table ≡ 64;
  each : (A : ℕ) → A < l.class → Led l.within l.self.ahead (set_at l.within A) (set_at l.table A);
}

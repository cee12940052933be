use Rattle.std.proofs.Common.{◌≡◌, ℕ, ◌<◌, length}
use Rattle.book.specs.Tables.{table_at}
use Rattle.book.specs.Sealing.{EachLed, links_by}
use Rattle.book.proofs.links.Links.lead.Given as goal

abbrev pub invariant-loop-feature : goal.invariant-loop-feature
invariant-loop-feature l = record {
  long : length l.tables ≡ 16;
  each : (f : ℕ) → f < l.feature → EachLed l.within (links_by l.self f).ahead (table_at l.tables f);
}

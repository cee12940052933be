use Rattle.std.proofs.Common.{◌≡◌, ℕ, ◌<◌, ◌↔◌, length}
use Rattle.book.specs.Tables.{At}
use Rattle.book.proofs.sealing.reflexive.Given as goal

abbrev pub invariant-loop-class : goal.invariant-loop-class
invariant-loop-class l = record {
  long : length l.set-items ≡ 64;
  alone : (A B : ℕ) → At l.set-items A B ↔ ((A ≡ B) × (A < l.class));
}

-- The loop changes neither the flag nor the line.
use Rattle.std.proofs.Common.{◌≡◌}
use Rattle.completion.proofs.waiting.Waiting.all_due.Given as goal

abbrev pub invariant-loop-place : goal.invariant-loop-place
invariant-loop-place l = record {
  grown : l.self.grown ≡ l.fn.self.grown;
  line : l.self.line ≡ l.fn.self.line;
}

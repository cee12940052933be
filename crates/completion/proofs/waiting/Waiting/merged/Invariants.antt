-- The loop changes neither the flag nor the line.
use Rattle.std.proofs.Common.{◌≡◌}
use Rattle.completion.proofs.waiting.Waiting.merged.Given as goal

abbrev pub invariant-loop-block : goal.invariant-loop-block
invariant-loop-block l = record {
  grown : l.self.grown ≡ l.fn.self.grown;
  line : l.self.line ≡ l.fn.self.line;
}

use Rattle.std.proofs.Common.{◌≡◌, map, decimal, take}
use Rattle.script.specs.Lines.{Bytes}
use Rattle.script.proofs.reading.numbers.Given as goal

abbrev pub invariant-loop-word : goal.invariant-loop-word
invariant-loop-word l = record {
  bytes : Bytes l.numbers.items;
  read : map (λ w. w.now) (take l.word-index l.words) ≡ map decimal l.numbers.items;
}

-- The parts that wait, and how records grow beside them; no public call cites this file.
use Rattle.std.specs.Prelude.{◌≡◌, ℕ, ◌+◌, ◌*◌, ◌≤◌, false, cond, List, ◌∷◌, length, Some, None, Option}
use Rattle.queue.specs.Lines.{waiting}
use Rattle.completion.specs.declared.record.PartRecord.{PartRecord}
use Rattle.completion.specs.declared.waiting.Waiting.{Waiting}
use Rattle.completion.specs.Records.{total}

-- the first part is taken from the line v, or the line is as it was
abbrev pub Shorter : Option ℕ → List ℕ → List ℕ → Type 0
Shorter None v w = w ≡ v
Shorter (Some p) v w = v ≡ p ∷ w

-- what falls in each turn: each growth makes one part wait at most, and puts the flag up
abbrev pub load : List PartRecord → Waiting → ℕ
load ps w = total ps * 3 + length (waiting w.line) + cond w.grown 1 0

-- where the flag is down nothing has grown, and the load does not rise
pub record Moved (ps : List PartRecord) (v : Waiting) (qs : List PartRecord) (w : Waiting) : Type 0 where
  pub same : w.grown ≡ false → (v.grown ≡ false) × (qs ≡ ps)
  pub lighter : load qs w ≤ load ps v

-- How the records of all parts grow, from one call to the next; no public call cites this file.
use Rattle.std.specs.Prelude.{◌≡◌, ℕ, ◌<◌, true, []}
use Rattle.queue.specs.Lines.{waiting}
use Rattle.completion.specs.declared.growth.Growth.{Growth}
use Rattle.completion.specs.Records.{Kept, alone, part_at}
use Rattle.completion.specs.Lines.{Moved}

-- nothing is forgotten; where the flag is down nothing has grown; and the load does not rise
pub record Went (g h : Growth) : Type 0 where
  pub kept : Kept g.parts h.parts
  pub moved : Moved g.parts g.waiting h.parts h.waiting

-- the records say nothing but that each part is itself, and are still to be looked at
pub record Fresh (g : Growth) : Type 0 where
  pub each : (p : ℕ) → p < 256 → part_at g.parts p ≡ alone p
  pub grown : g.waiting.grown ≡ true
  pub none : waiting g.waiting.line ≡ []

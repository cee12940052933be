-- Growths in a loop.
use Rattle.std.proofs.Common.{◌≡◌, ℕ, ◌+◌, ◌<◌, ◌≤◌, false, List, length, Some, None, Option, sym, ◌∙◌, below_more, arith}
use Rattle.queue.specs.Lines.{waiting}
use Rattle.completion.specs.declared.record.PartRecord.{PartRecord}
use Rattle.completion.specs.declared.growth.Growth.{Growth}
use Rattle.completion.specs.Lines.{Shorter}
use Rattle.completion.specs.Growths.{Went}
use Rattle.completion.proofs.Going.{still}

-- what holds of each number below n where the flag is down still holds after a growth that makes it hold of n
pub still_below : {g h : Growth} (P : ℕ → List PartRecord → Type 0) (n : ℕ) → Went g h
    → (g.waiting.grown ≡ false → (k : ℕ) → k < n → P k g.parts)
    → (h.waiting.grown ≡ false → P n h.parts)
    → h.waiting.grown ≡ false → (k : ℕ) → k < n + 1 → P k h.parts
still_below {h = h} P n w old new e = below_more (λ k. P k h.parts) n (still (λ ps. (k : ℕ) → k < n → P k ps) w old e) (new e)

shorter : (v w : List ℕ) (o : Option ℕ) → Shorter o v w → length w ≤ length v
shorter v w None l = rw l (omega arith)
shorter v w (Some p) l = rw l (omega arith)

-- the line gives up a part, or none waits
pub went_taken : (o : Option ℕ) (g h : Growth) → h.parts ≡ g.parts → h.waiting.grown ≡ g.waiting.grown → Shorter o (waiting g.waiting.line) (waiting h.waiting.line) → Went g h
went_taken o g h p f l = record {
  kept = λ c _ s. rw p s;
  moved = record {
    same = λ e. (sym f ∙ e, p);
    lighter = rw (p, f) (let m = shorter _ _ o l in omega arith);
  };
}

use Rattle.std.proofs.Common.{◌≡◌, ℕ, length-set, set, ap, ◌∙◌, below_more, arith}
use Rattle.completion.specs.Records.{part_at, renamed}
use Rattle.completion.proofs.Going.{moved_none, moved_then}
use Rattle.completion.proofs.Growing.{here, there, set_same, set_moved}
use Rattle.completion.proofs.growth.rename_all.Goals as goal
use Rattle.completion.proofs.growth.rename_all.Goals.{then-rename, else-rename}

pub loop-part-preserved : goal.loop-part-preserved
loop-part-preserved c =
    let i = c.loop-part.invariant in
    let ps = c.args.parts.now in
    let qs = c.loop-part.parts in
    let k = c.loop-part.part in
    let r = c.rename.new.self in
    let other : (p : ℕ) → (p ≡ k → ⊥) → part_at (set qs k r) p ≡ part_at qs p = there qs k r i.long c.loop-part-test.true in
    record {
      long = length-set qs k r ∙ i.long;
      named = below_more (λ p. part_at (set qs k r) p ≡ renamed c.args.from c.args.to (part_at ps p)) k
          (λ p h. other p (λ e. omega arith) ∙ i.named p h)
          (here qs k r i.long c.loop-part-test.true ∙ (c.rename.ensures.after ∙ ap (renamed c.args.from c.args.to) (i.later k (omega arith))));
      later = λ p h. other p (λ e. omega arith) ∙ i.later p (omega arith);
      moved = moved_then i.moved (elim c.if-rename.branch [
        | then-rename w ↦ rw w.waiting-is
            (set_moved qs k r i.long c.loop-part-test.true c.loop-part.waiting w.renamed.new.self
            (c.rename.ensures.grew.more w.if-rename.true) w.renamed.ensures.grown w.renamed.ensures.line)
        | else-rename w ↦ rw (w.waiting-is, set_same qs k r (c.rename.ensures.grew.none w.if-rename.false)) (moved_none qs c.loop-part.waiting)
      ]);
    }

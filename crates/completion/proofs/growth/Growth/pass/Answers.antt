use Rattle.std.proofs.Common.{ℕ, ◌<◌, List, arith}
use Rattle.completion.specs.declared.record.PartRecord.{PartRecord}
use Rattle.completion.specs.Closed.{Visited}
use Rattle.completion.proofs.Going.{still, went_then}
use Rattle.completion.proofs.Running.{still_below}
use Rattle.completion.proofs.growth.Growth.pass.Goals as goal
use Rattle.completion.proofs.growth.Growth.pass.Goals.{else-loop-part-test, then-loop-part-test+else-part-lt255}

pub loop-part-preserved : goal.loop-part-preserved
loop-part-preserved c =
    let i = c.loop-part.invariant in
    let v = c.visit.ensures in record {
      went = went_then i.went v.went;
      closed = still_below (λ p ps. Visited c.args.rules.now ps p) c.loop-part.part v.went i.closed v.closed;
      right = λ F m t. v.right F m (i.right F m t);
    }

pub returns : goal.returns
returns c =
    let i = c.loop-part.invariant in
    let P = λ (p : ℕ) (ps : List PartRecord). Visited c.args.rules.now ps p in
    elim c.loop-part-test.branch [
      | else-loop-part-test w ↦ absurd (omega arith)
      | then-loop-part-test+else-part-lt255 w ↦
          let v = w.visit.ensures in
          let k = rw w.self-is at c.keys.ensures in record {
            went = went_then (went_then i.went v.went) k.went;
            closed = λ e lists. record {
              parts = still (λ ps. (p : ℕ) → p < 256 → P p ps) k.went (λ f p l. still_below P c.loop-part.part v.went i.closed v.closed f p (omega arith)) e;
              keys = λ n l five p q a b. k.closed e n l five p a lists q b;
            };
            right = λ F m t. k.right F m (v.right F m (i.right F m t));
          }
    ]

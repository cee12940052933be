use Rattle.completion.proofs.growth.Growth.run.Goals as goal

pub loop-self-preserved : goal.loop-self-preserved
loop-self-preserved c =
    let i = c.loop-self.invariant in
    let s = c.settle.ensures in
    let p = c.seek.ensures in record {
      kept = λ k l t. p.went.kept k l (s.went.kept k l (i.kept k l t));
      settled = p.closed;
      right = λ F m t. p.right F m (s.right F m (i.right F m t));
    }

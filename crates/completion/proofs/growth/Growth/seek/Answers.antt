use Rattle.completion.proofs.growth.Growth.seek.Goals as goal

pub returns-then-not-self-clause-right : goal.returns-then-not-self-clause-right
returns-then-not-self-clause-right c F m t = c.pass.ensures.right F m (c.sweep.ensures.right F m t)

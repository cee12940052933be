use Rattle.std.proofs.Common.{Some, refl}
use Rattle.completion.proofs.Running.{went_taken}
use Rattle.completion.proofs.Saying.{follows_then}
use Rattle.completion.proofs.growth.Growth.settle.Goals as goal

pub loop-part-preserved : goal.loop-part-preserved
loop-part-preserved c =
    let t = c.in-Some.ensures in
    let w = went_taken (Some c.in-Some.part) c.loop-part.self _ refl t.grown t.line in
    follows_then (follows_then c.loop-part.invariant (record { went = w; right = λ F m t. t })) c.look.ensures

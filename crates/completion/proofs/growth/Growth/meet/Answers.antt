use Rattle.completion.proofs.Saying.{joins_then}
use Rattle.completion.proofs.growth.Growth.meet.Goals as goal

pub returns-then-p-q : goal.returns-then-p-q
returns-then-p-q c =
    let a = c.key.ensures in
    let b = c.key-then-p-q.ensures in
    joins_then (record { went = a.went; right = a.right }) (record { went = b.went; right = b.right })

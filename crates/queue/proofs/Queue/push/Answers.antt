-- What push owes when it has taken the entry.
use Rattle.std.proofs.Common.{◌≡◌, ℕ, ◌+◌, ◌<◌, List, length, set, ap, ◌∙◌, arith}
use Rattle.queue.specs.Lines.{around, wrapped}
use Rattle.queue.proofs.Around.{around_push}
use Rattle.queue.proofs.Queue.push.Goals as goal

pub returns-clause-after : goal.returns-clause-after
returns-clause-after g c =
    let q = c.args.self.now in
    let xs = q.slots.now in
    let h : q.head < length xs = omega (arith, q.first, c.if-self.false) in
    let w : c.put.new.slots ≡ set xs (wrapped (length xs) (q.head + q.len)) c.args.entry =
    c.put.ensures.written ∙ ap (λ (i : ℕ). set xs i c.args.entry) c.place_after_head-at.ensures.counted in
    ap (λ (ys : List _). around ys q.head (q.len + 1)) w ∙ around_push xs q.head q.len c.args.entry h c.if-self.false

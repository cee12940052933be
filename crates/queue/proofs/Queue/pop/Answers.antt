-- What pop owes when it has taken an entry.
use Rattle.std.proofs.Common.{◌≡◌, ℕ, ◌+◌, ◌-◌, ◌<◌, ◌∷◌, length, get_or, sym, ap, ◌∙◌, arith}
use Rattle.queue.specs.Lines.{around}
use Rattle.queue.proofs.Around.{around_pop}
use Rattle.queue.proofs.Queue.pop.Goals as goal

pub returns-clause-taken : goal.returns-clause-taken
returns-clause-taken g c =
    let q = c.args.self.now in
    let xs = q.slots.now in
    let h : q.head < length xs = omega (arith, q.first, q.fits, c.if-self-eq0.false) in
    let n : q.len - 1 < length xs = omega (arith, q.fits, c.if-self-eq0.false) in
    let m : q.len ≡ q.len - 1 + 1 = omega (arith, c.if-self-eq0.false) in
    ap (around xs q.head) m ∙ around_pop xs q.head (q.len - 1) c.index-self-at.result h n
    ∙ ap (λ (j : ℕ). get_or xs q.head c.index-self-at.result ∷ around xs j (q.len - 1)) (sym c.place_after_head-self.ensures.counted)

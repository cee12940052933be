use Rattle.std.proofs.Common.{arith}
use Rattle.completion.proofs.Keying.{known_keyed}
use Rattle.completion.proofs.growth.Growth.key.Goals as goal

pub returns-then-is_keyed-clause-right : goal.returns-then-is_keyed-clause-right
returns-then-is_keyed-clause-right c R F k t =
    let h = c.is_keyed.ensures.0 c.if-is_keyed.true in
    c.unite.ensures.right R F (known_keyed c.args.self.now.parts c.args.row c.args.p c.args.q (omega arith) (omega arith) k t h.0 h.1 h.2) t

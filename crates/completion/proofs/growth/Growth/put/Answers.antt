use Rattle.std.proofs.Common.{arith}
use Rattle.completion.specs.Records.{part_at, valued}
use Rattle.completion.proofs.Growing.{set_shape, set_kept, set_moved, set_right, valued_leads, valued_more, valued_right}
use Rattle.completion.proofs.growth.Growth.put.Goals as goal

pub invariant_of-self : goal.invariant_of-self
invariant_of-self c =
    let g = c.args.self.now in
    let p = c.args.part in
    let r = part_at g.parts p in
    let f = c.args.feature in
    let v = c.args.leader in
    rw (c.put.ensures.after, c.from.ensures) (record {
      shape = set_shape g.parts p (valued r f v) (omega arith) (omega arith) (valued_more r f v c.requires.untold) g.shape
          (valued_leads g.parts r f v (omega arith) c.requires.leads (λ k w h. g.shape.lead p k w (omega arith) h));
    })

pub returns-clause-went : goal.returns-clause-went
returns-clause-went c =
    let g = c.args.self.now in
    let p = c.args.part in
    let r = part_at g.parts p in
    let f = c.args.feature in
    let v = c.args.leader in
    record {
      kept = rw (c.put.ensures.after, c.from.ensures) (set_kept g.parts p (valued r f v) (omega arith) (omega arith) (valued_more r f v c.requires.untold));
      moved = set_moved g.parts c.from.result c.put.new.self (omega arith) (omega arith) g.waiting c.valued.new.self
          c.put.ensures.grew c.valued.ensures.grown (let l = c.valued.ensures.line in omega arith);
    }

pub returns-clause-right : goal.returns-clause-right
returns-clause-right c =
    let g = c.args.self.now in
    let p = c.args.part in
    let r = part_at g.parts p in
    let f = c.args.feature in
    let v = c.args.leader in
    rw (c.put.ensures.after, c.from.ensures) (λ R F k. set_right g.parts p (valued r f v) (omega arith) (omega arith) R F (valued_right R F p r f v k))

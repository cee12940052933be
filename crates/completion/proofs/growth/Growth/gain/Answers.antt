use Rattle.std.proofs.Common.{◌≡◌, ℕ, true, set, arith}
use Rattle.classes.specs.Sets.{has}
use Rattle.completion.specs.Records.{Has, part_at, gained}
use Rattle.completion.proofs.Growing.{here, set_shape, set_kept, set_moved, set_right, gained_has, gained_more, gained_right}
use Rattle.completion.proofs.growth.Growth.gain.Goals as goal
use Rattle.completion.proofs.growth.Growth.gain.Goals.{After-gain}

pub invariant_of-self : goal.invariant_of-self
invariant_of-self c =
    let g = c.args.self.now in
    let p = c.args.part in
    let r = part_at g.parts p in
    let more = c.args.more in
    rw (c.gain.ensures.after, c.from-2.ensures) (record {
      shape = set_shape g.parts p (gained r more) (omega arith) (omega arith) (gained_more r more) g.shape (λ f v h. g.shape.lead p f v (omega arith) h);
    })

pub returns-then-gain-clause-went : goal.returns-then-gain-clause-went
returns-then-gain-clause-went c =
    let g = c.args.self.now in
    let p = c.args.part in
    let r = part_at g.parts p in
    let more = c.args.more in
    record {
      kept = rw (c.gain.ensures.after, c.from-2.ensures) (set_kept g.parts p (gained r more) (omega arith) (omega arith) (gained_more r more));
      moved = set_moved g.parts c.from-2.result c.gain.new.self (omega arith) (omega arith) g.waiting c.gained.new.self
          (c.gain.ensures.grew.more c.if-gain.true) c.gained.ensures.grown (let l = c.gained.ensures.line in omega arith);
    }

-- the part is in the classes, whether or not any was new
given : (c : After-gain) → (A : ℕ) → has c.args.more A ≡ true → Has (part_at (set c.args.self.now.parts c.from-2.result c.gain.new.self) c.args.part) A
given c =
    let ps = c.args.self.now.parts in
    let p = c.args.part in
    let r = part_at ps p in
    let more = c.args.more in
    rw (c.gain.ensures.after, c.from-2.ensures) (λ A h. rw (here ps p (gained r more) (omega arith) (omega arith)) (gained_has r more A h))

pub returns-then-gain-clause-given : goal.returns-then-gain-clause-given
returns-then-gain-clause-given c = given (goal.at.returns-then-gain-clause-given c).After-gain

pub returns-else-gain-clause-given : goal.returns-else-gain-clause-given
returns-else-gain-clause-given c = given (goal.at.returns-else-gain-clause-given c).After-gain

pub returns-then-gain-clause-right : goal.returns-then-gain-clause-right
returns-then-gain-clause-right c =
    let g = c.args.self.now in
    let p = c.args.part in
    let r = part_at g.parts p in
    let more = c.args.more in
    rw (c.gain.ensures.after, c.from-2.ensures) (λ R F k. set_right g.parts p (gained r more) (omega arith) (omega arith) R F (gained_right R F p r more k))

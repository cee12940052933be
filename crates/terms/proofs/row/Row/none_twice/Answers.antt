use Rattle.std.proofs.Common.{rules}
use Rattle.terms.specs.Rows.{new_at}
use Rattle.terms.proofs.Each.{each_none, each_more}
use Rattle.terms.proofs.Features.{found_twice, found_new, no_more}
use Rattle.terms.proofs.row.Row.none_twice.Goals as goal

pub returns-then-contains : goal.returns-then-contains
returns-then-contains c =
    let z = c.if-contains.ensures.cases in
    found_twice c.args.self.now (search rules) c.used-used.result.now c.used-used.ensures c.loop-i.i z.0 c.loop-i-test.true z.1 (z.2 0)

pub loop-i-init : goal.loop-i-init
loop-i-init c = each_none _

pub loop-i-preserved : goal.loop-i-preserved
loop-i-preserved c =
    each_more (new_at c.args.self.now) c.loop-i.i c.loop-i.invariant
    (found_new c.args.self.now (search rules) c.used-used.result.now c.used-used.ensures c.loop-i.i c.loop-i-test.true c.if-contains.ensures.cases)

pub returns : goal.returns
returns c = no_more c.args.self.now (search rules) c.used-used.result.now c.used-used.ensures c.loop-i.i c.loop-i-test.false c.loop-i.invariant

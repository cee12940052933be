use Rattle.std.proofs.Common.{arith}
use Rattle.book.proofs.Pulling.{pull_step, pull_served}
use Rattle.book.proofs.Stepping.{heavier_gathered}
use Rattle.book.proofs.links.FeatureLinks.pull.Goals as goal

pub returns-clause-step : goal.returns-clause-step
returns-clause-step c =
    pull_step c.args.self.now c.args.into.now c.args.within.now c.place-grown.new.within c.args.a c.requires
    c.gather-led.result c.gather-back.result c.place-grown.result c.gather.result
    (rw c.from.ensures at c.gather-led.ensures) c.gather-back.ensures c.place-grown.ensures.placed c.gather.ensures

pub returns-clause-served : goal.returns-clause-served
returns-clause-served c =
    pull_served c.args.self.now c.args.into.now c.args.within.now c.place-grown.new.within c.args.a c.requires
    c.gather-led.result c.gather-back.result c.place-grown.result c.gather.result
    (rw c.from.ensures at c.gather-led.ensures) c.gather-back.ensures c.place-grown.ensures.placed c.gather.ensures

pub returns-clause-heavier : goal.returns-clause-heavier
returns-clause-heavier c =
    heavier_gathered c.args.within.now c.place-grown.new.within c.args.into.now c.place-grown.result c.gather.result (omega arith)
    c.gather.ensures c.place-grown.ensures.heavier

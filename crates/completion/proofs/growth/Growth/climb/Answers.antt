use Rattle.std.proofs.Common.{◌<◌, arith}
use Rattle.completion.proofs.Following.{climbed_known}
use Rattle.completion.proofs.growth.Growth.climb.Goals as goal

pub returns-clause-right : goal.returns-clause-right
returns-clause-right c F meant right =
    let low : c.args.part < 256 = omega arith in
    c.gain.ensures.right _ F (climbed_known meant (right c.args.part low) (rw c.from.ensures at c.climbed.ensures)) right

use Rattle.std.proofs.Common.{◌<◌, sym, arith}
use Rattle.completion.proofs.Following.{led_known, pulled_known}
use Rattle.completion.proofs.growth.Growth.follow.Goals as goal

pub returns-clause-right : goal.returns-clause-right
returns-clause-right c F meant right =
    let v = c.in-Some.value in
    let f = c.args.feature in
    let low : c.args.part < 256 = omega arith in
    let here = right c.args.part low in
    let told = sym (rw c.from.ensures at c.in-Some.ensures) in
    let there = (c.args.self.now.shape.lead c.args.part f v low told).0 in
    let led = c.gain.ensures.right _ F (led_known f v c.requires meant here told (rw c.from.ensures at c.led.ensures)) right in
    c.gain-2.ensures.right _ F (pulled_known f v c.requires meant here told (led v there) (rw c.from-2.ensures at c.pulled.ensures)) led

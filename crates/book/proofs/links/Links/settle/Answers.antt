use Rattle.std.proofs.Common.{◌≡◌, ◌+◌, ◌*◌, ◌^◌, ◌<◌, sym, subst, arith}
use Rattle.classes.specs.declared.ClassSet.{ClassSet}
use Rattle.classes.specs.Sets.{all, joined, weight}
use Rattle.classes.proofs.Members.{has_all}
use Rattle.book.specs.Sealing.{Open, missing}
use Rattle.book.proofs.Stepping.{open_first, open_next, measure_less}
use Rattle.book.proofs.links.Links.settle.Goals as goal

pub loop-a-init : goal.loop-a-init
loop-a-init c = (omega arith, λ R d r. open_first R c.args.within.now all has_all r)

pub loop-a-smaller : goal.loop-a-smaller
loop-a-smaller c =
    let e : c.union-waiting.result ≡ joined c.take_lowest.new.self c.visit.result = c.union-waiting.ensures.value in
    let v = c.visit.new.within in
    let fit : weight c.union-waiting.result < 2 ^ 64 = omega arith in
    subst (λ (s : ClassSet). missing v * 2 ^ 64 + weight s < missing c.loop-a.within * 2 ^ 64 + weight c.loop-a.waiting) (sym e)
    (measure_less c.loop-a.within v c.loop-a.waiting c.take_lowest.new.self c.visit.result c.in-Some.a
    (subst (λ (s : ClassSet). weight s < 2 ^ 64) e fit) c.in-Some.ensures c.visit.ensures.heavier)

pub loop-a-preserved : goal.loop-a-preserved
loop-a-preserved c =
    let e : joined c.take_lowest.new.self c.visit.result ≡ c.union-waiting.result = sym c.union-waiting.ensures.value in
    let v = c.visit.new.within in (
      c.visit.array_long,
      λ R d r.
          subst (λ (s : ClassSet). Open R v s) e
          (open_next R c.loop-a.within v c.loop-a.waiting c.take_lowest.new.self c.visit.result c.in-Some.a
          c.in-Some.ensures (c.visit.ensures.step R d) (c.visit.ensures.served R d) (c.loop-a.invariant.1 R d r)),
    )

pub returns : goal.returns
returns c = λ R d r. subst (λ (s : ClassSet). Open R c.loop-a.within s) c.in_default.ensures.0 (c.loop-a.invariant.1 R d r)

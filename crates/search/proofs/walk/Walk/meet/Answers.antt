-- The pair waits at the end of the line, since a place is left for it.
use Rattle.std.proofs.Common.{◌≡◌, ◌+◌, ◌<◌, ◌≤◌, ltb, List, [], ◌∷◌, ◌++◌, length, Ok, Err, Result, refl, ap, ◌∙◌, arith}
use Rattle.std.proofs.lemmas.Bool.{lt-ltb, cond-true}
use Rattle.std.proofs.lemmas.List.{length_push}
use Rattle.terms.specs.declared.refusal.Refusal.{Refusal}
use Rattle.terms.specs.Refusals.{numbered}
use Rattle.queue.specs.Lines.{waiting, places, lengthened}
use Rattle.search.specs.declared.ClassPair.{ClassPair}
use Rattle.search.specs.Pairs.{unmarked}
use Rattle.search.proofs.Marking.{one_fewer}
use Rattle.search.proofs.walk.Walk.meet.Goals as goal

one_more : (W : List ClassPair) (q : ClassPair) (r : Result (Unit {0}) Refusal) → length (lengthened r W q) ≤ length W + 1
one_more W q (Ok a) = omega (arith, length_push W q)
one_more W q (Err x) = omega arith

taken : (W : List ClassPair) (q : ClassPair) (r : Result (Unit {0}) Refusal) → numbered r ≡ Ok tt → lengthened r W q ≡ W ++ q ∷ []
taken W q (Ok a) e = refl
taken W q (Err x) e = cc

pub invariant_of-self-clause-room : goal.invariant_of-self-clause-room
invariant_of-self-clause-room c =
    let w = c.args.self.now in
    let W = waiting w.queue in
    let one = one_fewer w.trail.trace w.trail.size c.args.pair c.args.trace c.requires.proper c.requires.unmet in
    omega (arith, w.room, one, ap unmarked c.mark.ensures, ap length c.push.ensures.after, one_more W c.args.pair c.push.result, c.push.ensures.room)

pub returns-clause-line : goal.returns-clause-line
returns-clause-line c =
    let w = c.args.self.now in
    let W = waiting w.queue in
    let one = one_fewer w.trail.trace w.trail.size c.args.pair c.args.trace c.requires.proper c.requires.unmet in
    let free : length W < places w.queue = omega (arith, w.room, one) in
    c.push.ensures.after ∙ taken W c.args.pair c.push.result (c.push.ensures.answer ∙ cond-true (ltb (length W) (places w.queue)) (Ok tt) (Err 6) (lt-ltb (length W) (places w.queue) free))

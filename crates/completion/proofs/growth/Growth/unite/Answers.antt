use Rattle.std.proofs.Common.{sym, subst, arith}
use Rattle.terms.specs.Facts.{one_object}
use Rattle.terms.specs.Completed.{Known, turned, joined}
use Rattle.completion.proofs.growth.Growth.unite.Goals as goal

pub returns-then-a-b-clause-right : goal.returns-then-a-b-clause-right
returns-then-a-b-clause-right c = λ R F k t.
    let p = c.args.p in
    let q = c.args.q in
    let a = subst (λ n. Known R F (one_object p n)) (sym c.leader-a.ensures) (t p (omega arith)).leader in
    let b = subst (λ n. Known R F (one_object q n)) (sym c.leader-b.ensures) (t q (omega arith)).leader in
    c.join.ensures.right R F (joined (turned b) (joined (turned k) a)) t

pub returns-then-b-a-clause-right : goal.returns-then-b-a-clause-right
returns-then-b-a-clause-right c = λ R F k t.
    let p = c.args.p in
    let q = c.args.q in
    let a = subst (λ n. Known R F (one_object p n)) (sym c.leader-a.ensures) (t p (omega arith)).leader in
    let b = subst (λ n. Known R F (one_object q n)) (sym c.leader-b.ensures) (t q (omega arith)).leader in
    c.join-then-b-a.ensures.right R F (joined (turned a) (joined k b)) t

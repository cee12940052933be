use Rattle.std.proofs.Common.{◌≡◌, ◌++◌, codes, decimal, refl, ap, ◌∙◌, arith}
use Rattle.std.proofs.Output.{has_written_append, has_written_of_eq}
use Rattle.classes.specs.declared.ClassSet.{ClassSet}
use Rattle.classes.specs.Sets.{has}
use Rattle.listing.specs.Lines.{kept, line, leads_line, others}
use Rattle.listing.proofs.Joining.{line_same, written_none, written_more}
use Rattle.listing.proofs.ClassLinesDisplay.fmt.Goals as goal

pub loop-feature-init : goal.loop-feature-init
loop-feature-init g c = written_none _ _ _

pub loop-feature-preserved : goal.loop-feature-preserved
loop-feature-preserved g c = λ p.
    let A = c.args.self.now.class in
    let f = c.loop-feature.feature-counter in
    let before = c.loop-feature.invariant p in
    let named = ap (λ (s : ClassSet). line (codes "class " ++ (decimal A ++ (codes " leads by " ++ (decimal f ++ codes " to")))) (has s)) c.leads.ensures.value in
    written_more _ _ _ _ (leads_line c.args.self.now.book.now A) _ before
    (has_written_of_eq _ _ _ _ _ named (c.in_ok-write-2.ensures.writes before.plain refl))

pub returns-clause-writes : goal.returns-clause-writes
returns-clause-writes g c = λ p _.
    let first = c.in_ok-write.ensures.writes p refl in
    let e : 16 ≡ c.loop-feature.feature-counter = omega arith in
    let all = rw (← e) at (c.loop-feature.invariant first.plain) in
    let b = c.args.self.now.book.now in
    let A = c.args.self.now.class in
    let named = line_same (codes "class " ++ (decimal A ++ codes " within")) (has c.others.result) (others b A)
    (λ k l. c.others.ensures k l ∙ ap (λ (s : ClassSet). kept s A k) c.within.ensures.value) in
    has_written_append _ _ _ _ _ _ (has_written_of_eq _ _ _ _ _ named first) all

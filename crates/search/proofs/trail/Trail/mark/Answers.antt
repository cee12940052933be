-- The trail once a pair is added.
use Rattle.std.proofs.Common.{ℕ, set, Some, sym, ◌∙◌, subst, length-set}
use Rattle.search.specs.Pairs.{Partners}
use Rattle.search.proofs.Marking.{noted, partners_more}
use Rattle.search.proofs.trail.Trail.mark.Goals as goal

pub invariant_of-self-clause-long : goal.invariant_of-self-clause-long
invariant_of-self-clause-long c = length-set _ c.from-2.result _ ∙ length-set c.args.self.now.seen c.from.result _ ∙ c.args.self.now.long

pub invariant_of-self-clause-partners : goal.invariant_of-self-clause-partners
invariant_of-self-clause-partners c =
    let t = c.args.self.now in
    let q = c.args.pair in
    let S = set (set t.seen c.from.result c.insert.new.self) c.from-2.result c.insert-2.new.self in
    subst (λ (k : ℕ). Partners S (set t.trace k (Some c.args.trace))) (sym c.place.ensures)
    (partners_more t.trace t.size q c.args.trace c.requires t.seen S t.partners
    (λ a d. noted t.seen q c.from.result c.from-2.result c.insert.new.self c.insert-2.new.self c.from.ensures c.from-2.ensures c.requires t.long c.insert.ensures c.insert-2.ensures a d))

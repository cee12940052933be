use Rattle.std.proofs.Common.{ℕ, sym, subst, inl, inr, arith}
use Rattle.std.proofs.lemmas.Bool.{cases_eq}
use Rattle.terms.specs.Steps.{by_rule}
use Rattle.book.specs.Tables.{At}
use Rattle.book.proofs.links.Links.climb.Goals as goal

pub loop-class-preserved : goal.loop-class-preserved
loop-class-preserved c R d so or =
    let class = c.loop-class.class in
    let p = c.place.ensures.placed in
    let h = c.loop-class.invariant R d so or in (
      p.sound R h.0 (λ B k. by_rule ((d.above_is class B (omega arith)).0 k)),
      p.ordered h.1,
      λ A B l m. elim (cases_eq A class) [
        | inl e ↦ subst (λ (x : ℕ). At c.place.new.within x B) (sym e)
            (p.there h.1 B (subst (λ (x : ℕ). At c.args.self.now.above x B) e ((d.above_is A B (omega arith)).1 m)))
        | inr ne ↦ p.grew A B (h.2 A B (omega arith) m)
      ],
    )

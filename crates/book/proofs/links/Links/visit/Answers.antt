use Rattle.std.proofs.Common.{◌≡◌, ℕ, ◌<◌, List, sym, length, take, get_or, subst, arith, rules}
use Rattle.std.proofs.lemmas.List.{get_or-take, length-take}
use Rattle.terms.specs.Worlds.{Rule}
use Rattle.book.specs.declared.links.FeatureLinks.{FeatureLinks}
use Rattle.book.specs.declared.links.Links.{Links}
use Rattle.book.specs.Sealing.{Direct, DirectBy, links_by}
use Rattle.book.proofs.Stepping.{step_then, heavier_then, served_more}
use Rattle.book.proofs.links.Links.visit.Goals as goal

direct_by : (R : List Rule) (l : Links) (f : ℕ) {b : FeatureLinks} → Direct R l → f < 16 → b ≡ links_by l f → DirectBy R f b
direct_by R l f d h e = subst (DirectBy R f) (sym e) (d.by_is f h)

taken : (n : ℕ) (l : List FeatureLinks) (i : ℕ) (d : FeatureLinks) → i < length (take n l) → get_or (take n l) i d ≡ get_or l i d
taken n l i d h = let e = length-take n l in get_or-take n l i d (omega arith)

-- the links at the loop's place are those by the feature, also where it goes over the first of them only
pub loop-by-preserved : goal.loop-by-preserved
loop-by-preserved c =
    let u = c.args.within.now in
    let v = c.loop-by.within in
    let w = c.pull.new.within in
    let g = c.loop-by.again in
    let h = c.pull.result in
    let i = c.loop-by.invariant in
    let f = c.loop-by.by-index in
    let links = c.args.self.now in
    rw c.union-again.ensures.value (
      (λ R d. step_then R u v w g h (i.0 R d) (c.pull.ensures.step R f (direct_by R links f d (omega arith) (search (rules, taken))) d.into_has)),
      (λ R d o k. served_more R v w g h c.args.a f
          (c.pull.ensures.step R f (direct_by R links f d (omega arith) (search (rules, taken))) d.into_has)
          (i.1 R d o)
          (c.pull.ensures.served R f (direct_by R links f d (omega arith) (search (rules, taken))) d.into_has ((i.0 R d).ordered o)) k),
      heavier_then u v w g h i.2 c.pull.ensures.heavier,
    )

-- The loops over parts, classes and partners.
use Rattle.std.proofs.Common.{◌≡◌, ℕ, ◌^◌, not, ◌&&◌, sym, ap, ◌<◌, ◌≤◌, length, refl, ◌∙◌, subst, arith}
use Rattle.classes.specs.declared.ClassSet.{ClassSet}
use Rattle.classes.specs.Sets.{has, weight}
use Rattle.book.specs.declared.sealed.Book.{Book}
use Rattle.book.specs.Tables.{set_at}
use Rattle.queue.specs.Lines.{waiting}
use Rattle.search.specs.Rows.{Excludes}
use Rattle.search.proofs.Turns.{done_first, done_rows, done_cells, done_row, done_all, fresh_first, met_or_fresh, was_there, new_pair, new_proper, turned, struck}
use Rattle.search.proofs.Sowing.{Sown, met_first, sown_all, sown}
use Rattle.search.proofs.walk.Walk.seed.Goals as goal

pub loop-part-init : goal.loop-part-init
loop-part-init c =
    let v = c.args.self.now in
    ((refl, refl), met_first v.parts.now v.book.now (waiting v.queue) v.trail.trace c.requires.1 c.requires.0, done_first (Sown v.parts.now) v.trail.trace 1 0)

pub loop-a-init : goal.loop-a-init
loop-a-init c =
    let P = c.args.self.now.parts.now in
    let i = c.loop-part.invariant in
    let e : c.into_iter-a-iterator.result.rest ≡ set_at P c.loop-part.part = c.into_iter-a-iterator.ensures.into_iter_gives in
    let was = λ (k : ℕ). ap (λ (x : ClassSet). has x k) e in
    (i.0, i.1, done_rows (Sown P) c.loop-part.self.trail.trace 1 c.loop-part.part c.into_iter-a-iterator.result.rest i.2 (λ k _ h. was k ∙ h.0), (λ k h. sym (was k) ∙ h))

pub loop-b-init : goal.loop-b-init
loop-b-init c =
    let P = c.args.self.now.parts.now in
    let p = c.loop-part.part in
    let i = c.loop-a.invariant in
    let S = c.loop-a.self.trail.seen in
    let T = c.loop-a.self.trail.trace in
    let w = c.in-Some.ensures.steps in
    let a = c.in-Some.a in
    let s = c.partners.result in
    let r = c.into_iter-b-iterator.result.rest in
    let m : (k : ℕ) → has r k ≡ (has (set_at P p) k && not (has s k)) = λ k.
    ap (λ (x : ClassSet). has x k) c.into_iter-b-iterator.ensures.into_iter_gives ∙ c.minus-b-items.ensures k in
    let fits : weight s < 2 ^ 64 = omega arith in
    let fits' : weight r < 2 ^ 64 = omega arith in (
      i.0,
      i.1,
      done_cells (Sown P) T 1 p c.loop-a.a-iterator.rest c.next.new.self.rest a r w i.2
          (λ d h. met_or_fresh S T (set_at P p) a s r c.loop-a.self.trail.partners w.low c.partners.ensures fits fits' m 1 i.1.top d h.1),
      fresh_first S T (set_at P p) a s r c.loop-a.self.trail.partners w.low c.partners.ensures fits fits' m,
    )

pub meet-requires : goal.meet-requires
meet-requires c =
    let i = c.loop-b.invariant in
    let w = c.in-Some.ensures.steps in
    let t = sown i.1 c.loop-b.self.trail.size c.loop-part.part w.low (c.loop-a.invariant.3 c.in-Some.a w.was) i.3 c.in-Some-b.ensures.steps c.of-pair.ensures in
    record { proper = new_proper t; unmet = new_pair t }

pub returns-in-Some-meet : goal.returns-in-Some-meet
returns-in-Some-meet c =
    let i = c.loop-b.invariant in
    let w = c.in-Some.ensures.steps in
    let m = c.meet.ensures in
    let x = subst (λ (y : Book). Excludes y c.in-Some-meet.row c.of-pair.result) i.0.1 c.in-Some-meet.ensures.row in
    let t = sown i.1 c.loop-b.self.trail.size c.loop-part.part w.low (c.loop-a.invariant.3 c.in-Some.a w.was) i.3 c.in-Some-b.ensures.steps c.of-pair.ensures in
    record { same = (m.same.0 ∙ i.0.0, m.same.1 ∙ i.0.1); seeded = struck t m.marked c.in-Some-meet.row x (λ _ _ _ _. omega arith) }

pub loop-b-preserved : goal.loop-b-preserved
loop-b-preserved c =
    let i = c.loop-b.invariant in
    let w = c.in-Some.ensures.steps in
    let m = c.meet.ensures in
    let x = subst (λ (y : Book). (j : ℕ) → Excludes y j c.of-pair.result → ⊥) i.0.1 c.in_default.ensures.row in
    let t = sown i.1 c.loop-b.self.trail.size c.loop-part.part w.low (c.loop-a.invariant.3 c.in-Some.a w.was) i.3 c.in-Some-b.ensures.steps c.of-pair.ensures in
    let n = turned t m.marked (Sown c.args.self.now.parts.now) c.loop-part.part c.next.new.self.rest m.line x i.2 in
    ((m.same.0 ∙ i.0.0, m.same.1 ∙ i.0.1), n.met, n.done, n.fresh)

pub loop-a-preserved : goal.loop-a-preserved
loop-a-preserved c =
    let i = c.loop-b.invariant in (
      i.0,
      i.1,
      done_row (Sown c.args.self.now.parts.now) c.loop-b.self.trail.trace 1 c.loop-part.part c.next.new.self.rest c.in-Some.a c.loop-b.b-iterator.rest c.in-None-b.ensures.steps.0 i.2,
      (λ k h. c.loop-a.invariant.3 k (was_there k c.in-Some.ensures.steps h).0),
    )

pub loop-part-preserved : goal.loop-part-preserved
loop-part-preserved c =
    let i = c.loop-a.invariant in
    (i.0, i.1, done_all (Sown c.args.self.now.parts.now) c.loop-a.self.trail.trace 1 c.loop-part.part c.loop-a.a-iterator.rest c.in-None.ensures.steps.0 i.2)

pub returns : goal.returns
returns c =
    let P = c.args.self.now.parts.now in
    let i = c.loop-part.invariant in
    let l : length P ≤ c.loop-part.part = omega (arith, c.loop-part-test.false, c.args.self.now.long) in record {
      same = i.0;
      seeded = record { depth = 1; met = i.1; sources = sown_all P c.loop-part.self.trail.trace c.loop-part.part l i.2 };
    }

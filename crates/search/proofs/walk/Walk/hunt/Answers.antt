-- The loops over waiting pairs, features, classes and partners.
use Rattle.std.proofs.Common.{◌≡◌, ℕ, ◌+◌, ◌^◌, ◌<◌, not, ◌&&◌, sym, refl, ap, ◌∙◌, subst, arith}
use Rattle.classes.specs.declared.ClassSet.{ClassSet}
use Rattle.classes.specs.Sets.{has, weight}
use Rattle.book.specs.declared.sealed.Book.{Book}
use Rattle.book.specs.Books.{leads_set}
use Rattle.queue.specs.Lines.{waiting}
use Rattle.search.specs.Pairs.{mark, mark_of}
use Rattle.search.specs.Rows.{Excludes}
use Rattle.search.specs.Search.{Hunted}
use Rattle.search.proofs.Turns.{done_first, done_rows, done_cells, done_row, done_all, fresh_first, met_or_fresh, was_there, new_pair, new_proper, turned, struck}
use Rattle.search.proofs.Working.{Led, taken, worked, no_path, least, low, goes_on, pair}
use Rattle.search.proofs.walk.Walk.hunt.Goals as goal

pub entry-depth-requires : goal.entry-depth-requires
entry-depth-requires c =
    let v = c.args.self.now in
    let T = c.search.self.trail.trace in
    let p = c.in-Some-pop.from in
    let m = taken v.parts.now v.book.now (waiting c.search.self.queue) (waiting c.pop.new.self) T p (mark_of T p) c.search.invariant.1 c.in-Some-pop.ensures.taken refl in
    record { proper = m.proper; met = m.some }

pub overflow_add-depth : goal.overflow_add-depth
overflow_add-depth c =
    let v = c.args.self.now in
    let T = c.search.self.trail.trace in
    let p = c.in-Some-pop.from in
    let m = taken v.parts.now v.book.now (waiting c.search.self.queue) (waiting c.pop.new.self) T p (mark_of T p) c.search.invariant.1 c.in-Some-pop.ensures.taken refl in
    omega (arith, low v.parts.now v.book.now m, ap mark c.entry-depth.ensures)

pub loop-letter-init : goal.loop-letter-init
loop-letter-init c =
    let v = c.args.self.now in
    let T = c.search.self.trail.trace in
    let p = c.in-Some-pop.from in
    let D = c.entry-depth.result.depth + 1 in (
      c.search.invariant.0,
      taken v.parts.now v.book.now (waiting c.search.self.queue) (waiting c.pop.new.self) T p D c.search.invariant.1 c.in-Some-pop.ensures.taken (ap mark c.entry-depth.ensures),
      done_first (Led v.book.now p) T (D + 1) 0,
      omega arith,
      c.search.invariant.2,
    )

pub search-preserved : goal.search-preserved
search-preserved c =
    let v = c.args.self.now in
    let w = c.loop-letter.self in
    let i = c.loop-letter.invariant in (
      i.0,
      worked v.parts.now v.book.now (waiting w.queue) w.trail.trace c.in-Some-pop.from (c.entry-depth.result.depth + 1) i.1 c.loop-letter.letter (omega (arith, c.loop-letter-test.false)) i.2,
      i.4,
    )

pub loop-c-init : goal.loop-c-init
loop-c-init c =
    let p = c.in-Some-pop.from in
    let b = c.args.self.now.book.now in
    let f = c.loop-letter.letter in
    let s = c.into_iter-c-iterator.result.rest in
    let i = c.loop-letter.invariant in
    let e : s ≡ leads_set b p.left f = c.into_iter-c-iterator.ensures.into_iter_gives ∙ c.leads-c-items.ensures.value ∙ ap (λ (y : Book). leads_set y p.left f) i.0.1 in (
      i.0,
      i.1,
      done_rows (Led b p) c.loop-letter.self.trail.trace (c.entry-depth.result.depth + 1 + 1) f s i.2 (λ k _ h. ap (λ (x : ClassSet). has x k) e ∙ h.0),
      omega arith,
      i.4,
      (λ k h. ap (λ (x : ClassSet). has x k) (sym e) ∙ h),
    )

pub loop-d-init : goal.loop-d-init
loop-d-init c =
    let p = c.in-Some-pop.from in
    let b = c.args.self.now.book.now in
    let f = c.loop-letter.letter in
    let S = c.loop-c.self.trail.seen in
    let T = c.loop-c.self.trail.trace in
    let n = c.entry-depth.result.depth + 1 + 1 in
    let i = c.loop-c.invariant in
    let w = c.in-Some-c.ensures.steps in
    let a = c.in-Some-c.c in
    let s = c.partners.result in
    let r = c.into_iter-d-iterator.result.rest in
    let rights = leads_set b p.right f in
    let e : c.leads-right.result ≡ rights = c.leads-right.ensures.value ∙ ap (λ (y : Book). leads_set y p.right f) c.loop-letter.invariant.0.1 in
    let fits : weight s < 2 ^ 64 = omega arith in
    let fits' : weight r < 2 ^ 64 = omega arith in
    let m : (k : ℕ) → has r k ≡ (has rights k && not (has s k)) = λ k. ap (λ (x : ClassSet). has x k) c.into_iter-d-iterator.ensures.into_iter_gives ∙ c.minus-d-items.ensures k ∙ ap (λ (x : ClassSet). has x k && not (has s k)) e in (
      i.0,
      i.1,
      done_cells (Led b p) T n f c.loop-c.c-iterator.rest c.next.new.self.rest a r w i.2
          (λ d h. met_or_fresh S T rights a s r c.loop-c.self.trail.partners w.low c.partners.ensures fits fits' m n i.1.met.top d h.1),
      omega arith,
      i.4,
      fresh_first S T rights a s r c.loop-c.self.trail.partners w.low c.partners.ensures fits fits' m,
    )

pub meet-requires : goal.meet-requires
meet-requires c =
    let v = c.args.self.now in
    let i = c.loop-d.invariant in
    let w = c.in-Some-c.ensures.steps in
    let t = pair v.parts.now v.book.now i.1 c.loop-d.self.trail.size c.loop-letter.letter w.low (c.loop-c.invariant.5 c.in-Some-c.c w.was) i.5 c.in-Some-d.ensures.steps c.of-pair.ensures in
    record { proper = new_proper t; unmet = new_pair t }

pub loop-d-preserved : goal.loop-d-preserved
loop-d-preserved c =
    let v = c.args.self.now in
    let i = c.loop-d.invariant in
    let w = c.in-Some-c.ensures.steps in
    let m = c.meet.ensures in
    let x = subst (λ (y : Book). (j : ℕ) → Excludes y j c.of-pair.result → ⊥) i.0.1 c.in_default-meet.ensures.row in
    let t = pair v.parts.now v.book.now i.1 c.loop-d.self.trail.size c.loop-letter.letter w.low (c.loop-c.invariant.5 c.in-Some-c.c w.was) i.5 c.in-Some-d.ensures.steps c.of-pair.ensures in
    let n = turned t m.marked (Led v.book.now c.in-Some-pop.from) c.loop-letter.letter c.next.new.self.rest m.line x i.2 in (
      (m.same.0 ∙ i.0.0, m.same.1 ∙ i.0.1),
      goes_on v.parts.now v.book.now i.1 n.met n.stays,
      n.done,
      omega (arith, n.same, i.3),
      i.4,
      n.fresh,
    )

pub loop-c-preserved : goal.loop-c-preserved
loop-c-preserved c =
    let i = c.loop-d.invariant in (
      i.0,
      i.1,
      done_row (Led c.args.self.now.book.now c.in-Some-pop.from) c.loop-d.self.trail.trace (c.entry-depth.result.depth + 1 + 1) c.loop-letter.letter c.next.new.self.rest c.in-Some-c.c c.loop-d.d-iterator.rest c.in-None-d.ensures.steps.0 i.2,
      omega (arith, i.3, c.loop-c.invariant.3),
      i.4,
      (λ k h. c.loop-c.invariant.5 k (was_there {s = c.loop-c.c-iterator.rest} {t = c.next.new.self.rest} k c.in-Some-c.ensures.steps h).0),
    )

pub loop-letter-preserved : goal.loop-letter-preserved
loop-letter-preserved c =
    let i = c.loop-c.invariant in (
      i.0,
      i.1,
      done_all (Led c.args.self.now.book.now c.in-Some-pop.from) c.loop-c.self.trail.trace (c.entry-depth.result.depth + 1 + 1) c.loop-letter.letter c.loop-c.c-iterator.rest c.in-None.ensures.steps.0 i.2,
      omega (arith, i.3, c.loop-letter.invariant.3),
      i.4,
    )

pub returns-in-Some-meet : goal.returns-in-Some-meet
returns-in-Some-meet c =
    let v = c.args.self.now in
    let i = c.loop-d.invariant in
    let w = c.in-Some-c.ensures.steps in
    let m = c.meet.ensures in
    let x = subst (λ (y : Book). Excludes y c.in-Some-meet.row c.of-pair.result) i.0.1 c.in-Some-meet.ensures.row in
    let t = pair v.parts.now v.book.now i.1 c.loop-d.self.trail.size c.loop-letter.letter w.low (c.loop-c.invariant.5 c.in-Some-c.c w.was) i.5 c.in-Some-d.ensures.steps c.of-pair.ensures in
    record { same = (m.same.0 ∙ i.0.0, m.same.1 ∙ i.0.1); hunted = struck t m.marked c.in-Some-meet.row x (least v.parts.now v.book.now i.1) }

pub returns-in_default-pop : goal.returns-in_default-pop
returns-in_default-pop c =
    let v = c.args.self.now in
    let w = c.search.self in record {
      same = c.search.invariant.0;
      hunted = subst (Hunted v w) (sym c.search.invariant.2) (no_path v.parts.now v.book.now (waiting w.queue) w.trail.trace (c.in_default-pop.ensures.nothing.0 refl) c.search.invariant.1);
    }

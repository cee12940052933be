-- The way is read back from the excluded pair to its source.
use Rattle.std.proofs.Common.{◌≡◌, ℕ, ◌-◌, List, length, reverse, take, sym, ap, ◌∙◌, subst, length-set, arith}
use Rattle.std.proofs.Math.Seq.{take-length}
use Rattle.search.proofs.Retracing.{Tail, tail_none, word_more, before, reached, not_part, not_step}
use Rattle.search.proofs.walk.Walk.write_way.Goals as goal

pub loop-slot-init : goal.loop-slot-init
loop-slot-init c =
    let h = c.requires.shown in
    (h.proper, omega (arith, c.requires.size), tail_none c.args.self.now.book.now c.args.end.pair h.proper)

pub entry-requires : goal.entry-requires
entry-requires c = record { proper = c.loop-slot.invariant.0; met = omega (arith, c.loop-slot.invariant.1, c.loop-slot-test.true) }

pub unreachable-requires : goal.unreachable-requires
unreachable-requires c =
    let v = c.args.self.now in
    let e = c.args.end in
    let k = length c.loop-slot.letters - c.loop-slot.slot-index in
    let i = c.loop-slot.invariant in
    not_part v.parts.now v.book.now v.trail.trace e.pair e.row c.requires.shown c.loop-slot.pair k c.entry.result c.in_default.field-0 i.0 (omega (arith, i.1, c.loop-slot-test.true)) (omega (arith, c.loop-slot-test.true))
    c.entry.ensures c.in_default.is

pub loop-slot-preserved : goal.loop-slot-preserved
loop-slot-preserved c =
    let v = c.args.self.now in
    let e = c.args.end in
    let ls = c.loop-slot.letters in
    let j = c.loop-slot.slot-index in
    let i = c.loop-slot.invariant in
    let f = c.in-Step.letter in
    let n = before v.parts.now v.book.now v.trail.trace e.pair e.row c.requires.shown c.loop-slot.pair (length ls - j) (reverse (take j ls)) c.entry.result c.in-Step.from f i.0 (omega (arith, i.1, c.loop-slot-test.true)) (omega (arith, c.loop-slot-test.true))
    c.entry.ensures c.in-Step.is i.2 in (
      n.0,
      omega (arith, n.1, c.loop-slot-test.true, length-set ls j f),
      subst (λ (w : List ℕ). Tail v.book.now c.in-Step.from w e.pair) (sym (word_more ls j f (omega (arith, c.loop-slot-test.true)))) n.2,
    )

-- at the end of the loop the pair is a source
pub entry-requires-2 : goal.entry-requires-2
entry-requires-2 c = record { proper = c.loop-slot.invariant.0; met = omega (arith, c.loop-slot.invariant.1, c.loop-slot.auto) }

pub unreachable-requires-in_default-origin : goal.unreachable-requires-in_default-origin
unreachable-requires-in_default-origin c =
    let v = c.args.self.now in
    let e = c.args.end in
    let i = c.loop-slot.invariant in
    not_step v.parts.now v.book.now v.trail.trace e.pair e.row c.requires.shown c.loop-slot.pair c.entry-2.result c.in_default-origin.field-0 c.in_default-origin.field-1 i.0 (omega (arith, i.1, c.loop-slot-test.false, c.loop-slot.auto))
    c.entry-2.ensures c.in_default-origin.is

pub returns : goal.returns
returns c =
    let v = c.args.self.now in
    let e = c.args.end in
    let ls = c.loop-slot.letters in
    let i = c.loop-slot.invariant in
    let n : c.loop-slot.slot-index ≡ length ls = omega (arith, c.loop-slot-test.false, c.loop-slot.auto) in
    let all : take c.loop-slot.slot-index ls ≡ ls = ap (λ k. take k ls) n ∙ take-length ls in
    let w : reverse (take c.loop-slot.slot-index ls) ≡ c.reverse.new.self = ap reverse all ∙ sym c.reverse.ensures.after in
    reached v.parts.now v.book.now v.trail.trace e.pair e.row c.requires.shown c.loop-slot.pair c.reverse.new.self c.entry-2.result c.in-Part.part i.0 (omega (arith, i.1, n))
    c.entry-2.ensures c.in-Part.is (subst (λ (x : List ℕ). Tail v.book.now c.loop-slot.pair x e.pair) w i.2)

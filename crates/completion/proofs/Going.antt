-- Growths one after another.
use Rattle.std.proofs.Common.{◌≡◌, false, List, refl, ◌∙◌, subst, sym, arith}
use Rattle.completion.specs.declared.record.PartRecord.{PartRecord}
use Rattle.completion.specs.declared.waiting.Waiting.{Waiting}
use Rattle.completion.specs.declared.growth.Growth.{Growth}
use Rattle.completion.specs.Lines.{Moved}
use Rattle.completion.specs.Growths.{Went}

pub moved_none : (ps : List PartRecord) (w : Waiting) → Moved ps w ps w
moved_none ps w = record { same = λ e. (e, refl); lighter = omega arith }

-- what waits beside the line and the flag may change
pub moved_aside : (ps : List PartRecord) (v w : Waiting) → w.grown ≡ v.grown → w.line ≡ v.line → Moved ps v ps w
moved_aside ps v w g l = record { same = λ e. (sym g ∙ e, refl); lighter = rw (g, l) (omega arith) }

pub moved_then : {ps qs rs : List PartRecord} {u v w : Waiting} → Moved ps u qs v → Moved qs v rs w → Moved ps u rs w
moved_then m n =
    let a = m.lighter in
    let b = n.lighter in
    record { same = λ e. ((m.same (n.same e).0).0, (n.same e).1 ∙ (m.same (n.same e).0).1); lighter = omega arith }

pub went_none : (g : Growth) → Went g g
went_none g = record { kept = λ c l s. s; moved = moved_none g.parts g.waiting }

pub went_then : {g h k : Growth} → Went g h → Went h k → Went g k
went_then a b = record { kept = λ c l s. b.kept c l (a.kept c l s); moved = moved_then a.moved b.moved }

-- what holds of the records where the flag is down still holds after a growth
pub still : {g h : Growth} (P : List PartRecord → Type 0) → Went g h → (g.waiting.grown ≡ false → P g.parts) → h.waiting.grown ≡ false → P h.parts
still P w p e = let s = w.moved.same e in subst P (sym s.1) (p s.0)

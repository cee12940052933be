use Rattle.std.proofs.Common.{◌≡◌, List, [], ◌∷◌, ◌++◌, length, codes, decimal, refl, ap, arith, append_assoc}
use Rattle.std.proofs.Output.{has_written_append, has_written_of_eq}
use Rattle.terms.specs.declared.row.Row.{Row}
use Rattle.listing.specs.Lines.{class_lines}
use Rattle.listing.proofs.Joining.{written_none, written_more}
use Rattle.listing.proofs.BookLinesDisplay.fmt.Goals as goal

pub loop-class-init : goal.loop-class-init
loop-class-init g c = written_none _ _ _

pub loop-class-preserved : goal.loop-class-preserved
loop-class-preserved g c = λ p.
    let before = c.loop-class.invariant p in
    written_more _ _ _ _ (class_lines c.args.self.now.book.now) _ before (c.in_ok-write.ensures.writes before.plain refl)

pub returns-clause-writes : goal.returns-clause-writes
returns-clause-writes g c = λ p ok.
    let named = ap (λ (rows : List Row). codes "rules " ++ (decimal (length rows) ++ (10 ∷ []))) c.rows.ensures in
    let first = has_written_of_eq _ _ _ _ _ named (c.in_ok-writeln.ensures.writes p refl) in
    let e : 64 ≡ c.loop-class.class = omega arith in
    let all = rw (← e) at (c.loop-class.invariant first.plain) in
    let last = c.write-2.ensures.writes all.plain ok in
    has_written_of_eq _ _ _ _ _ (simp append_assoc) (has_written_append _ _ _ _ _ _ (has_written_append _ _ _ _ _ _ first all) last)

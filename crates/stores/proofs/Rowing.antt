-- A fact put into the next row of a table.
use Rattle.std.proofs.Common.{◌≡◌, ℕ, ◌+◌, List, ◌++◌, take, drop, set, sym, ap, ◌∙◌, arith}
use Rattle.std.proofs.lemmas.List.{take-append-drop, drop-set-lt}
use Rattle.terms.specs.declared.fact.Fact.{Fact}

-- past the list the table is as it was
pub row_table : (rows rows' : List Fact) (used : ℕ) (f : Fact) → rows' ≡ set rows used f → rows' ≡ take (used + 1) rows' ++ drop (used + 1) rows
row_table rows rows' used f put =
    sym (take-append-drop (used + 1) rows')
    ∙ ap (λ (z : List Fact). take (used + 1) rows' ++ drop (used + 1) z) put
    ∙ ap (λ (z : List Fact). take (used + 1) rows' ++ z) (drop-set-lt (used + 1) rows used f (omega arith))

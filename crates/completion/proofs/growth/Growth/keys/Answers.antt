use Rattle.std.proofs.Common.{◌≡◌, ℕ, ◌<◌, List, [], get_or, ap, ◌∙◌, subst}
use Rattle.terms.specs.declared.row.Row.{Row}
use Rattle.book.proofs.Legal.{lawful_at}
use Rattle.completion.specs.declared.record.PartRecord.{PartRecord}
use Rattle.completion.specs.Closed.{KeyedFrom, key_rows, row_at, rules_in}
use Rattle.completion.proofs.Going.{went_none, went_then}
use Rattle.completion.proofs.Keying.{key_in}
use Rattle.completion.proofs.Running.{still_below}
use Rattle.completion.proofs.growth.Growth.keys.Goals as goal
use Rattle.completion.proofs.growth.Growth.keys.Goals.{then-row, else-row}

abbrev blank : Row
blank = record { kind = 0; left = 0; right = 0; count = 0; features = [] }

pub key_all-requires : goal.key_all-requires
key_all-requires c =
    let h = rw c.rows-row-items.ensures at c.loop-row-test.true in
    rw c.rows-row-items.ensures (lawful_at (key_rows c.args.rules.now) c.loop-row.row-index blank c.args.rules.now.book.now.lawful h)

pub loop-row-preserved : goal.loop-row-preserved
loop-row-preserved c =
    let r = c.args.rules.now in
    let n = c.loop-row.row-index in
    let i = c.loop-row.invariant in
    let h = rw c.rows-row-items.ensures at c.loop-row-test.true in
    let row : get_or c.rows-row-items.result.now n blank ≡ row_at r n = ap (λ l. get_or l n blank) c.rows-row-items.ensures in
    let P = λ (k : ℕ) (ps : List PartRecord). (row_at r k).kind ≡ 5 → (p : ℕ) → p < 256 → KeyedFrom (row_at r k) c.args.index.now ps p in
    elim c.if-row.branch [
      | then-row w ↦
          let a = w.key_all.ensures in
          rw w.self-is (record {
            went = went_then i.went a.went;
            closed = still_below P n a.went i.closed (λ e _. subst (λ (x : Row). (p : ℕ) → p < 256 → KeyedFrom x c.args.index.now w.key_all.new.self.parts p) row (a.closed e));
            right = λ F t. a.right (rules_in r) F (key_in (key_rows r) n blank _ row h w.if-row.true) (i.right F t);
          })
      | else-row w ↦
          rw w.self-is (record {
            went = i.went;
            closed = still_below P n (went_none c.loop-row.self) i.closed (λ _ f. absurd (w.if-row.false (ap (λ (x : Row). x.kind) row ∙ f)));
            right = i.right;
          })
    ]

pub returns-clause-right : goal.returns-clause-right
returns-clause-right c F m t = c.loop-row.invariant.right F t

use Rattle.std.proofs.Common.{◌≡◌, [], get_or, ap}
use Rattle.terms.specs.declared.row.Row.{Row}
use Rattle.book.proofs.Legal.{lawful_at}
use Rattle.completion.specs.Closed.{key_rows, row_at, rules_in}
use Rattle.completion.proofs.Keying.{key_in}
use Rattle.completion.proofs.Saying.{follows_then}
use Rattle.completion.proofs.growth.Growth.sweep_part.Goals.{then-row, else-row}
use Rattle.completion.proofs.growth.Growth.sweep_part.Goals as goal

abbrev blank : Row
blank = record { kind = 0; left = 0; right = 0; count = 0; features = [] }

pub sweep_row-requires : goal.sweep_row-requires
sweep_row-requires c =
    let h = rw c.rows-row-items.ensures at c.loop-row-test.true in
    rw c.rows-row-items.ensures (lawful_at (key_rows c.args.rules.now) c.loop-row.row-index blank c.args.rules.now.book.now.lawful h)

pub loop-row-preserved : goal.loop-row-preserved
loop-row-preserved c =
    let r = c.args.rules.now in
    let n = c.loop-row.row-index in
    let h = rw c.rows-row-items.ensures at c.loop-row-test.true in
    let row : get_or c.rows-row-items.result.now n blank ≡ row_at r n = ap (λ l. get_or l n blank) c.rows-row-items.ensures in
    elim c.if-row.branch [
      | then-row w ↦
          let a = w.sweep_row.ensures in
          let k = key_in (key_rows r) n blank _ row h w.if-row.true in
          rw w.self-is (follows_then c.loop-row.invariant (record { went = a.went; right = λ F m t. a.right (rules_in r) F k t }))
      | else-row w ↦ rw w.self-is c.loop-row.invariant
    ]

use Rattle.std.proofs.Common.{◌∙◌, rules}
use Rattle.piles.proofs.Telling.{Filled, filled_more}
use Rattle.piles.proofs.tell_table.Goals as goal

pub returns-clause-table : goal.returns-clause-table
returns-clause-table c =
    let rows = c.args.rows.now in
    let s = c.tell_all-store in
    let t = c.tell.ensures in
    let start : Filled rows _ s.result = record { list = s.ensures.list; room = s.ensures.room; table = s.ensures.held } in
    let more = filled_more rows _ s.result c.tell.new.self _ _ start t.tells t.table in
    let table = more.table in
    let lent = t.lent ∙ s.ensures.lent in
    search (rules, lent, table)

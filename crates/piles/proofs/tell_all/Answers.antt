use Rattle.std.proofs.Common.{List, [], sym, ◌∙◌, subst}
use Rattle.std.proofs.lemmas.List.Sums.{fold_more}
use Rattle.terms.specs.declared.fact.Fact.{Fact}
use Rattle.piles.specs.Tables.{places_of, told}
use Rattle.piles.proofs.Telling.{Filled, filled_more}
use Rattle.piles.proofs.tell_all.Goals as goal

pub loop-fact-preserved : goal.loop-fact-preserved
loop-fact-preserved c =
    let rows = c.args.rows.now in
    let e = c.tell.ensures in
    let more = filled_more rows _ c.loop-fact.store c.tell.new.self _ _ c.loop-fact.invariant.1 e.tells e.table in (
      e.lent ∙ c.loop-fact.invariant.0,
      subst (λ (x : List Fact). Filled rows x c.tell.new.self)
          (sym (fold_more (told (places_of rows)) [] c.args.facts.now c.loop-fact.fact-index _ c.loop-fact-test.true)) more,
    )

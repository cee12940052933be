use Rattle.std.proofs.Common.{rules, tests}
use Rattle.std.proofs.lemmas.Iterator.{YieldsList-from_slice}
use Rattle.std.proofs.lemmas.Iterator.Search.{any_from_yields_List}
use Rattle.terms.specs.declared.fact.Fact.{Fact}
use Rattle.terms.specs.Lawful.{same_fact}
use Rattle.stores.specs.Rows.{row_facts}
use Rattle.stores.proofs.row.RowStore.lists.Goals as goal

pub returns : goal.returns
returns c =
    any_from_yields_List (λ (g : Fact). same_fact g c.args.fact) _ _ c.any.result c.any.ensures.ran (YieldsList-from_slice (row_facts c.args.self.now) cc) (λ x b q k. search (rules, tests))

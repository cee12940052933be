use Rattle.std.proofs.Common.{rules, tests}
use Rattle.std.proofs.lemmas.Iterator.{YieldsList-from_slice}
use Rattle.std.proofs.lemmas.Iterator.Search.{any_from_yields_List}
use Rattle.terms.specs.declared.fact.Fact.{Fact}
use Rattle.terms.specs.Lawful.{same_fact}
use Rattle.stores.proofs.additions.Additions.lists_own.Goals as goal

pub returns : goal.returns
returns g c =
    any_from_yields_List (λ (x : Fact). same_fact x c.args.fact) _ _ c.any.result c.any.ensures.ran (YieldsList-from_slice c.args.self.now.own.items cc) (λ x b q k. search (rules, tests))

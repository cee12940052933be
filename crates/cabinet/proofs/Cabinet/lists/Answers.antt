use Rattle.std.proofs.Common.{◌∙◌, rules, tests}
use Rattle.std.proofs.lemmas.Iterator.{YieldsList-from_slice}
use Rattle.std.proofs.lemmas.Iterator.Search.{any_from_yields_List}
use Rattle.terms.specs.Lawful.{same_fact}
use Rattle.cabinet.specs.declared.Entry.{Entry}
use Rattle.cabinet.specs.Logs.{in_use}
use Rattle.cabinet.proofs.Logging.{listed_entry}
use Rattle.cabinet.proofs.Cabinet.lists.Goals as goal

pub returns : goal.returns
returns c =
    let entries = in_use c.args.self.now in
    let fact = c.args.fact in
    any_from_yields_List (λ (e : Entry). same_fact e.fact fact) _ _ c.any.result c.any.ensures.ran (YieldsList-from_slice entries cc) (λ x b q k. search (rules, tests))
    ∙ listed_entry entries fact

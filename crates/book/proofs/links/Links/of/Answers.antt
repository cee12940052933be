use Rattle.std.proofs.Common.{List, [], sym, subst}
use Rattle.std.proofs.lemmas.List.{map_more}
use Rattle.terms.specs.declared.row.Row.{Row}
use Rattle.terms.specs.Worlds.{Rule, rule_of}
use Rattle.book.specs.Sealing.{Direct}
use Rattle.book.proofs.Legal.{lawful_at}
use Rattle.book.proofs.links.Links.of.Goals as goal

abbrev blank : Row
blank = record { kind = 0; left = 0; right = 0; count = 0; features = [] }

pub add-requires : goal.add-requires
add-requires c = lawful_at c.args.rows.now c.loop-row.row-index blank c.requires c.loop-row-test.true

pub loop-row-preserved : goal.loop-row-preserved
loop-row-preserved c =
    subst (λ (R : List Rule). Direct R c.add.new.self) (sym (map_more rule_of c.args.rows.now c.loop-row.row-index blank c.loop-row-test.true))
    (c.add.ensures _ c.loop-row.invariant)

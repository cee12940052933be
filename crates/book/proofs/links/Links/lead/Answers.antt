use Rattle.std.proofs.Common.{ℕ, ◌≢◌, List, [], set, sym, ◌∙◌, subst, arith, below_more}
use Rattle.std.proofs.lemmas.List.{length-set, get_or-set_same, get_or-set_other}
use Rattle.classes.specs.declared.ClassSet.{ClassSet}
use Rattle.book.specs.Tables.{table_at}
use Rattle.book.specs.Sealing.{EachLed, links_by}
use Rattle.book.proofs.links.Links.lead.Goals as goal

pub loop-feature-preserved : goal.loop-feature-preserved
loop-feature-preserved c =
    let i = c.loop-feature.invariant in
    let t = c.loop-feature.tables in
    let feature = c.loop-feature.feature in
    let done = λ (f : ℕ) (table : List ClassSet). EachLed c.args.within.now (links_by c.args.self.now f).ahead table in
    record {
      long = length-set t feature _ ∙ i.long;
      each = below_more (λ f. done f (table_at (set t feature c.lead.new.table) f)) _
          (λ f h. let ne : f ≢ feature = omega arith in subst (done f) (sym (get_or-set_other t feature f _ [] ne)) (i.each f h))
          (subst (done feature) (sym (get_or-set_same t feature _ [] (omega arith))) c.lead.ensures);
    }

use Rattle.std.proofs.Common.{ℕ, ◌≢◌, set, sym, ◌∙◌, subst, arith, below_more}
use Rattle.std.proofs.lemmas.List.{length-set, get_or-set_same, get_or-set_other}
use Rattle.classes.specs.declared.ClassSet.{ClassSet}
use Rattle.classes.specs.Sets.{none}
use Rattle.book.specs.Tables.{set_at}
use Rattle.book.specs.Sealing.{Led}
use Rattle.book.proofs.links.FeatureLinks.lead.Goals as goal

pub loop-class-preserved : goal.loop-class-preserved
loop-class-preserved c =
    let i = c.loop-class.invariant in
    let t = c.loop-class.table in
    let class = c.loop-class.class in
    let done = λ (A : ℕ) (led : ClassSet). Led c.args.within.now c.args.self.now.ahead (set_at c.args.within.now A) led in
    record {
      long = length-set t class _ ∙ i.long;
      each = below_more (λ A. done A (set_at (set t class c.led.result) A)) _
          (λ A h. let ne : A ≢ class = omega arith in subst (done A) (sym (get_or-set_other t class A _ none ne)) (i.each A h))
          (subst (done class) (sym (get_or-set_same t class _ none (omega arith))) c.led.ensures);
    }

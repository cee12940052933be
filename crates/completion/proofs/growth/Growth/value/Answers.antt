use Rattle.std.proofs.Common.{◌≡◌, ◌<◌, List, Some, refl, sym, ap, ◌∙◌, subst, arith}
use Rattle.terms.specs.Facts.{one_object, value_at}
use Rattle.terms.specs.Completed.{Known, turned, joined, one_value}
use Rattle.completion.specs.declared.record.PartRecord.{PartRecord}
use Rattle.completion.specs.Records.{Right, Says, leader_of, part_at, value_by}
use Rattle.completion.proofs.Growing.{set_same}
use Rattle.completion.proofs.growth.Growth.value.Goals as goal

pub returns-in-Some-clause-given : goal.returns-in-Some-clause-given
returns-in-Some-clause-given c =
    let g = c.args.self.now in
    let p = c.args.part in
    let f = c.args.feature in
    let x = c.in-Some.told in
    let low : p < 256 = omega arith in
    let told : value_by (part_at g.parts p) f ≡ Some x = rw (← c.from.ensures) (sym c.value.ensures ∙ c.in-Some.is) in
    let lead = g.shape.lead p f x low told in
    let same = set_same g.parts c.from.result (part_at g.parts c.from.result) refl in
    c.unite.ensures.went.kept (value_at p f x) (low, c.requires, lead.0)
    (subst (λ (ps : List PartRecord). Says ps (value_at p f x)) (sym same) (told ∙ ap Some (sym lead.1))) ∙ ap Some c.unite.ensures.given

pub returns-in-Some-clause-right : goal.returns-in-Some-clause-right
returns-in-Some-clause-right c = λ R F k t.
    let g = c.args.self.now in
    let p = c.args.part in
    let f = c.args.feature in
    let x = c.in-Some.told in
    let told : value_by (part_at g.parts p) f ≡ Some x = rw (← c.from.ensures) (sym c.value.ensures ∙ c.in-Some.is) in
    let a = (t p (omega arith)).values f x told in
    let same = set_same g.parts c.from.result (part_at g.parts c.from.result) refl in
    c.unite.ensures.right R F (joined (turned a.2) (joined (one_value a.1 k.1) k.2)) (subst (Right R F) (sym same) t)

pub returns-in-None-clause-given : goal.returns-in-None-clause-given
returns-in-None-clause-given c =
    let g = c.args.self.now in
    let q = c.args.value in
    let x = c.leader-leader.result in
    let low : q < 256 = omega arith in
    let same = set_same g.parts c.from.result (part_at g.parts c.from.result) refl in
    let lead : x ≡ leader_of g.parts q = c.leader-leader.ensures ∙ ap (λ (ps : List PartRecord). leader_of ps q) same in
    let own : leader_of g.parts q ≡ leader_of g.parts x = sym (g.shape.own q low) ∙ ap (leader_of g.parts) (sym lead) in
    let kept = c.put.ensures.went.kept (one_object q x) (low, c.leader-leader.type_inv) (subst (λ (ps : List PartRecord). Says ps (one_object q x)) (sym same) own) in
    c.put.ensures.given ∙ ap Some (sym kept)

pub returns-in-None-clause-right : goal.returns-in-None-clause-right
returns-in-None-clause-right c = λ R F k t.
    let g = c.args.self.now in
    let q = c.args.value in
    let same = set_same g.parts c.from.result (part_at g.parts c.from.result) refl in
    let lead = c.leader-leader.ensures ∙ ap (λ (ps : List PartRecord). leader_of ps q) same in
    let one = subst (λ n. Known R F (one_object q n)) (sym lead) (t q (omega arith)).leader in
    c.put.ensures.right R F (k.0, k.1, joined k.2 one) (subst (Right R F) (sym same) t)

use Rattle.std.proofs.Common.{◌≡◌, ℕ, true, ◌&&◌, ◌||◌, eqb, ltb, Ok, sym, ◌∙◌, subst, inl, inr, arith}
use Rattle.std.proofs.lemmas.Bool.{and_parts, eqb-true, or_cases}
use Rattle.std.proofs.lemmas.Bool.Decides.{nat_tests}
use Rattle.classes.proofs.Members.{not_in_none}
use Rattle.classes.specs.declared.ClassSet.{ClassSet}
use Rattle.classes.specs.Sets.{has, none}
use Rattle.terms.specs.declared.fact.Fact.{Fact}
use Rattle.terms.specs.declared.kind.FactKind.TheVariants.{InClass, ValueAt, OneObject}
use Rattle.terms.specs.Kinds.{fact_kind}
use Rattle.terms.specs.Facts.{in_class, value_at, one_object, claim_of}
use Rattle.terms.specs.Completed.{Known, same}
use Rattle.completion.proofs.growth.Growth.tell.Goals as goal

-- the claim of a fact, by its kind
class_claim : (f : Fact) → fact_kind f.kind ≡ Ok InClass → claim_of f ≡ in_class f.first f.second
class_claim f e = grind (arith, nat_tests)

value_claim : (f : Fact) → fact_kind f.kind ≡ Ok ValueAt → claim_of f ≡ value_at f.first f.second f.third
value_claim f e = grind (arith, nat_tests)

one_claim : (f : Fact) → fact_kind f.kind ≡ Ok OneObject → claim_of f ≡ one_object f.first f.second
one_claim f e = grind (arith, nat_tests)

-- the set of one class has no other
lone_class : (s : ClassSet) (k A : ℕ) → ((j : ℕ) → has s j ≡ (has none j || (eqb j k && ltb j 64))) → has s A ≡ true → A ≡ k
lone_class s k A i h =
    elim (or_cases (has none A) (eqb A k && ltb A 64) (sym (i A) ∙ h)) [
      | inl n ↦ not_in_none A n
      | inr e ↦ eqb-true A k (and_parts (eqb A k) (ltb A 64) e).0
    ]

pub returns-in-Ok-InClass-clause-right : goal.returns-in-Ok-InClass-clause-right
returns-in-Ok-InClass-clause-right c R F k r =
    let e : fact_kind c.args.fact.kind ≡ Ok InClass = cc in
    let known = subst (Known R F) (class_claim c.args.fact e) k in
    c.gain.ensures.right R F (λ A h. subst (λ B. Known R F (in_class c.args.fact.first B)) (sym (lone_class _ _ A c.insert.ensures h)) known) r

pub returns-in-Ok-ValueAt-clause-right : goal.returns-in-Ok-ValueAt-clause-right
returns-in-Ok-ValueAt-clause-right c R F k r =
    let e : fact_kind c.args.fact.kind ≡ Ok ValueAt = cc in
    c.value.ensures.right R F (c.args.fact.third, subst (Known R F) (value_claim c.args.fact e) k, same) r

pub returns-in-Ok-OneObject-clause-right : goal.returns-in-Ok-OneObject-clause-right
returns-in-Ok-OneObject-clause-right c R F k r =
    let e : fact_kind c.args.fact.kind ≡ Ok OneObject = cc in
    c.unite.ensures.right R F (subst (Known R F) (one_claim c.args.fact e) k) r

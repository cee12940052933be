-- A table that is sound, ordered, and has all that the rules pull back holds exactly the class steps.
use Rattle.std.proofs.Common.{◌≡◌, ℕ, ◌<◌, ◌↔◌, List, refl, ◌∙◌, subst, inl, inr}
use Rattle.classes.specs.declared.ClassSet.{ClassSet}
use Rattle.classes.specs.Sets.{none}
use Rattle.classes.proofs.Members.{has_none}
use Rattle.terms.specs.Worlds.{◌∈◌, Rule, value}
use Rattle.terms.specs.Steps.{Within, Leads, itself, by_rule, chained, pulled, by_value, widened}
use Rattle.theory.proofs.Range.{within_range, leads_range}
use Rattle.book.specs.Tables.{At, Steps}
use Rattle.theory.specs.Legal.{RulesLegal}
use Rattle.book.specs.Sealing.{Direct, Ordered, Sound, Open, AllLed}
use Rattle.book.specs.declared.links.Links.{Links}

-- each class within itself alone
module _ (w : List ClassSet) (r : (A B : ℕ) → At w A B ↔ ((A ≡ B) × (A < 64))) where
  pub alone_sound : (R : List Rule) → Sound R w
  alone_sound R A B h = subst (λ (x : ℕ). Within R A x) ((r A B).0 h).0 itself

  pub alone_ordered : Ordered w
  alone_ordered = record {
    refl = λ A l. (r A A).1 (refl, l);
    trans = λ A B C p q. let a = (r A B).0 p in (r A C).1 (a.0 ∙ ((r B C).0 q).0, a.1);
  }

module _ (R : List Rule) (lo : RulesLegal R) where
  low_up : {A B : ℕ} → Within R A B → A < 64 → B < 64
  low_up p l = elim (within_range lo p) [ inl e ↦ subst (λ (y : ℕ). y < 64) e l | inr x ↦ x.1 ]

  module _ (w : List ClassSet) (o : Open R w none) where
    order : Ordered w
    order = o.ready.ordered

    mutual
      whole : {A B : ℕ} → Within R A B → A < 64 → At w A B
      whole itself l = order.refl _ l
      whole (by_rule m) l = o.ready.rules _ _ m
      whole (chained p q) l = order.trans _ _ _ (whole p l) (whole q (low_up p l))
      whole (pulled {A} {f} {B} {C} p m) l =
          let t = ways p in
          let v = lo _ t.3 in
          order.trans _ _ _ t.2 (o.served t.0 f v.0 v.1 (has_none t.0) t.1 B C t.3 t.4 m)

      -- a step "leads" goes over one row of kind 3
      ways : {A f B : ℕ} → Leads R A f B → (C : ℕ) × (D : ℕ) × At w A C × (value C f D ∈ R) × At w D B
      ways (by_value m) = let t = lo _ m in (_, _, order.refl _ t.0, m, order.refl _ t.2)
      ways (widened p l q) =
          let t = ways l in
          let s = leads_range lo (widened p l q) in (
            t.0,
            t.1,
            order.trans _ _ _ (whole p s.0) t.2,
            t.3,
            order.trans _ _ _ t.4 (whole q (leads_range lo l).2),
          )

    pub exact : (links : Links) (leads : List (List ClassSet)) → Direct R links → AllLed w links leads → Steps R w leads
    exact links leads d h = record {
      within_is = λ A B l. ((λ a. o.ready.sound A B a), (λ p. whole p l));
      leads_is = λ A f B a b.
          let at = (h f b).each A a in
          let by = d.by_is f b in (
            (λ k. let t = at.from B k in
                widened (o.ready.sound A t.0 t.3) (by_value ((by.ahead_is t.0 t.1 t.2).0 t.4)) (o.ready.sound t.1 B t.5)),
            (λ p. let t = ways p in at.all t.0 t.1 B t.2 ((by.ahead_is t.0 t.1 (lo _ t.3).0).1 t.3) t.4),
          );
      leads_low = λ A f B p. let t = leads_range lo p in (t.0, t.1);
    }

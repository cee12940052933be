-- All records renamed.
use Rattle.std.proofs.Common.{◌≡◌, ℕ, ◌<◌, ◌≤◌, ◌≢◌, List, Some, None, Option, refl, sym, ap, ◌∙◌, subst, inl, inr, arith}
use Rattle.std.proofs.Math.ListN.{get_or-map}
use Rattle.std.proofs.lemmas.Bool.{cases_eq, cond-true, cond-false, eq-eqb, ne_eqb}
use Rattle.classes.specs.Sets.{has}
use Rattle.terms.specs.Worlds.{Rule}
use Rattle.terms.specs.Facts.{Claim, in_class, value_at, one_object}
use Rattle.terms.specs.Completed.{Known, joined}
use Rattle.completion.specs.declared.record.PartRecord.{PartRecord}
use Rattle.completion.specs.Records.{Shape, Right, Kept, leader_of, part_at, value_by, named, named_value, renamed}

-- the new names of parts
named_hit : (from to p : ℕ) → p ≡ from → named from to p ≡ to
named_hit from to p e = cond-true _ _ _ (eq-eqb p from e)

named_miss : (from to p : ℕ) → p ≢ from → named from to p ≡ p
named_miss from to p ne = cond-false _ _ _ (ne_eqb p from ne)

named_low : (from to p : ℕ) → to < from → named from to p ≤ p
named_low from to p lt = elim (cases_eq p from) [ inl e ↦ omega (arith, named_hit from to p e) | inr ne ↦ omega (arith, named_miss from to p ne) ]

renamed_value : (from to : ℕ) (r : PartRecord) (f : ℕ) → value_by (renamed from to r) f ≡ named_value from to (value_by r f)
renamed_value from to r f = get_or-map (named_value from to) r.values f None

-- a value of a renamed record has its new name
value_named : (from to : ℕ) (o : Option ℕ) (v : ℕ) → named_value from to o ≡ Some v → (u : ℕ) × (o ≡ Some u) × (named from to u ≡ v)
value_named from to None v h = cc
value_named from to (Some u) v h = (u, refl, cc)

module _ (from to : ℕ) (ps qs : List PartRecord) (lower : to < from) (low : from < 256) (s : Shape ps) (leads : (leader_of ps from ≡ from) × (leader_of ps to ≡ to))
    (each : (p : ℕ) → p < 256 → part_at qs p ≡ renamed from to (part_at ps p)) where
  leader_at : (p : ℕ) → p < 256 → leader_of qs p ≡ named from to (leader_of ps p)
  leader_at p l = ap (λ (r : PartRecord). r.leader) (each p l)

  value_at_part : (p f : ℕ) → p < 256 → value_by (part_at qs p) f ≡ named_value from to (value_by (part_at ps p) f)
  value_at_part p f l = ap (λ (r : PartRecord). value_by r f) (each p l) ∙ renamed_value from to (part_at ps p) f

  -- the new name of a leader is its own leader
  named_leads : (p : ℕ) → p < 256 → leader_of ps p ≡ p → leader_of qs (named from to p) ≡ named from to p
  named_leads p l e = elim (cases_eq p from) [
    | inl h ↦
        let k = named_miss from to to (λ x. omega arith) in
        subst (λ (n : ℕ). leader_of qs n ≡ n) (sym (named_hit from to p h)) (leader_at to (omega arith) ∙ (ap (named from to) leads.1 ∙ k))
    | inr ne ↦
        let k = named_miss from to p ne in
        subst (λ (n : ℕ). leader_of qs n ≡ n) (sym k) (leader_at p l ∙ (ap (named from to) e ∙ k))
  ]

  pub renamed_shape : Shape qs
  renamed_shape = record {
    low = λ p l. omega (arith, leader_at p l, named_low from to (leader_of ps p) lower, s.low p l);
    own = λ p l. subst (λ (n : ℕ). leader_of qs n ≡ n) (sym (leader_at p l)) (named_leads (leader_of ps p) (omega (arith, s.low p l)) (s.own p l));
    lead = λ p f v l h.
        let u = value_named from to (value_by (part_at ps p) f) v (sym (value_at_part p f l) ∙ h) in
        let k = s.lead p f u.0 l u.1 in
        subst (λ (n : ℕ). (n < 256) × (leader_of qs n ≡ n)) u.2 (omega (arith, named_low from to u.0 lower, k.0), named_leads u.0 k.0 k.1);
  }

  pub renamed_kept : Kept ps qs
  renamed_kept (in_class p A) l h = ap (λ (r : PartRecord). has r.classes A) (each p l.0) ∙ h
  renamed_kept (value_at p f q) l h = value_at_part p f l.0 ∙ (ap (named_value from to) h ∙ ap Some (sym (leader_at q l.2)))
  renamed_kept (one_object p q) l h = leader_at p l.0 ∙ (ap (named from to) h ∙ sym (leader_at q l.1))

  module _ (R : List Rule) (F : List Claim) (k : Known R F (one_object from to)) where
    named_one : (p q : ℕ) → Known R F (one_object p q) → Known R F (one_object p (named from to q))
    named_one p q h = elim (cases_eq q from) [
      | inl e ↦ subst (λ (n : ℕ). Known R F (one_object p n)) (sym (named_hit from to q e)) (joined (subst (λ (n : ℕ). Known R F (one_object p n)) e h) k)
      | inr ne ↦ subst (λ (n : ℕ). Known R F (one_object p n)) (sym (named_miss from to q ne)) h
    ]

    pub renamed_right : Right R F ps → Right R F qs
    renamed_right t p l = record {
      classes = λ A h. (t p l).classes A (ap (λ (r : PartRecord). has r.classes A) (sym (each p l)) ∙ h);
      leader = subst (λ (n : ℕ). Known R F (one_object p n)) (sym (leader_at p l)) (named_one p (leader_of ps p) (t p l).leader);
      values = λ f v h.
          let u = value_named from to (value_by (part_at ps p) f) v (sym (value_at_part p f l) ∙ h) in
          let x = (t p l).values f u.0 u.1 in
          (x.0, x.1, subst (λ (n : ℕ). Known R F (one_object x.0 n)) u.2 (named_one x.0 u.0 x.2));
    }

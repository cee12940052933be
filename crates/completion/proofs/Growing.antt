-- One record changed.
use Rattle.std.proofs.Common.{◌≡◌, ℕ, zero, suc, ◌+◌, ◌<◌, ◌≤◌, ◌≢◌, true, ◌⊎◌, List, [], ◌∷◌, length, set, Some, None, true≢false, refl, sym, ap, ◌∙◌, subst, inl, inr, arith}
use Rattle.std.proofs.lemmas.List.{get_or-set_same, get_or-set_other, get_or_past, length-set, set-get_or}
use Rattle.std.proofs.lemmas.Bool.{cases_eq, cases_lt, or_left, or_right, or_cases}
use Rattle.queue.specs.Lines.{waiting}
use Rattle.classes.specs.declared.ClassSet.{ClassSet}
use Rattle.classes.specs.Sets.{has}
use Rattle.classes.proofs.Members.{has_joined}
use Rattle.terms.specs.Worlds.{Rule}
use Rattle.terms.specs.Facts.{Claim, in_class, value_at, one_object}
use Rattle.terms.specs.Completed.{Known}
use Rattle.completion.specs.declared.record.PartRecord.{PartRecord}
use Rattle.completion.specs.declared.waiting.Waiting.{Waiting}
use Rattle.completion.specs.Records.{Has, Shape, RightOf, Right, Kept, leader_of, part_at, value_by, gained, valued, weight, total}
use Rattle.completion.specs.Lines.{Moved}

-- s says what r says, and has the same leader
pub record More (r s : PartRecord) : Type 0 where
  pub classes : (A : ℕ) → Has r A → Has s A
  pub leader : s.leader ≡ r.leader
  pub values : (f v : ℕ) → value_by r f ≡ Some v → value_by s f ≡ Some v

-- its values are leaders
abbrev pub Leads : List PartRecord → PartRecord → Type 0
Leads ps r = (f v : ℕ) → value_by r f ≡ Some v → (v < 256) × (leader_of ps v ≡ v)

pub total_set : (ps : List PartRecord) (p : ℕ) (r : PartRecord) → p < length ps → total (set ps p r) + weight (part_at ps p) ≡ total ps + weight r
unfolding total
total_set [] p r h = absurd (omega arith)
total_set (x ∷ ps) zero r h = omega arith
total_set (x ∷ ps) (suc p) r h = let i = total_set ps p r (omega arith) in omega arith

abbrev blank : PartRecord
blank = record { classes = record { bits = 0 }; leader = 0; values = [] }

-- the record of p takes its own place
pub set_same : (ps : List PartRecord) (p : ℕ) (r : PartRecord) → r ≡ part_at ps p → set ps p r ≡ ps
set_same ps p r e = ap (set ps p) e ∙ set-get_or ps p blank

-- r takes the place of the record of p
module _ (ps : List PartRecord) (p : ℕ) (r : PartRecord) (long : length ps ≡ 256) (low : p < 256) where
  pub here : part_at (set ps p r) p ≡ r
  here = get_or-set_same ps p r blank (omega arith)

  pub there : (q : ℕ) → q ≢ p → part_at (set ps p r) q ≡ part_at ps q
  there q ne = get_or-set_other ps p q r blank ne

  -- what holds of r and of the other records holds of all
  each : (P : ℕ → PartRecord → Type 0) → P p r → ((q : ℕ) → q < 256 → P q (part_at ps q)) → (q : ℕ) → q < 256 → P q (part_at (set ps p r) q)
  each P new old q l = elim (cases_eq q p) [
    | inl e ↦ subst (λ (x : ℕ). P x (part_at (set ps p r) x)) (sym e) (subst (P p) (sym here) new)
    | inr ne ↦ subst (P q) (sym (there q ne)) (old q l)
  ]

  pub set_right : (R : List Rule) (F : List Claim) → (RightOf R F p (part_at ps p) → RightOf R F p r) → Right R F ps → Right R F (set ps p r)
  set_right R F h t = each (RightOf R F) (h (t p low)) t

  pub set_moved : (v w : Waiting) → weight r < weight (part_at ps p) → w.grown ≡ true → length (waiting w.line) ≤ length (waiting v.line) + 2 → Moved ps v (set ps p r) w
  set_moved v w less up line =
      let t = total_set ps p r (omega arith) in
      record { same = λ e. absurd (true≢false (sym up ∙ e)); lighter = rw up (omega arith) }

  module _ (m : More (part_at ps p) r) where
    more_at : (q : ℕ) → More (part_at ps q) (part_at (set ps p r) q)
    more_at q = elim (cases_eq q p) [
      | inl e ↦ subst (λ (x : ℕ). More (part_at ps x) (part_at (set ps p r) x)) (sym e) (subst (More (part_at ps p)) (sym here) m)
      | inr ne ↦ subst (More (part_at ps q)) (sym (there q ne)) (record { classes = λ A h. h; leader = refl; values = λ f v h. h })
    ]

    leader_same : (q : ℕ) → leader_of (set ps p r) q ≡ leader_of ps q
    leader_same q = (more_at q).leader

    pub set_shape : Shape ps → Leads ps r → Shape (set ps p r)
    set_shape s vs = record {
      low = λ q l. subst (λ (x : ℕ). x ≤ q) (sym (leader_same q)) (s.low q l);
      own = λ q l. leader_same _ ∙ (ap (leader_of ps) (leader_same q) ∙ (s.own q l ∙ sym (leader_same q)));
      lead = λ q f v l h.
          let x = each (λ q x. Leads ps x) vs (λ q l f v. s.lead q f v l) q l f v h in
          (x.0, leader_same v ∙ x.1);
    }

    pub set_kept : Kept ps (set ps p r)
    set_kept (in_class q A) l h = (more_at q).classes A h
    set_kept (value_at q f v) l h = (more_at q).values f _ h ∙ ap Some (sym (leader_same v))
    set_kept (one_object q v) l h = leader_same q ∙ (h ∙ sym (leader_same v))

-- the record gains classes
pub gained_has : (r : PartRecord) (more : ClassSet) (A : ℕ) → has more A ≡ true → Has (gained r more) A
gained_has r more A h = has_joined r.classes more A ∙ or_right _ _ h

pub gained_more : (r : PartRecord) (more : ClassSet) → More r (gained r more)
gained_more r more = record { classes = λ A h. has_joined r.classes more A ∙ or_left _ _ h; leader = refl; values = λ f v h. h }

pub gained_right : (R : List Rule) (F : List Claim) (p : ℕ) (r : PartRecord) (more : ClassSet) → ((A : ℕ) → has more A ≡ true → Known R F (in_class p A)) → RightOf R F p r → RightOf R F p (gained r more)
gained_right R F p r more k t = record {
  classes = λ A h. elim (or_cases (has r.classes A) (has more A) (sym (has_joined r.classes more A) ∙ h)) [ inl x ↦ t.classes A x | inr x ↦ k A x ];
  leader = t.leader;
  values = t.values;
}

-- a value of the record with a new value is the new one, or it was there
valued_by : (r : PartRecord) (f v g w : ℕ) → value_by (valued r f v) g ≡ Some w → ((g ≡ f) × (w ≡ v)) ⊎ (value_by r g ≡ Some w)
valued_by r f v g w h = elim (cases_eq g f) [
  | inl e ↦
      let x : value_by (valued r f v) f ≡ Some w = subst (λ (n : ℕ). value_by (valued r f v) n ≡ Some w) e h in
      elim (cases_lt f (length r.values)) [
        | inl l ↦ let y = get_or-set_same r.values f (Some v) None l in inl (e, cc)
        | inr l ↦ let y = get_or_past (set r.values f (Some v)) f None (omega (arith, length-set r.values f (Some v))) in cc
      ]
  | inr ne ↦ inr (sym (get_or-set_other r.values f g (Some v) None ne) ∙ h)
]

pub valued_more : (r : PartRecord) (f v : ℕ) → value_by r f ≡ None → More r (valued r f v)
valued_more r f v none = record {
  classes = λ A h. h;
  leader = refl;
  values = λ g w h. elim (cases_eq g f) [
    | inl e ↦ let x : value_by r f ≡ Some w = subst (λ (n : ℕ). value_by r n ≡ Some w) e h in cc
    | inr ne ↦ get_or-set_other r.values f g (Some v) None ne ∙ h
  ];
}

pub valued_leads : (ps : List PartRecord) (r : PartRecord) (f v : ℕ) → v < 256 → leader_of ps v ≡ v → Leads ps r → Leads ps (valued r f v)
valued_leads ps r f v l e old g w h = elim (valued_by r f v g w h) [
  | inl x ↦ subst (λ (n : ℕ). (n < 256) × (leader_of ps n ≡ n)) (sym x.1) (l, e)
  | inr x ↦ old g w x
]

pub valued_right : (R : List Rule) (F : List Claim) (p : ℕ) (r : PartRecord) (f v : ℕ) → ((u : ℕ) × Known R F (value_at p f u) × Known R F (one_object u v)) → RightOf R F p r → RightOf R F p (valued r f v)
valued_right R F p r f v k t = record {
  classes = t.classes;
  leader = t.leader;
  values = λ g w h. elim (valued_by r f v g w h) [
    | inl x ↦ (k.0, subst (λ (n : ℕ). Known R F (value_at p n k.0)) (sym x.0) k.1, subst (λ (n : ℕ). Known R F (one_object k.0 n)) (sym x.1) k.2)
    | inr x ↦ t.values g w x
  ];
}

-- Tables that say only what is known, and to which no property of completed facts adds anything, are exact.
use Rattle.std.proofs.Common.{◌≡◌, ℕ, ◌≤◌, true, ◌⊎◌, ◌↔◌, List, sym, refl, ap, ◌∙◌, subst, inl, inr, arith}
use mathlib.Core.List.Memᴰ
use mathlib.Core.Option.{some, some-injective}
use Rattle.terms.specs.Worlds.{◌∈◌, Rule, pullback, key}
use Rattle.terms.specs.Steps.{Within, Leads}
use Rattle.terms.specs.Facts.{Claim, in_class, value_at, one_object}
use Rattle.terms.specs.Completed.{Known, told, same, turned, joined, class_shared, value_shared, one_value, class_up, class_along, class_back, keyed, Agree, on_none, on_one_more}
use Rattle.theory.specs.Tables.{Tables, Exact}

-- what the tables say
abbrev pub Says : Tables → Claim → Type 0
Says t (in_class p A) = t.has p A ≡ true
Says t (value_at p f q) = t.value_of p f ≡ some (t.leader q)
Says t (one_object p q) = t.leader p ≡ t.leader q

-- nothing is said that is not known: the invariant of every growth
pub record Right (R : List Rule) (F : List Claim) (t : Tables) : Type 0 where
  pub has_known : (p A : ℕ) → t.has p A ≡ true → Known R F (in_class p A)
  pub leader_known : (p : ℕ) → Known R F (one_object p (t.leader p))
  pub leader_low : (p : ℕ) → t.leader p ≤ p
  pub value_known : (p f v : ℕ) → t.value_of p f ≡ some v → (q : ℕ) × Known R F (value_at p f q) × (t.leader q ≡ v)

-- no property gives more: what holds when judging stops
pub record Still (R : List Rule) (F : List Claim) (t : Tables) : Type 0 where
  pub facts_said : (c : Claim) → c ∈ F → Says t c
  pub classes_shared : (p q A : ℕ) → t.leader p ≡ t.leader q → t.has p A ≡ true → t.has q A ≡ true
  pub values_shared : (p q f : ℕ) → t.leader p ≡ t.leader q → t.value_of p f ≡ t.value_of q f
  pub classes_up : (p A B : ℕ) → t.has p A ≡ true → Within R A B → t.has p B ≡ true
  pub classes_along : (p A f B q : ℕ) → t.has p A ≡ true → Leads R A f B → t.value_of p f ≡ some (t.leader q) → t.has q B ≡ true
  pub classes_back : (p f q A B : ℕ) → t.value_of p f ≡ some (t.leader q) → t.has q A ≡ true → pullback f A B ∈ R → t.has p B ≡ true
  pub keys_joined : (A B : ℕ) (fs : List ℕ) (p q : ℕ) → key A B fs ∈ R → t.has p A ≡ true → t.has q B ≡ true
      → ((f : ℕ) → f ∈ fs → (v : ℕ) × (t.value_of p f ≡ some v) × (t.value_of q f ≡ some v)) → t.leader p ≡ t.leader q

module _ {R : List Rule} {F : List Claim} {t : Tables} (s : Still R F t) where
  mutual
    pub said : {c : Claim} → Known R F c → Says t c
    said (told {c = c} m) = s.facts_said c m
    said same = refl
    said (turned e) = sym (said e)
    said (joined e e') = said e ∙ said e'
    said (class_shared e h) = s.classes_shared _ _ _ (said e) (said h)
    said (value_shared {f = f} e h) = sym (s.values_shared _ _ f (said e)) ∙ said h
    said (one_value g h) = some-injective _ _ (sym (said g) ∙ said h)
    said (class_up h w) = s.classes_up _ _ _ (said h) w
    said (class_along h l v) = s.classes_along _ _ _ _ _ (said h) l (said v)
    said (class_back v h m) = s.classes_back _ _ _ _ _ (said v) (said h) m
    said (keyed m g h a) = s.keys_joined _ _ _ _ _ m (said g) (said h) (agreed a)

    agreed : {p q : ℕ} {fs : List ℕ} → Agree R F p q fs → (f : ℕ) → f ∈ fs → (v : ℕ) × (t.value_of p f ≡ some v) × (t.value_of q f ≡ some v)
    agreed on_none f m = absurd (Memᴰ.not-nil m)
    agreed {p} {q} (on_one_more {f = g} {u = u} {v = v} {fs = fs} k k' e a) f m =
        pick (t.leader u, said k, said k' ∙ ap some (sym (said e))) (agreed a) (Memᴰ.cases_cons m)
      where
        pick : (v : ℕ) × (t.value_of p g ≡ some v) × (t.value_of q g ≡ some v)
            → ((f : ℕ) → f ∈ fs → (v : ℕ) × (t.value_of p f ≡ some v) × (t.value_of q f ≡ some v))
            → (f ≡ g) ⊎ (f ∈ fs) → (v : ℕ) × (t.value_of p f ≡ some v) × (t.value_of q f ≡ some v)
        pick h rest (inl i) = subst (λ f. (v : ℕ) × (t.value_of p f ≡ some v) × (t.value_of q f ≡ some v)) (sym i) h
        pick h rest (inr m) = rest f m

pub still_exact : {R : List Rule} {F : List Claim} {t : Tables} → Right R F t → Still R F t → ((A f B : ℕ) → (t.leads A f B ≡ true) ↔ Leads R A f B) → Exact R F t
still_exact {t = t} r s l = record {
  has_is = λ p A. (r.has_known p A, said s);
  leader_is = r.leader_known;
  leader_low = λ p q h. let e = said s h in let b = r.leader_low q in omega arith;
  value_is = λ p f v. (r.value_known p f v, λ u. said s u.1 ∙ ap some u.2);
  leads_is = l;
}

-- What extended tables hold: what the tables say below the limits, and nothing past them.
use Rattle.std.proofs.Common.{◌≡◌, ℕ, ◌<◌, ◌≤◌, true, ◌&&◌, ltb, ◌⊎◌, ◌↔◌, List, sym, ◌∙◌, inl, inr}
use mathlib.Core.Option.{none, some, none-ne-some}
use Rattle.std.proofs.lemmas.Bool.{and_from, and_parts, and_left, and_right, ltb-true, lt-ltb, le-ltb, cases_lt, cond-true, cond-false}
use Rattle.terms.specs.Worlds.{Rule}
use Rattle.terms.specs.Steps.{Leads}
use Rattle.theory.specs.Legal.{RulesLegal}
use Rattle.theory.specs.Tables.{Tables, extended}
use Rattle.theory.proofs.Range.{leads_range}

module _ (t : Tables) where
  pub has_from : {p A : ℕ} → (extended t).has p A ≡ true → (p < 256) × (A < 64) × (t.has p A ≡ true)
  unfolding extended
  has_from {p} {A} h =
      let r = and_parts (ltb p 256 && ltb A 64) (t.has p A) h in
      let s = and_parts (ltb p 256) (ltb A 64) r.0 in
      (ltb-true p 256 s.0, ltb-true A 64 s.1, r.1)

  pub has_to : {p A : ℕ} → p < 256 → A < 64 → t.has p A ≡ true → (extended t).has p A ≡ true
  unfolding extended
  has_to l k h = and_from _ _ (and_from _ _ (lt-ltb _ _ l) (lt-ltb _ _ k)) h

  pub leader_below : {p : ℕ} → p < 256 → (extended t).leader p ≡ t.leader p
  unfolding extended
  leader_below {p} l = cond-true _ _ _ (lt-ltb p 256 l)

  pub leader_past : {p : ℕ} → 256 ≤ p → (extended t).leader p ≡ p
  unfolding extended
  leader_past {p} g = cond-false _ _ _ (le-ltb p 256 g)

  pub value_below : {p f : ℕ} → p < 256 → f < 16 → (extended t).value_of p f ≡ t.value_of p f
  unfolding extended
  value_below {p} {f} l k = cond-true _ _ _ (and_from _ _ (lt-ltb p 256 l) (lt-ltb f 16 k))

  pub value_past : {p f : ℕ} → (256 ≤ p) ⊎ (16 ≤ f) → (extended t).value_of p f ≡ none
  unfolding extended
  value_past {p} {f} (inl g) = cond-false _ _ _ (and_left _ _ (le-ltb p 256 g))
  value_past {p} {f} (inr g) = cond-false _ _ _ (and_right _ _ (le-ltb f 16 g))

  pub value_from : {p f v : ℕ} → (extended t).value_of p f ≡ some v → (p < 256) × (f < 16) × (t.value_of p f ≡ some v)
  value_from {p} {f} {v} h =
      elim (cases_lt p 256) [
        | inr g ↦ absurd (none-ne-some v (sym (value_past (inl g)) ∙ h))
        | inl l ↦
            elim (cases_lt f 16) [
              | inr g ↦ absurd (none-ne-some v (sym (value_past (inr g)) ∙ h))
              | inl k ↦ (l, k, sym (value_below l k) ∙ h)
            ]
      ]

  pub values_same : {p q f : ℕ} → p < 256 → q < 256 → t.value_of p f ≡ t.value_of q f → (extended t).value_of p f ≡ (extended t).value_of q f
  values_same {f = f} l l' e =
      elim (cases_lt f 16) [
        | inl k ↦ value_below l k ∙ e ∙ sym (value_below l' k)
        | inr g ↦ value_past (inr g) ∙ sym (value_past (inr g))
      ]

  pub leads_is : {R : List Rule} → RulesLegal R → ((A f B : ℕ) → A < 64 → f < 16 → (t.leads A f B ≡ true) ↔ Leads R A f B) → (A f B : ℕ) → ((extended t).leads A f B ≡ true) ↔ Leads R A f B
  unfolding extended
  leads_is legal x A f B = (
    λ h. let r = and_parts ((ltb A 64 && ltb f 16) && ltb B 64) (t.leads A f B) h in
        let s = and_parts (ltb A 64 && ltb f 16) (ltb B 64) r.0 in
        let u = and_parts (ltb A 64) (ltb f 16) s.0 in
        (x A f B (ltb-true A 64 u.0) (ltb-true f 16 u.1)).0 r.1,
    λ k. let r = leads_range legal k in
        and_from _ _ (and_from _ _ (and_from _ _ (lt-ltb _ _ r.0) (lt-ltb _ _ r.1)) (lt-ltb _ _ r.2)) ((x A f B r.0 r.1).1 k),
  )

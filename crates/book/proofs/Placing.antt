-- One class more that a class lies within: the table stays sound and ordered.
use Rattle.std.proofs.Common.{◌≡◌, ℕ, ◌^◌, ◌<◌, Bool, true, false, cond, ◌⊎◌, List, sym, refl, ap, ◌∙◌, subst, inl, inr}
use Rattle.std.proofs.lemmas.Bool.{or_cases, or_left, or_right}
use Rattle.classes.specs.declared.ClassSet.{ClassSet}
use Rattle.classes.specs.Sets.{has, joined, weight}
use Rattle.classes.proofs.Members.{has_joined, has_low}
use Rattle.terms.specs.Worlds.{Rule}
use Rattle.terms.specs.Steps.{Within, chained}
use Rattle.book.specs.Tables.{set_at, At}
use Rattle.book.specs.Sealing.{widened, Extended, Gathered, Ordered, Sound, Placed}

widened_from : (s : ClassSet) (a : ℕ) (more : ClassSet) (B : ℕ) → has (widened s a more) B ≡ true → (has s B ≡ true) ⊎ ((has s a ≡ true) × (has more B ≡ true))
widened_from s a more B h = by (has s a) refl h
  where
    by : (b : Bool) → has s a ≡ b → has (cond b (joined s more) s) B ≡ true → (has s B ≡ true) ⊎ ((has s a ≡ true) × (has more B ≡ true))
    by true e k = elim (or_cases _ _ (sym (has_joined s more B) ∙ k)) [ inl x ↦ inl x | inr x ↦ inr (e, x) ]
    by false e k = inl k

widened_old : (s : ClassSet) (a : ℕ) (more : ClassSet) (B : ℕ) → has s B ≡ true → has (widened s a more) B ≡ true
widened_old s a more B h = by (has s a)
  where
    by : (b : Bool) → has (cond b (joined s more) s) B ≡ true
    by true = has_joined s more B ∙ or_left _ _ h
    by false = h

widened_new : (s : ClassSet) (a : ℕ) (more : ClassSet) (B : ℕ) → has s a ≡ true → has more B ≡ true → has (widened s a more) B ≡ true
widened_new s a more B e h = ap (λ (b : Bool). has (cond b (joined s more) s) B) e ∙ (has_joined s more B ∙ or_right _ _ h)

module _ (w : List ClassSet) (a : ℕ) (s more : ClassSet) (v : List ClassSet) (g : ClassSet)
    (low : a < 64) (fit : weight s < 2 ^ 64) (ga : Gathered w s more) (ex : Extended w a more v g) where
  at_from : (X B : ℕ) → At v X B → At w X B ⊎ (At w X a × (has more B ≡ true))
  at_from X B h = widened_from (set_at w X) a more B (subst (λ (t : ClassSet). has t B ≡ true) (ex.each X) h)

  at_old : (X B : ℕ) → At w X B → At v X B
  at_old X B h = subst (λ (t : ClassSet). has t B ≡ true) (sym (ex.each X)) (widened_old (set_at w X) a more B h)

  at_new : (X B : ℕ) → At w X a → has more B ≡ true → At v X B
  at_new X B h k = subst (λ (t : ClassSet). has t B ≡ true) (sym (ex.each X)) (widened_new (set_at w X) a more B h k)

  -- more is closed upward
  more_up : Ordered w → (B C : ℕ) → has more B ≡ true → At w B C → has more C ≡ true
  more_up o B C h k = let t = ga.from B h in ga.all t.0 C t.2 (o.trans t.0 B C t.3 k)

  order : Ordered w → Ordered v
  order o = record { refl = λ A l. at_old A A (o.refl A l); trans = trans }
    where
      trans : (A B C : ℕ) → At v A B → At v B C → At v A C
      trans A B C p q =
          elim (at_from A B p) [
            | inl x ↦ elim (at_from B C q) [ inl y ↦ at_old A C (o.trans A B C x y) | inr y ↦ at_new A C (o.trans A B a x y.0) y.1 ]
            | inr x ↦ elim (at_from B C q) [ inl y ↦ at_new A C x.0 (more_up o B C x.1 y) | inr y ↦ at_new A C x.0 y.1 ]
          ]

  sounds : (R : List Rule) → Sound R w → ((B : ℕ) → has s B ≡ true → Within R a B) → Sound R v
  sounds R so in-s A B h =
      elim (at_from A B h) [
        | inl x ↦ so A B x
        | inr x ↦ let t = ga.from B x.1 in chained (so A a x.0) (chained (in-s t.0 t.2) (so t.0 B t.3))
      ]

  pub placed : Placed w a s v g
  placed = record {
    grew = at_old;
    kept = ex.kept;
    ordered = order;
    there = λ o B h. at_new a B (o.refl a low) (ga.all B B h (o.refl B (has_low s B fit h)));
    sound = sounds;
  }

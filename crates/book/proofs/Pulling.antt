-- What rows of kind 4 pull back to a class along one feature.
use Rattle.std.proofs.Common.{◌≡◌, ℕ, ◌<◌, true, false, List, subst, inl, inr}
use Rattle.std.proofs.lemmas.Bool.{cases_Bool, both_ways}
use Rattle.classes.specs.declared.ClassSet.{ClassSet}
use Rattle.classes.specs.Sets.{has}
use Rattle.terms.specs.Worlds.{◌∈◌, Rule, value}
use Rattle.terms.specs.Steps.{Within, itself, pulled, by_value, widened}
use Rattle.book.specs.Tables.{set_at, At}
use Rattle.book.specs.Sealing.{DirectBy, Entered, Gathered, Placed, Ordered, Sound, Served, Step}
use Rattle.book.specs.declared.links.FeatureLinks.{FeatureLinks}

module _ (by : FeatureLinks) (into w v : List ClassSet) (a : ℕ) (low : a < 64) (led back grown again : ClassSet)
    (l : Gathered w (set_at by.ahead a) led) (b : Gathered by.behind led back) (p : Placed w a back v grown) (i : Gathered into grown again)
    (R : List Rule) (f : ℕ) (d : DirectBy R f by) (n : Entered R into) where
  back_within : Sound R w → (C : ℕ) → has back C ≡ true → Within R a C
  back_within so C h =
      let t = b.from C h in
      let u = l.from t.0 t.2 in
      pulled (widened itself (by_value ((d.ahead_is a u.0 low).0 u.2)) (so u.0 t.0 u.3)) ((d.behind_is t.0 C t.1).0 t.3)

  -- what a class that need not be looked at again leads to has not grown
  still : (A g D : ℕ) → has again A ≡ false → value A g D ∈ R → set_at v D ≡ set_at w D
  still A g D h m =
      p.kept D (elim (cases_Bool (has grown D))
      [ inl x ↦ absurd (both_ways (has again A) h (i.all D A x (n A g D m))) | inr x ↦ x ])

  pub pull_step : Step R w again v
  pull_step = record {
    grew = p.grew;
    ordered = p.ordered;
    sound = λ so. p.sound R so (back_within so);
    keeps = λ A g h s D B C m e q. p.grew A C (s D B C m (subst (λ (t : ClassSet). has t B ≡ true) (still A g D h m) e) q);
  }

  pub pull_served : Ordered w → has again a ≡ false → Served R v a f
  pull_served o h D B C m e q =
      let e' : At w D B = subst (λ (t : ClassSet). has t B ≡ true) (still a f D h m) e in
      let in-led : has led B ≡ true = l.all D B ((d.ahead_is a D low).1 m) e' in
      p.there o C (b.all B C in-led ((d.behind_is B C (d.legal _ q).1).1 q))

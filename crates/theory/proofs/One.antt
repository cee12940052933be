-- Tables that are exact for the same rules and facts are equal.
use Rattle.std.proofs.Common.{◌≡◌, ℕ, ◌≤◌, Bool, true, false, List, sym, refl, ◌∙◌, arith}
use mathlib.Core.Option.{Option, none, some}
use Rattle.terms.specs.Worlds.{Rule}
use Rattle.terms.specs.Facts.{Claim}
use Rattle.theory.specs.Tables.{Tables, Exact}
use Rattle.theory.specs.Theorems.{ExactIsOne}

both_ways : (a b : Bool) → (a ≡ true → b ≡ true) → (b ≡ true → a ≡ true) → a ≡ b
both_ways true b h k = sym (h refl)
both_ways false true h k = k refl
both_ways false false h k = refl

same_option : (o u : Option ℕ) → ((v : ℕ) → o ≡ some v → u ≡ some v) → ((v : ℕ) → u ≡ some v → o ≡ some v) → o ≡ u
same_option none none h k = refl
same_option none (some v) h k = k v refl
same_option (some v) u h k = sym (h v refl)

module _ {R : List Rule} {F : List Claim} {t u : Tables} (x : Exact R F t) (y : Exact R F u) where
  leader_le : (p : ℕ) → t.leader p ≤ u.leader p
  leader_le p = x.leader_low p (u.leader p) (y.leader_is p)

  value_le : (p f v : ℕ) → ((q : ℕ) → t.leader q ≡ u.leader q) → t.value_of p f ≡ some v → u.value_of p f ≡ some v
  value_le p f v e h = let r = (x.value_is p f v).0 h in (y.value_is p f v).1 (r.0, r.1, sym (e r.0) ∙ r.2)

pub exact_is_one : ExactIsOne
exact_is_one R F t u x y =
    let e : (p : ℕ) → t.leader p ≡ u.leader p = λ p. let a = leader_le x y p in let b = leader_le y x p in omega arith in
    record {
      has = λ p A. both_ways _ _ (λ h. (y.has_is p A).1 ((x.has_is p A).0 h)) (λ h. (x.has_is p A).1 ((y.has_is p A).0 h));
      leader = e;
      value_of = λ p f. same_option _ _ (λ v. value_le x y p f v e) (λ v. value_le y x p f v (λ q. sym (e q)));
    }

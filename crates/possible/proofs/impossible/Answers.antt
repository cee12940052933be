use Rattle.std.proofs.Common.{◌≡◌, ℕ, ◌+◌, ◌<◌, true, ◌&&◌, ◌||◌, eqb, ltb, ◌↔◌, sym, ap, ◌∙◌, subst, inl, inr, arith}
use Rattle.std.proofs.lemmas.Bool.{cases_eq, or_cases, or_left, or_right, and_parts, and_from, eqb-true, eq-eqb, lt-ltb, both_ways}
use Rattle.classes.specs.declared.ClassSet.{ClassSet}
use Rattle.classes.specs.Sets.{has}
use Rattle.classes.proofs.Members.{not_in_none}
use Rattle.terms.specs.Worlds.{rules_of}
use Rattle.terms.specs.Verdicts.{Possible}
use Rattle.book.specs.Books.{rows_of}
use Rattle.possible.proofs.impossible.Goals as goal
use Rattle.possible.proofs.impossible.Goals.{then-is_impossible, else-is_impossible}

-- a set of numbers below n that have a property, with n settled too
module _ (P : ℕ → Type 0) (s t : ClassSet) (n : ℕ) (low : n < 64) (old : (A : ℕ) → (has s A ≡ true) ↔ ((A < n) × P A)) where
  settled : ((A : ℕ) → has t A ≡ (has s A || (eqb A n && ltb A 64))) → P n → (A : ℕ) → (has t A ≡ true) ↔ ((A < n + 1) × P A)
  settled add yes' A = (
    (λ h. elim (or_cases _ _ (sym (add A) ∙ h)) [
      | inl x ↦ let p = (old A).0 x in (omega arith, p.1)
      | inr x ↦ let e = eqb-true _ _ (and_parts _ _ x).0 in (omega arith, subst P (sym e) yes')
    ]),
    (λ p. add A ∙ elim (cases_eq A n) [
      | inl e ↦ or_right _ _ (and_from _ _ (eq-eqb A n e) (lt-ltb A 64 (omega arith)))
      | inr ne ↦ or_left _ _ ((old A).1 ((let z = p.0 in omega arith), p.1))
    ]),
  )

  skipped : t ≡ s → (P n → ⊥) → (A : ℕ) → (has t A ≡ true) ↔ ((A < n + 1) × P A)
  skipped e not' A = (
    (λ h. let p = (old A).0 (ap (λ (x : ClassSet). has x A) (sym e) ∙ h) in (omega arith, p.1)),
    (λ p. ap (λ (x : ClassSet). has x A) e ∙ elim (cases_eq A n) [
      | inl q ↦ absurd (not' (subst P q p.1))
      | inr ne ↦ (old A).1 ((let z = p.0 in omega arith), p.1)
    ]),
  )

pub loop-class-init : goal.loop-class-init
loop-class-init c = λ A. (not_in_none A, (λ p. let z = p.0 in absurd (omega arith)))

pub loop-class-preserved : goal.loop-class-preserved
loop-class-preserved c =
    let never : ℕ → Type 0 = λ A. Possible (rules_of (rows_of c.args.book.now)) A → ⊥ in
    let n = c.loop-class.class in
    let low = c.loop-class-test.true in
    let s = c.loop-class.found in
    let t = c.if-is_impossible.found in
    elim c.if-is_impossible.branch [
      | then-is_impossible w ↦
          settled never s t n low c.loop-class.invariant (λ A. ap (λ (x : ClassSet). has x A) w.found-is ∙ w.insert.ensures A) (c.is_impossible.ensures.0 w.if-is_impossible.true)
      | else-is_impossible w ↦ skipped never s t n low c.loop-class.invariant w.found-is (λ h. both_ways _ w.if-is_impossible.false (c.is_impossible.ensures.1 h))
    ]

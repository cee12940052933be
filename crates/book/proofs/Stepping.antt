-- Steps one after another, and the loop that takes classes from the waiting ones.
use Rattle.std.proofs.Common.{◌≡◌, ℕ, ◌+◌, ◌*◌, ◌^◌, ◌<◌, true, false, not, ◌&&◌, ◌||◌, eqb, ltb, List, sym, ap, ◌∙◌, subst, inl, inr, arith}
use lib.Bits.{or_zero_r}
use Rattle.std.proofs.lemmas.Bool.{or_parts, or_left, or_right, and_from, and_cases, not-false, eqb-true, eq-eqb, lt-ltb, cases_eq, both_ways, cases_Bool}
use Rattle.classes.specs.declared.ClassSet.{ClassSet}
use Rattle.classes.specs.Sets.{has, none, joined, weight, Took}
use Rattle.classes.proofs.Members.{has_joined, has_none, empty_none, extensional}
use Rattle.terms.specs.Worlds.{Rule}
use Rattle.book.specs.Sealing.{Gathered, Ordered, Served, Step, Heavier, Open, Ready, missing}

pub step_none : (R : List Rule) (w : List ClassSet) → Step R w none w
step_none R w = record { grew = λ A B h. h; ordered = λ o. o; sound = λ s. s; keeps = λ A f _ s. s }

neither : (g h : ClassSet) (A : ℕ) → has (joined g h) A ≡ false → (has g A ≡ false) × (has h A ≡ false)
neither g h A e = or_parts (has g A) (has h A) (sym (has_joined g h A) ∙ e)

pub step_then : (R : List Rule) (u v w : List ClassSet) (g h : ClassSet) → Step R u g v → Step R v h w → Step R u (joined g h) w
step_then R u v w g h p q = record {
  grew = λ A B x. q.grew A B (p.grew A B x);
  ordered = λ o. q.ordered (p.ordered o);
  sound = λ s. q.sound (p.sound s);
  keeps = λ A f e s. let n = neither g h A e in q.keeps A f n.1 (p.keeps A f n.0 s);
}

pub heavier_then : (u v w : List ClassSet) (g h : ClassSet) → Heavier u g v → Heavier v h w → Heavier u (joined g h) w
heavier_then u v w g h p q =
    let a = p.least in
    let b = q.least in
    record {
      least = omega arith;
      unless =
          elim p.unless [
            | inl x ↦ elim q.unless [ inl y ↦ inl (both x y) | inr y ↦ inr (omega arith) ]
            | inr x ↦ inr (omega arith)
          ];
    }
  where
    both : weight g ≡ 0 → weight h ≡ 0 → weight (joined g h) ≡ 0
    both x y = ap (λ (s : ClassSet). weight (joined s h)) (empty_none g x) ∙ ap (λ (s : ClassSet). weight (joined none s)) (empty_none h y)

-- nothing grew, so nothing is to be looked at again
pub heavier_gathered : (w v table : List ClassSet) (g r : ClassSet) → weight r < 2 ^ 64 → Gathered table g r → Heavier w g v → Heavier w r v
heavier_gathered w v table g r fit ga p = record {
  least = p.least;
  unless = elim p.unless [ inl x ↦ inl (ap weight (extensional r none fit (omega arith) (λ k. empty k x))) | inr x ↦ inr x ];
}
  where
    empty : (k : ℕ) → weight g ≡ 0 → has r k ≡ has none k
    empty k x =
        elim (cases_Bool (has r k)) [
          | inl e ↦ let t = ga.from k e in
              absurd (both_ways (has g t.0) (ap (λ (s : ClassSet). has s t.0) (empty_none g x) ∙ has_none t.0) t.2)
          | inr e ↦ e ∙ sym (has_none k)
        ]

-- one feature more
pub served_more : (R : List Rule) (v w : List ClassSet) (g h : ClassSet) (a n : ℕ) → Step R v h w
    → (has g a ≡ false → (f : ℕ) → f < n → Served R v a f) → (has h a ≡ false → Served R w a n)
    → has (joined g h) a ≡ false → (f : ℕ) → f < n + 1 → Served R w a f
served_more R v w g h a n p old new e f l =
    let s = neither g h a e in
    elim (cases_eq f n)
    [ inl q ↦ subst (λ (x : ℕ). Served R w a x) (sym q) (new s.1) | inr ne ↦ p.keeps a f s.1 (old s.0 f (omega arith)) ]

-- every class waits at first
pub open_first : (R : List Rule) (w : List ClassSet) (all : ClassSet) → ((k : ℕ) → k < 64 → has all k ≡ true) → Ready R w → Open R w all
open_first R w all h r = record { ready = r; served = λ A f l _ e. absurd (both_ways (has all A) e (h A l)) }

-- a class is looked at
pub open_next : (R : List Rule) (w v : List ClassSet) (waiting rest again : ClassSet) (a : ℕ) → Took waiting a rest → Step R w again v
    → (Ordered w → has again a ≡ false → (f : ℕ) → f < 16 → Served R v a f) → Open R w waiting → Open R v (joined rest again)
open_next R w v waiting rest again a t s new o = record {
  ready = record {
    sound = s.sound o.ready.sound;
    ordered = s.ordered o.ready.ordered;
    rules = λ A B m. s.grew A B (o.ready.rules A B m);
  };
  served = λ A f l k e.
      let n = neither rest again A e in
      elim (cases_eq A a) [
        | inl q ↦ subst (λ (x : ℕ). Served R v x f) (sym q) (new o.ready.ordered (subst (λ (x : ℕ). has again x ≡ false) q n.1) f k)
        | inr ne ↦ s.keeps A f n.1 (o.served A f l k (gone A ne n.0))
      ];
}
  where
    gone : (A : ℕ) → (A ≡ a → ⊥) → has rest A ≡ false → has waiting A ≡ false
    gone A ne h =
        elim (and_cases (has waiting A) (not (eqb A a)) (sym (t.rest A) ∙ h))
        [ inl x ↦ x | inr x ↦ absurd (ne (eqb-true A a (not-false (eqb A a) x))) ]

-- the measure falls: fewer classes wait, or the table is heavier
pub measure_less : (w v : List ClassSet) (waiting rest again : ClassSet) (a : ℕ) → weight (joined rest again) < 2 ^ 64 → Took waiting a rest → Heavier w again v
    → missing v * 2 ^ 64 + weight (joined rest again) < missing w * 2 ^ 64 + weight waiting
measure_less w v waiting rest again a fit t h =
    elim h.unless [
      | inl x ↦
          let e : weight (joined rest again) ≡ weight rest = ap (λ (s : ClassSet). weight (joined rest s)) (empty_none again x) ∙ same rest in
          let l = t.less in let m = h.least in omega arith
      | inr x ↦ omega arith
    ]
  where
    same : (s : ClassSet) → weight (joined s none) ≡ weight s
    same s = or_zero_r s.bits

-- one class more in a set that is to have all
pub all_more : (s t : ClassSet) (n : ℕ) → n < 64 → ((k : ℕ) → has t k ≡ (has s k || (eqb k n && ltb k 64)))
    → ((k : ℕ) → k < n → has s k ≡ true) → (k : ℕ) → k < n + 1 → has t k ≡ true
all_more s t n l h old k m =
    h k ∙ elim (cases_eq k n)
    [ inl e ↦ or_right _ _ (and_from _ _ (eq-eqb k n e) (lt-ltb k 64 (omega arith))) | inr ne ↦ or_left _ _ (old k (omega arith)) ]

-- Widening the sets of a table one after another.
use Rattle.std.proofs.Common.{◌≡◌, ℕ, zero, suc, ◌+◌, ◌^◌, ◌<◌, ◌≤◌, Bool, true, false, cond, ◌&&◌, ◌||◌, eqb, ltb, ◌≢◌, List, [], ◌∷◌, length, set, sym, refl, ap, ◌∙◌, subst, inl, inr, arith}
use lib.Bits.{or_zero_r}
use Rattle.std.proofs.lemmas.List.{get_or-set_same, get_or-set_other, get_or_past}
use Rattle.std.proofs.lemmas.Bool.{and_from, eq-eqb, lt-ltb, or_parts, cases_eq, cases_lt, false≢true}
use Rattle.classes.specs.declared.ClassSet.{ClassSet}
use Rattle.classes.specs.Sets.{has, none, joined, weight}
use Rattle.classes.proofs.Members.{has_none, empty_none, joined_more, same_weight}
use Rattle.book.specs.Tables.{set_at}
use Rattle.book.specs.Sealing.{widened, missing, Heavier, Extending, Extended}

missing_set : (w : List ClassSet) (a : ℕ) (s : ClassSet) → a < length w → weight s ≤ 2 ^ 64 → weight (set_at w a) ≤ weight s
    → missing (set w a s) + weight s ≡ missing w + weight (set_at w a)
unfolding missing
missing_set [] a s h b l = absurd (omega arith)
missing_set (x ∷ w) zero s h b l = omega arith
missing_set (x ∷ w) (suc a) s h b l = let i = missing_set w a s (omega arith) b l in omega arith

widened_more : (s : ClassSet) (a : ℕ) (more : ClassSet) → weight s ≤ weight (widened s a more)
widened_more s a more = by (has s a)
  where
    by : (b : Bool) → weight s ≤ weight (cond b (joined s more) s)
    by true = joined_more s more
    by false = omega arith

pub extend_none : (w : List ClassSet) (a : ℕ) (more : ClassSet) → Extending w a more 0 w none
extend_none w a more = record { each = λ X h. absurd (omega arith); later = λ X _. refl; kept = λ X _. refl }

pub heavier_none : (w : List ClassSet) → Heavier w none w
heavier_none w = record { least = omega arith; unless = inl refl }

-- nothing to gain
pub extend_by_none : (w : List ClassSet) (a : ℕ) (more : ClassSet) → weight more ≡ 0 → Extended w a more w none
extend_by_none w a more e = record {
  each = λ X. sym (ap (widened (set_at w X) a) (empty_none more e) ∙ still (set_at w X) (has (set_at w X) a));
  kept = λ X _. refl;
}
  where
    still : (s : ClassSet) (b : Bool) → cond b (joined s none) s ≡ s
    still s true = same_weight (joined s none) s (or_zero_r (weight s))
    still s false = refl

module _ (w : List ClassSet) (a : ℕ) (more : ClassSet) (n : ℕ) (v : List ClassSet) (g : ClassSet) (e : Extending w a more n v g) where
  new : widened (set_at v n) a more ≡ widened (set_at w n) a more
  new = ap (λ (s : ClassSet). widened s a more) (e.later n (omega arith))

  pub extend_same : set_at v n ≡ widened (set_at v n) a more → Extending w a more (n + 1) v g
  extend_same h = record {
    each = λ X l. elim (cases_eq X n)
        [ inl q ↦ subst (λ (i : ℕ). set_at v i ≡ widened (set_at w i) a more) (sym q) (h ∙ new) | inr ne ↦ e.each X (omega arith) ];
    later = λ X l. e.later X (omega arith);
    kept = e.kept;
  }

  module _ (s h : ClassSet) (is : s ≡ widened (set_at v n) a more) (long : length v ≡ 64) (low : n < 64)
      (also : (k : ℕ) → has h k ≡ (has g k || (eqb k n && ltb k 64))) where
    here : set_at (set v n s) n ≡ s
    here = get_or-set_same v n s none (omega arith)

    there : (X : ℕ) → X ≢ n → set_at (set v n s) X ≡ set_at v X
    there X ne = get_or-set_other v n X s none ne

    pub extend_grown : Extending w a more (n + 1) (set v n s) h
    extend_grown = record {
      each = λ X l. elim (cases_eq X n) [
        | inl q ↦ subst (λ (i : ℕ). set_at (set v n s) i ≡ widened (set_at w i) a more) (sym q) (here ∙ (is ∙ new))
        | inr ne ↦ there X ne ∙ e.each X (omega arith)
      ];
      later = λ X l. there X (omega arith) ∙ e.later X (omega arith);
      kept = λ X f.
          let p = or_parts (has g X) _ (sym (also X) ∙ f) in
          let ne : X ≢ n = λ q. false≢true (sym p.1 ∙ and_from _ _ (eq-eqb X n q) (lt-ltb X 64 (omega arith))) in
          there X ne ∙ e.kept X p.0;
    }

    pub extend_heavier : (set_at v n ≢ s) → weight s < 2 ^ 64 → Heavier w g v → Heavier w h (set v n s)
    extend_heavier ne fit k =
        let up : weight (set_at v n) ≤ weight s = subst (λ (t : ClassSet). weight (set_at v n) ≤ weight t) (sym is) (widened_more (set_at v n) a more) in
        let ns : weight (set_at v n) ≢ weight s = λ q. ne (same_weight _ _ q) in
        let m = missing_set v n s (omega arith) (omega arith) up in
        let d = k.least in
        record { least = omega arith; unless = inr (omega arith) }

pub extend_all : (w : List ClassSet) (a : ℕ) (more : ClassSet) (n : ℕ) (v : List ClassSet) (g : ClassSet) → length w ≡ 64 → length v ≡ 64 → 64 ≤ n
    → Extending w a more n v g → Extended w a more v g
extend_all w a more n v g lw lv h e = record {
  each = λ X. elim (cases_lt X 64) [
    | inl l ↦ e.each X (omega arith)
    | inr l ↦ get_or_past v X none (omega arith) ∙ (sym still ∙ ap (λ (s : ClassSet). widened s a more) (sym (get_or_past w X none (omega arith))))
  ];
  kept = e.kept;
}
  where
    still : widened none a more ≡ none
    still = ap (λ (b : Bool). cond b (joined none more) none) (has_none a)

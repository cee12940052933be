-- The classes and features of lawful rows, and of the rules that they say.
use Rattle.std.proofs.Common.{◌≡◌, ℕ, zero, suc, ◌+◌, ◌<◌, ◌≤◌, Bool, true, false, cond, ◌&&◌, eqb, ltb, leb, ◌⊎◌, List, [], ◌∷◌, length, get_or, Ok, Result, sym, refl, ap, ◌∙◌, subst, inl, inr, arith}
use mathlib.Core.List.Memᴰ
use Rattle.std.proofs.lemmas.Bool.{and_parts, ltb-true, eqb-true, leb-true, or_cases, not-true, ltb-false, cases_eq, cases_Bool}
use Rattle.std.proofs.lemmas.Bool.Decides.{nat_tests}
use Rattle.terms.specs.declared.row.Row.{Row}
use Rattle.terms.specs.declared.refusal.Refusal.{Refusal}
use Rattle.terms.specs.declared.kind.RowKind.{RowKind}
use Rattle.terms.specs.declared.kind.RowKind.TheVariants.{Subclass, Exclusion, Value, Pullback, Key}
use Rattle.terms.specs.Kinds.{row_kind, row_number}
use Rattle.terms.specs.Rows.{lawful, all_lawful, kind_known, classes_low, features_low, count_fits, low_at, feature_at}
use Rattle.terms.specs.Worlds.{◌∈◌, Rule, subclass, disjoint, value, pullback, key, features_from, rule_of, rules_of}
use Rattle.terms.proofs.Each.{each_at}
use Rattle.theory.specs.Legal.{Nonempty, RuleLegal, RulesLegal}

-- the parts of lawfulness
pub lawful_classes : (r : Row) → lawful r ≡ true → (r.left < 64) × (r.right < 64)
lawful_classes r h =
    let a = and_parts (kind_known r) _ h in
    let b = and_parts (classes_low r) _ a.1 in
    let p = and_parts (ltb r.left 64) (ltb r.right 64) b.0 in
    (ltb-true _ _ p.0, ltb-true _ _ p.1)

abbrev counted : ℕ → ℕ → Bool
counted kind n = cond (leb kind 2) (eqb n 0) (cond (leb kind 4) (eqb n 1) (leb 1 n && leb n 4))

pub lawful_feature : (r : Row) (kind : ℕ) → lawful r ≡ true → r.kind ≡ kind → (kind ≡ 3) ⊎ (kind ≡ 4) → feature_at r 0 < 16
lawful_feature r kind h e k =
    let a = and_parts (kind_known r) _ h in
    let b = and_parts (classes_low r) _ a.1 in
    let d = and_parts (features_low r) _ b.1 in
    let n : counted kind r.count ≡ true = ap (λ (x : ℕ). counted x r.count) (sym e) ∙ (and_parts (count_fits r) _ d.1).0 in
    let m : r.count ≡ 1 = elim k [ inl x ↦ eqb-true _ _ (ap (λ (y : ℕ). counted y r.count) (sym x) ∙ n) | inr x ↦ eqb-true _ _ (ap (λ (y : ℕ). counted y r.count) (sym x) ∙ n) ] in
    elim (or_cases _ _ (each_at (low_at r) 4 0 d.0 (omega arith))) [
      | inl x ↦ let z : r.count ≤ 0 = ltb-false _ _ (not-true _ x) in absurd (omega arith)
      | inr y ↦ ltb-true _ _ y
    ]

pub lawful_at : (rows : List Row) (n : ℕ) (d : Row) → all_lawful rows ≡ true → n < length rows → lawful (get_or rows n d) ≡ true
lawful_at [] n d h l = absurd (omega arith)
lawful_at (r ∷ rows) zero d h l = (and_parts (lawful r) (all_lawful rows) h).0
lawful_at (r ∷ rows) (suc n) d h l = lawful_at rows n d (and_parts (lawful r) (all_lawful rows) h).1 (omega arith)

lawful_in : (rows : List Row) (r : Row) → r ∈ rows → all_lawful rows ≡ true → lawful r ≡ true
lawful_in [] r m h = absurd (Memᴰ.not-nil m)
lawful_in (x ∷ rows) r m h =
    elim (Memᴰ.cases_cons m) [
      | inl e ↦ subst (λ (y : Row). lawful y ≡ true) (sym e) (and_parts (lawful x) (all_lawful rows) h).0
      | inr t ↦ lawful_in rows r t (and_parts (lawful x) (all_lawful rows) h).1
    ]

-- the rule of a row, by its kind
pub rule_1 : (r : Row) → r.kind ≡ 1 → rule_of r ≡ subclass r.left r.right
rule_1 r e = rw e

pub rule_2 : (r : Row) → r.kind ≡ 2 → rule_of r ≡ disjoint r.left r.right
rule_2 r e = rw e

pub rule_3 : (r : Row) → r.kind ≡ 3 → rule_of r ≡ value r.left (feature_at r 0) r.right
rule_3 r e = rw e

pub rule_4 : (r : Row) → r.kind ≡ 4 → rule_of r ≡ pullback (feature_at r 0) r.left r.right
rule_4 r e = rw e

rule_5 : (r : Row) → r.kind ≡ 5 → rule_of r ≡ key r.left r.right (features_from r 0 r.count)
rule_5 r e = rw e

-- the number of a kind
kind_number : (n : ℕ) (k : RowKind) → row_kind n ≡ Ok k → n ≡ row_number k
kind_number n Subclass e = grind (arith, nat_tests)
kind_number n Exclusion e = grind (arith, nat_tests)
kind_number n Value e = grind (arith, nat_tests)
kind_number n Pullback e = grind (arith, nat_tests)
kind_number n Key e = grind (arith, nat_tests)

-- what trying a row's kind says of its number
pub kind_is : (r : Row) {found : Result RowKind Refusal} {k m : RowKind} → found ≡ row_kind r.kind → found ≡ Ok k → k ≡ m → r.kind ≡ row_number m
kind_is r {k = k} f o e = kind_number r.kind k (sym f ∙ o) ∙ ap row_number e

-- any other kind says nothing of classes alone
pub record Silent (y : Rule) : Type 0 where
  pub no_sub : (A B : ℕ) → subclass A B ≡ y → ⊥
  pub no_val : (A f B : ℕ) → value A f B ≡ y → ⊥
  pub no_pull : (f A B : ℕ) → pullback f A B ≡ y → ⊥

key_silent : (A B : ℕ) (fs : List ℕ) → Silent (key A B fs)
key_silent A B fs = record {
  no_sub = λ C D e. cc;
  no_val = λ C f D e. cc;
  no_pull = λ f C D e. cc;
}

disjoint_silent : (A B : ℕ) → Silent (disjoint A B)
disjoint_silent A B = record {
  no_sub = λ C D e. cc;
  no_val = λ C f D e. cc;
  no_pull = λ f C D e. cc;
}

pub exclusion_silent : (r : Row) → r.kind ≡ 2 → Silent (rule_of r)
exclusion_silent r e = subst Silent (sym (rule_2 r e)) (disjoint_silent r.left r.right)

pub keyed_silent : (r : Row) → r.kind ≡ 5 → Silent (rule_of r)
keyed_silent r e = subst Silent (sym (rule_5 r e)) (key_silent r.left r.right (features_from r 0 r.count))

pub rule_silent : (r : Row) → eqb r.kind 1 ≡ false → eqb r.kind 3 ≡ false → eqb r.kind 4 ≡ false → Silent (rule_of r)
rule_silent r a b d =
    rw a (elim (cases_Bool (eqb r.kind 2)) [
      | inl e ↦ rw e (disjoint_silent r.left r.right)
      | inr e ↦ rw e (rw b (rw d (key_silent r.left r.right (features_from r 0 r.count))))
    ])

-- the features in use of a lawful row are low
features_in : (r : Row) (n k f : ℕ) → k + n ≤ r.count → r.count ≤ 4 → features_low r ≡ true → f ∈ features_from r k n → f < 16
features_in r zero k f a b h m = absurd (Memᴰ.not-nil m)
features_in r (suc n) k f a b h m =
    elim (Memᴰ.cases_cons m) [
      | inl e ↦
          elim (or_cases _ _ (each_at (low_at r) 4 k h (omega arith))) [
            | inl x ↦ let z : r.count ≤ k = ltb-false _ _ (not-true _ x) in absurd (omega arith)
            | inr y ↦ let q = ltb-true _ _ y in omega arith
          ]
      | inr t ↦ features_in r n (suc k) f (omega arith) b h t
    ]

some_feature : (r : Row) (n k : ℕ) → 1 ≤ n → Nonempty (features_from r k n)
some_feature r zero k h = absurd (omega arith)
some_feature r (suc n) k h = tt

-- the kind of a lawful row
kind_in : (r : Row) → lawful r ≡ true → (k : RowKind) × (r.kind ≡ row_number k)
kind_in r g =
    let p = and_parts (leb 1 r.kind) (leb r.kind 5) (and_parts (kind_known r) _ g).0 in
    let l = leb-true _ _ p.0 in
    let h = leb-true _ _ p.1 in
    elim (cases_eq r.kind 1) [
      | inl e ↦ (Subclass, e)
      | inr n1 ↦
          elim (cases_eq r.kind 2) [
            | inl e ↦ (Exclusion, e)
            | inr n2 ↦
                elim (cases_eq r.kind 3) [
                  | inl e ↦ (Value, e)
                  | inr n3 ↦ elim (cases_eq r.kind 4) [ inl e ↦ (Pullback, e) | inr n4 ↦ (Key, omega arith) ]
                ]
          ]
    ]

-- the rule of a lawful row is within the limits
pub row_legal : (r : Row) → lawful r ≡ true → RuleLegal (rule_of r)
row_legal r g = let t = kind_in r g in by t.0 t.1
  where
    p : (r.left < 64) × (r.right < 64)
    p = lawful_classes r g

    by : (k : RowKind) → r.kind ≡ row_number k → RuleLegal (rule_of r)
    by Subclass e = subst RuleLegal (sym (rule_1 r e)) p
    by Exclusion e = subst RuleLegal (sym (rule_2 r e)) p
    by Value e = subst RuleLegal (sym (rule_3 r e)) (p.0, lawful_feature r 3 g e (inl refl), p.1)
    by Pullback e = subst RuleLegal (sym (rule_4 r e)) (lawful_feature r 4 g e (inr refl), p.0, p.1)
    by Key e =
        let l = and_parts (classes_low r) _ (and_parts (kind_known r) _ g).1 in
        let h = and_parts (features_low r) _ l.1 in
        let n : counted 5 r.count ≡ true = ap (λ (x : ℕ). counted x r.count) (sym e) ∙ (and_parts (count_fits r) _ h.1).0 in
        let q = and_parts (leb 1 r.count) (leb r.count 4) n in
        let least = leb-true _ _ q.0 in
        let most = leb-true _ _ q.1 in
        subst RuleLegal (sym (rule_5 r e))
        (p.0, p.1, (λ f m. features_in r r.count 0 f (omega arith) most h.0 m), some_feature r r.count 0 least)

pub rules_legal : (rows : List Row) → all_lawful rows ≡ true → RulesLegal (rules_of rows)
rules_legal rows h r m =
    let t = Memᴰ.of_map rule_of rows m in
    subst RuleLegal t.2 (row_legal t.0 (lawful_in rows t.0 t.1 h))

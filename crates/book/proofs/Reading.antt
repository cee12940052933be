-- What reading a table of exact class steps answers.
use Rattle.std.proofs.Common.{◌≡◌, ℕ, ◌<◌, ◌≤◌, Bool, true, cond, ◌&&◌, eqb, ltb, ◌⊎◌, ◌↔◌, List, [], sym, ap, ◌∙◌, inl, inr, arith}
use mathlib.Core.Bool.{Bool-set}
use mathlib.Core.Logic.{∥∥₁_elim, ∥∥₁_map}
use mathlib.Core.List.Memᴰ
use Rattle.std.proofs.lemmas.Bool.{and_parts, and_from, lt-ltb, ltb-true, ltb-false, eqb-true, eq-eqb, cases_Bool}
use Rattle.classes.specs.declared.ClassSet.{ClassSet}
use Rattle.classes.specs.Sets.{has, none}
use Rattle.classes.proofs.Members.{not_in_none}
use Rattle.terms.specs.Worlds.{Rule, rules_of}
use Rattle.terms.specs.Steps.{Within, Leads, itself, AlwaysWithin, AlwaysLeads}
use Rattle.theory.specs.Legal.{Legal, RulesLegal}
use Rattle.theory.specs.Tables.{Decided}
use Rattle.theory.specs.Theorems.{StepsMissNothing}
use Rattle.theory.proofs.Sound.{within_sound, leads_sound}
use Rattle.theory.proofs.Range.{within_range, leads_range}
use Rattle.theory.proofs.Alone.{steps_are_complete}
use Rattle.book.specs.declared.sealed.Book.{Book}
use Rattle.book.specs.Books.{rows_of}
use Rattle.book.specs.Tables.{set_at, table_at, At, Steps}
use Rattle.book.proofs.Legal.{rules_legal}

-- a number that is no class lies within none
pub within_none : (P : Type 0) (A B : ℕ) → 64 ≤ A → (has none B ≡ true) ↔ ((A < 64) × P)
within_none P A B high = (not_in_none B, (λ p. let z = p.0 in absurd (omega arith)))

-- the tables as tests at every number
abbrev within_test : List ClassSet → ℕ → ℕ → Bool
within_test w A B = cond (ltb A 64) (has (set_at w A) B) (eqb A B)

abbrev leads_test : List (List ClassSet) → ℕ → ℕ → ℕ → Bool
leads_test l A f B = (ltb A 64 && ltb f 16) && has (set_at (table_at l f) A) B

pub legal_rules : {R : List Rule} → RulesLegal R → Legal R []
legal_rules l = record { rules = l; facts = λ c m. absurd (Memᴰ.not-nil m) }

module _ {R : List Rule} {w : List ClassSet} {l : List (List ClassSet)} (legal : RulesLegal R) (s : Steps R w l) where
  within_decided : (A B : ℕ) → (within_test w A B ≡ true) ↔ Within R A B
  within_decided A B =
      elim (cases_Bool (ltb A 64)) [
        | inl e ↦
            let low = ltb-true _ _ e in
            let t : within_test w A B ≡ has (set_at w A) B = ap (λ (b : Bool). cond b (has (set_at w A) B) (eqb A B)) e in
            ((λ h. (s.within_is A B low).0 (sym t ∙ h)), (λ p. t ∙ (s.within_is A B low).1 p))
        | inr e ↦
            let high = ltb-false _ _ e in
            let t : within_test w A B ≡ eqb A B = ap (λ (b : Bool). cond b (has (set_at w A) B) (eqb A B)) e in (
              (λ h. alone A B (eqb-true A B (sym t ∙ h))),
              (λ p. t ∙ eq-eqb A B (elim (within_range legal p) [ inl q ↦ q | inr x ↦ let z = x.0 in absurd (omega arith) ])),
            )
      ]
    where
      alone : (A B : ℕ) → A ≡ B → Within R A B
      alone A B e = rw (sym e) itself

  leads_decided : (A f B : ℕ) → (leads_test l A f B ≡ true) ↔ Leads R A f B
  leads_decided A f B = (
    (λ h.
        let p = and_parts _ _ h in
        let q = and_parts _ _ p.0 in
        (s.leads_is A f B (ltb-true _ _ q.0) (ltb-true _ _ q.1)).0 p.1),
    (λ v.
        let t = leads_range legal v in
        and_from _ _ (and_from _ _ (lt-ltb _ _ t.0) (lt-ltb _ _ t.1)) ((s.leads_is A f B t.0 t.1).1 v)),
  )

  pub decided : Decided R (within_test w) (leads_test l)
  decided = record { within_is = within_decided; leads_is = leads_decided }

  pub complete : StepsMissNothing R
  complete = steps_are_complete R (within_test w) (leads_test l) (legal_rules legal) decided

module _ (b : Book) where
  abbrev R : List Rule
  R = rules_of (rows_of b)

  abbrev w : List ClassSet
  w = b.tables.within

  abbrev l : List (List ClassSet)
  l = b.tables.leads

  legal : RulesLegal R
  legal = rules_legal (rows_of b) b.lawful

  pub within_answer : (A B : ℕ) → A < 64 → At w A B ↔ ((A < 64) × ∥ Within R A B ∥₁)
  within_answer A B low = (
    (λ h. (low, ∥∥₁_map b.steps (λ t. (t.within_is A B low).0 h))),
    (λ p. ∥∥₁_elim p.1 (Bool-set _ _) (λ v. ∥∥₁_elim b.steps (Bool-set _ _) (λ t. (t.within_is A B low).1 v))),
  )

  pub within_certain : (A B : ℕ) → A < 64 → At w A B ↔ ((A < 64) × AlwaysWithin R A B)
  within_certain A B low = (
    (λ a. (low, λ W k x h. ∥∥₁_elim b.steps (Bool-set _ _) (λ t. within_sound W k ((t.within_is A B low).0 a) x h))),
    (λ p. ∥∥₁_elim b.steps (Bool-set _ _) (λ t. (t.within_is A B low).1 ((complete legal t).within A B p.1))),
  )

  pub leads_answer : (A f B : ℕ) → A < 64 → f < 16 → At (table_at l f) A B ↔ ∥ Leads R A f B ∥₁
  leads_answer A f B a h = (
    (λ k. ∥∥₁_map b.steps (λ t. (t.leads_is A f B a h).0 k)),
    (λ p. ∥∥₁_elim p (Bool-set _ _) (λ v. ∥∥₁_elim b.steps (Bool-set _ _) (λ t. (t.leads_is A f B a h).1 v))),
  )

  pub leads_certain : (A f B : ℕ) → A < 64 → f < 16 → At (table_at l f) A B ↔ AlwaysLeads R A f B
  leads_certain A f B a h = (
    (λ y W k x i. ∥∥₁_elim b.steps (Bool-set _ _) (λ t. leads_sound W k ((t.leads_is A f B a h).0 y) x i)),
    (λ p. ∥∥₁_elim b.steps (Bool-set _ _) (λ t. (t.leads_is A f B a h).1 ((complete legal t).leads A f B p))),
  )

  -- what is no class or no feature leads nowhere
  nowhere : (A f B : ℕ) → (64 ≤ A) ⊎ (16 ≤ f) → Leads R A f B → has none B ≡ true
  nowhere A f B high v =
      let z = leads_range legal v in elim high [ inl x ↦ absurd (omega arith) | inr x ↦ absurd (omega arith) ]

  pub leads_none : (A f B : ℕ) → (64 ≤ A) ⊎ (16 ≤ f) → (has none B ≡ true) ↔ ∥ Leads R A f B ∥₁
  leads_none A f B high = (not_in_none B, (λ p. ∥∥₁_elim p (Bool-set _ _) (nowhere A f B high)))

  pub leads_none_certain : (A f B : ℕ) → (64 ≤ A) ⊎ (16 ≤ f) → (has none B ≡ true) ↔ AlwaysLeads R A f B
  leads_none_certain A f B high =
      (not_in_none B, (λ p. ∥∥₁_elim b.steps (Bool-set _ _) (λ t. nowhere A f B high ((complete legal t).leads A f B p))))

-- The class steps of the books of the worked cases, decided.
use Rattle.std.proofs.Common.{◌≡◌, ℕ, Bool, true, false, ◌&&◌, ◌||◌, eqb, ◌⊎◌, ◌↔◌, List, sym, refl, ◌∙◌, subst, inl, inr, arith}
use mathlib.Core.Bool.{false≢true}
use Rattle.std.proofs.lemmas.Bool.{and_from, and_parts, or_cases, or_left, or_right, eqb-true, eq-eqb}
use Rattle.terms.specs.Worlds.{◌∈◌, Rule, subclass, disjoint, value, pullback, key, rules_of}
use Rattle.terms.specs.Steps.{Within, itself, by_rule, chained, pulled, Leads, by_value, widened}
use Rattle.theory.specs.Legal.{Nonempty}
use Rattle.theory.specs.Tables.{Decided}
use Rattle.theory.specs.Cases.{chain_rows, fork_rows, key_rows}
use Rattle.terms.specs.Examples.{example_rows}
use Rattle.theory.proofs.Places.{each, is_first, is_second, is_third}

-- a test says yes exactly when P holds
abbrev pub Tells : Bool → Type 0 → Type 0
Tells b P = (b ≡ true) ↔ P

pub tells_eq : (m n : ℕ) → Tells (eqb m n) (m ≡ n)
tells_eq m n = (eqb-true m n, eq-eqb m n)

pub tells_and : (a b : Bool) {P Q : Type 0} → Tells a P → Tells b Q → Tells (a && b) (P × Q)
tells_and a b s t = (λ h. let r = and_parts a b h in (s.0 r.0, t.0 r.1), λ h. and_from a b (s.1 h.0) (t.1 h.1))

pub tells_or : (a b : Bool) {P Q : Type 0} → Tells a P → Tells b Q → Tells (a || b) (P ⊎ Q)
tells_or a b {P} {Q} s t = (λ h. into (or_cases a b h), out)
  where
    into : (a ≡ true) ⊎ (b ≡ true) → P ⊎ Q
    into (inl h) = inl (s.0 h)
    into (inr h) = inr (t.0 h)

    out : P ⊎ Q → (a || b) ≡ true
    out (inl h) = or_left a b (s.1 h)
    out (inr h) = or_right a b (t.1 h)

-- the pair or the triple is the one told
abbrev pub Two : ℕ → ℕ → ℕ → ℕ → Type 0
Two a b p q = (p ≡ a) × (q ≡ b)

abbrev pub Three : ℕ → ℕ → ℕ → ℕ → ℕ → ℕ → Type 0
Three a b c p q r = (p ≡ a) × ((q ≡ b) × (r ≡ c))

abbrev pub is_two : ℕ → ℕ → ℕ → ℕ → Bool
is_two a b p q = eqb p a && eqb q b

abbrev pub is_three : ℕ → ℕ → ℕ → ℕ → ℕ → ℕ → Bool
is_three a b c p q r = eqb p a && (eqb q b && eqb r c)

pub tells_two : (a b p q : ℕ) → Tells (is_two a b p q) (Two a b p q)
tells_two a b p q = tells_and _ _ (tells_eq p a) (tells_eq q b)

pub tells_three : (a b c p q r : ℕ) → Tells (is_three a b c p q r) (Three a b c p q r)
tells_three a b c p q r = tells_and _ _ (tells_eq p a) (tells_and _ _ (tells_eq q b) (tells_eq r c))

pub at_two : (P : ℕ → ℕ → Type 0) (a b p q : ℕ) → P a b → Two a b p q → P p q
at_two P a b p q h e = subst (λ p. P p q) (sym e.0) (subst (P a) (sym e.1) h)

pub at_three : (P : ℕ → ℕ → ℕ → Type 0) (a b c p q r : ℕ) → P a b c → Three a b c p q r → P p q r
at_three P a b c p q r h e = subst (λ p. P p q r) (sym e.0) (at_two (P a) b c q r h e.1)

-- rules without subclasses and pullbacks, whose value rules are those of D and whose keys have the features K
abbrev pub Plain : (ℕ → ℕ → ℕ → Type 0) → (List ℕ → Type 0) → Rule → Type 0
Plain D K (subclass A B) = ⊥
Plain D K (disjoint A B) = Unit {0}
Plain D K (value A f B) = D A f B
Plain D K (pullback f A B) = ⊥
Plain D K (key A B fs) = K fs

abbrev pub NoKey : List ℕ → Type 0
NoKey fs = ⊥

module _ {R : List Rule} (D : ℕ → ℕ → ℕ → Type 0) (K : List ℕ → Type 0) (only : (r : Rule) → r ∈ R → Plain D K r) where
  mutual
    pub plain_within : {A B : ℕ} → Within R A B → A ≡ B
    plain_within itself = refl
    plain_within (by_rule m) = absurd (only _ m)
    plain_within (chained s t) = plain_within s ∙ plain_within t
    plain_within (pulled l m) = absurd (only _ m)

    pub plain_leads : {A f B : ℕ} → Leads R A f B → D A f B
    plain_leads (by_value m) = only _ m
    plain_leads {A} {f} {B} (widened {C = C} s d t) =
        subst (λ A. D A f B) (sym (plain_within s)) (subst (D C f) (plain_within t) (plain_leads d))

  plain_decided : (leads : ℕ → ℕ → ℕ → Bool) → ((A f B : ℕ) → Tells (leads A f B) (D A f B)) → ((A f B : ℕ) → D A f B → Leads R A f B) → Decided R eqb leads
  plain_decided leads t k = record {
    within_is = λ A B. (λ h. subst (Within R A) (eqb-true A B h) itself, λ s. eq-eqb A B (plain_within s));
    leads_is = λ A f B. (λ h. k A f B ((t A f B).0 h), λ s. (t A f B).1 (plain_leads s));
  }

-- the chain of two features
abbrev pub ChainLeads : ℕ → ℕ → ℕ → Type 0
ChainLeads A f B = Three 0 0 1 A f B ⊎ Three 1 1 2 A f B

abbrev pub chain_leads : ℕ → ℕ → ℕ → Bool
chain_leads A f B = is_three 0 0 1 A f B || is_three 1 1 2 A f B

pub chain_only : (r : Rule) → r ∈ rules_of chain_rows → Plain ChainLeads NoKey r
chain_only = each (Plain ChainLeads NoKey) (rules_of chain_rows) (inl (refl, (refl, refl)), (inr (refl, (refl, refl)), (tt, tt)))

pub chain_known : (A f B : ℕ) → ChainLeads A f B → Leads (rules_of chain_rows) A f B
chain_known A f B (inl e) = at_three (Leads (rules_of chain_rows)) 0 0 1 A f B (by_value is_first) e
chain_known A f B (inr e) = at_three (Leads (rules_of chain_rows)) 1 1 2 A f B (by_value is_second) e

pub chain_decided : Decided (rules_of chain_rows) eqb chain_leads
chain_decided = plain_decided ChainLeads NoKey chain_only chain_leads (λ A f B. tells_or _ _ (tells_three 0 0 1 A f B) (tells_three 1 1 2 A f B)) chain_known

-- two values that exclude each other
abbrev pub ForkLeads : ℕ → ℕ → ℕ → Type 0
ForkLeads A f B = Three 0 0 2 A f B ⊎ Three 1 0 3 A f B

abbrev pub fork_leads : ℕ → ℕ → ℕ → Bool
fork_leads A f B = is_three 0 0 2 A f B || is_three 1 0 3 A f B

pub fork_only : (r : Rule) → r ∈ rules_of fork_rows → Plain ForkLeads NoKey r
fork_only = each (Plain ForkLeads NoKey) (rules_of fork_rows) (inl (refl, (refl, refl)), (inr (refl, (refl, refl)), (tt, tt)))

pub fork_known : (A f B : ℕ) → ForkLeads A f B → Leads (rules_of fork_rows) A f B
fork_known A f B (inl e) = at_three (Leads (rules_of fork_rows)) 0 0 2 A f B (by_value is_first) e
fork_known A f B (inr e) = at_three (Leads (rules_of fork_rows)) 1 0 3 A f B (by_value is_second) e

pub fork_decided : Decided (rules_of fork_rows) eqb fork_leads
fork_decided = plain_decided ForkLeads NoKey fork_only fork_leads (λ A f B. tells_or _ _ (tells_three 0 0 2 A f B) (tells_three 1 0 3 A f B)) fork_known

-- the key alone has no class step
abbrev pub NoLeads : ℕ → ℕ → ℕ → Type 0
NoLeads A f B = ⊥

abbrev pub no_leads : ℕ → ℕ → ℕ → Bool
no_leads A f B = false

pub key_only : (r : Rule) → r ∈ rules_of key_rows → Plain NoLeads Nonempty r
key_only = each (Plain NoLeads Nonempty) (rules_of key_rows) (tt, tt)

pub key_decided : Decided (rules_of key_rows) eqb no_leads
key_decided = plain_decided NoLeads Nonempty key_only no_leads (λ A f B. (false≢true, λ e. absurd e)) (λ A f B e. absurd e)

-- the small example
abbrev pub ExampleWithin : ℕ → ℕ → Type 0
ExampleWithin A B = (A ≡ B) ⊎ (Two 1 2 A B ⊎ Two 0 3 A B)

abbrev pub ExampleLeads : ℕ → ℕ → ℕ → Type 0
ExampleLeads A f B = Three 0 0 1 A f B ⊎ Three 0 0 2 A f B

abbrev pub example_within : ℕ → ℕ → Bool
example_within A B = eqb A B || (is_two 1 2 A B || is_two 0 3 A B)

abbrev pub example_leads : ℕ → ℕ → ℕ → Bool
example_leads A f B = is_three 0 0 1 A f B || is_three 0 0 2 A f B

abbrev ExampleRule : Rule → Type 0
ExampleRule (subclass A B) = Two 1 2 A B
ExampleRule (disjoint A B) = Unit {0}
ExampleRule (value A f B) = Three 0 0 1 A f B
ExampleRule (pullback f A B) = Three 0 2 3 f A B
ExampleRule (key A B fs) = ⊥

example_only : (r : Rule) → r ∈ rules_of example_rows → ExampleRule r
example_only = each ExampleRule (rules_of example_rows) ((refl, (refl, refl)), ((refl, refl), ((refl, (refl, refl)), (tt, tt))))

within_chain : {A B C : ℕ} → ExampleWithin A B → ExampleWithin B C → ExampleWithin A C
within_chain (inl e) (inl e') = inl (e ∙ e')
within_chain (inl e) (inr (inl h)) = inr (inl (omega arith))
within_chain (inl e) (inr (inr h)) = inr (inr (omega arith))
within_chain (inr (inl h)) (inl e) = inr (inl (omega arith))
within_chain (inr (inr h)) (inl e) = inr (inr (omega arith))
within_chain (inr (inl h)) (inr k) = absurd (omega arith)
within_chain (inr (inr h)) (inr k) = absurd (omega arith)

leads_chain : {A C f D B : ℕ} → ExampleWithin A C → ExampleLeads C f D → ExampleWithin D B → ExampleLeads A f B
leads_chain s (inl h) (inl e) = inl (omega arith)
leads_chain s (inl h) (inr (inl k)) = inr (omega arith)
leads_chain s (inl h) (inr (inr k)) = absurd (omega arith)
leads_chain s (inr h) (inl e) = inr (omega arith)
leads_chain s (inr h) (inr k) = absurd (omega arith)

mutual
  example_steps : {A B : ℕ} → Within (rules_of example_rows) A B → ExampleWithin A B
  example_steps itself = inl refl
  example_steps (by_rule m) = inr (inl (example_only _ m))
  example_steps (chained s t) = within_chain (example_steps s) (example_steps t)
  example_steps (pulled l m) = let a = example_led l in let b = example_only _ m in inr (inr (omega arith))

  example_led : {A f B : ℕ} → Leads (rules_of example_rows) A f B → ExampleLeads A f B
  example_led (by_value m) = inl (example_only _ m)
  example_led (widened s d t) = leads_chain (example_steps s) (example_led d) (example_steps t)

example_within_known : (A B : ℕ) → ExampleWithin A B → Within (rules_of example_rows) A B
example_within_known A B (inl e) = subst (Within (rules_of example_rows) A) e itself
example_within_known A B (inr (inl e)) = at_two (Within (rules_of example_rows)) 1 2 A B (by_rule is_second) e
example_within_known A B (inr (inr e)) = at_two (Within (rules_of example_rows)) 0 3 A B (pulled (widened itself (by_value is_first) (by_rule is_second)) is_third) e

example_leads_known : (A f B : ℕ) → ExampleLeads A f B → Leads (rules_of example_rows) A f B
example_leads_known A f B (inl e) = at_three (Leads (rules_of example_rows)) 0 0 1 A f B (by_value is_first) e
example_leads_known A f B (inr e) = at_three (Leads (rules_of example_rows)) 0 0 2 A f B (widened itself (by_value is_first) (by_rule is_second)) e

pub example_decided : Decided (rules_of example_rows) example_within example_leads
example_decided =
    let within-tells = λ (A B : ℕ). tells_or _ _ (tells_eq A B) (tells_or _ _ (tells_two 1 2 A B) (tells_two 0 3 A B)) in
    let leads-tells = λ (A f B : ℕ). tells_or _ _ (tells_three 0 0 1 A f B) (tells_three 0 0 2 A f B) in
    record {
      within_is = λ A B. (λ h. example_within_known A B ((within-tells A B).0 h), λ s. (within-tells A B).1 (example_steps s));
      leads_is = λ A f B. (λ h. example_leads_known A f B ((leads-tells A f B).0 h), λ s. (leads-tells A f B).1 (example_led s));
    }

-- Exact tables exist for the facts of every worked case.
use Rattle.std.proofs.Common.{◌≡◌, ℕ, ◌≤◌, Bool, true, false, cond, ◌||◌, eqb, ◌⊎◌, ◌↔◌, List, sym, refl, ap, ◌∙◌, subst, inl, inr, le_refl, arith}
use mathlib.Core.Bool.{false≢true}
use mathlib.Core.Option.{none, some, none-ne-some, some-injective}
use Rattle.std.proofs.lemmas.Bool.{eqb-true}
use Rattle.terms.specs.Worlds.{Rule, rules_of}
use Rattle.terms.specs.Steps.{Leads, by_value}
use Rattle.terms.specs.Facts.{Claim, in_class, value_at, one_object, claims_of}
use Rattle.terms.specs.Completed.{Known, told, same, turned, joined, class_shared, value_shared, one_value, class_up, class_along, class_back, keyed, Agree, on_none, on_one_more}
use Rattle.theory.specs.Legal.{Nonempty}
use Rattle.theory.specs.Tables.{Tables, Exact}
use Rattle.theory.specs.Cases.{chain_rows, fork_rows, key_rows, HasTables, told_value, two_classes, both_told, one_untold, CasesHaveTables}
use Rattle.theory.proofs.Alone.{alone, alone_exact}
use Rattle.theory.proofs.Places.{each, is_first, is_second, is_third, is_fourth}
use Rattle.theory.proofs.Small.{Tells, tells_or, Two, is_two, tells_two, at_two, NoKey, plain_within, plain_leads, ChainLeads, chain_leads, chain_only, chain_decided, ForkLeads, fork_leads, fork_only, fork_decided, NoLeads, no_leads, key_only, key_decided, example_within, example_leads, example_decided}

cond_some : (b : Bool) (n v : ℕ) → cond b (some n) none ≡ some v → (b ≡ true) × (n ≡ v)
cond_some true n v e = (refl, some-injective n v e)
cond_some false n v e = absurd (none-ne-some v e)

-- tables in which all told values are the part n
abbrev to_one : (ℕ → ℕ → Bool) → (ℕ → ℕ) → (ℕ → ℕ → Bool) → ℕ → (ℕ → ℕ → ℕ → Bool) → Tables
to_one has leader valued n leads = record { has = has; leader = leader; value_of = λ p f. cond (valued p f) (some n) none; leads = leads }

-- what there is to know of them
record Whole (R : List Rule) (F : List Claim) (has valued : ℕ → ℕ → Bool) (leader : ℕ → ℕ) (n : ℕ) (leads : ℕ → ℕ → ℕ → Bool) : Type 0 where
  in_is : (p A : ℕ) → Tells (has p A) (Known R F (in_class p A))
  leader_one : (p : ℕ) → Known R F (one_object p (leader p))
  leader_least : (p q : ℕ) → Known R F (one_object p q) → leader p ≤ q
  leader_self : leader n ≡ n
  valued_known : (p f : ℕ) → valued p f ≡ true → Known R F (value_at p f n)
  known_valued : (p f q : ℕ) → Known R F (value_at p f q) → (valued p f ≡ true) × (q ≡ n)
  led : (A f B : ℕ) → (leads A f B ≡ true) ↔ Leads R A f B

whole_exact : (R : List Rule) (F : List Claim) (has valued : ℕ → ℕ → Bool) (leader : ℕ → ℕ) (n : ℕ) (leads : ℕ → ℕ → ℕ → Bool)
    → Whole R F has valued leader n leads → Exact R F (to_one has leader valued n leads)
whole_exact R F has valued leader n leads h = record {
  has_is = h.in_is;
  leader_is = h.leader_one;
  leader_low = h.leader_least;
  value_is = λ p f v. (
    λ e. let r = cond_some (valued p f) n v e in (n, h.valued_known p f r.0, h.leader_self ∙ r.1),
    λ u. let r = h.known_valued p f u.0 u.1 in
        ap (λ b. cond b (some n) none) r.0 ∙ ap some (sym h.leader_self ∙ sym (ap leader r.1) ∙ u.2),
  );
  leads_is = h.led;
}

-- the chain, with a told value
abbrev ToldShape : Claim → Type 0
ToldShape (in_class p A) = Two 0 0 p A ⊎ Two 5 1 p A
ToldShape (value_at p f q) = Two 0 0 p f × (q ≡ 5)
ToldShape (one_object p q) = p ≡ q

told_shape : {c : Claim} → Known (rules_of chain_rows) (claims_of told_value) c → ToldShape c
told_shape (told {c = c} m) = each ToldShape (claims_of told_value) (inl (refl, refl), (((refl, refl), refl), tt)) c m
told_shape same = refl
told_shape (turned e) = sym (told_shape e)
told_shape (joined e e') = told_shape e ∙ told_shape e'
told_shape (class_shared {A = A} e h) = subst (λ p. ToldShape (in_class p A)) (told_shape e) (told_shape h)
told_shape (value_shared e h) = let a = told_shape e in let b = told_shape h in omega arith
told_shape (one_value g h) = let a = told_shape g in let b = told_shape h in omega arith
told_shape (class_up {p = p} h s) = subst (λ A. ToldShape (in_class p A)) (plain_within ChainLeads NoKey chain_only s) (told_shape h)
told_shape (class_along h d v) = let a = told_shape h in let b = plain_leads ChainLeads NoKey chain_only d in let e = told_shape v in inr (omega arith)
told_shape (class_back v h m) = absurd (chain_only _ m)
told_shape (keyed m g h a) = absurd (chain_only _ m)

abbrev told_has : ℕ → ℕ → Bool
told_has p A = is_two 0 0 p A || is_two 5 1 p A

told_in : (p A : ℕ) → Two 0 0 p A ⊎ Two 5 1 p A → Known (rules_of chain_rows) (claims_of told_value) (in_class p A)
told_in p A (inl e) = at_two (λ p A. Known (rules_of chain_rows) (claims_of told_value) (in_class p A)) 0 0 p A (told is_first) e
told_in p A (inr e) = at_two (λ p A. Known (rules_of chain_rows) (claims_of told_value) (in_class p A)) 5 1 p A (class_along (told is_first) (by_value is_first) (told is_second)) e

told_tables : HasTables chain_rows told_value
told_tables = (
  to_one told_has (λ p. p) (is_two 0 0) 5 chain_leads,
  whole_exact _ _ _ _ _ _ _ (record {
    in_is = λ p A. let t = tells_or _ _ (tells_two 0 0 p A) (tells_two 5 1 p A) in (λ h. told_in p A (t.0 h), λ k. t.1 (told_shape k));
    leader_one = λ p. same;
    leader_least = λ p q k. let e = told_shape k in omega arith;
    leader_self = refl;
    valued_known = λ p f h. at_two (λ p f. Known (rules_of chain_rows) (claims_of told_value) (value_at p f 5)) 0 0 p f (told is_second) ((tells_two 0 0 p f).0 h);
    known_valued = λ p f q k. let r = told_shape k in ((tells_two 0 0 p f).1 r.0, r.1);
    led = chain_decided.leads_is;
  }),
)

-- two classes of one part
abbrev PairShape : Claim → Type 0
PairShape (in_class p A) = Two 4 0 p A ⊎ Two 4 1 p A
PairShape (value_at p f q) = ⊥
PairShape (one_object p q) = p ≡ q

pair_shape : {c : Claim} → Known (rules_of fork_rows) (claims_of two_classes) c → PairShape c
pair_shape (told {c = c} m) = each PairShape (claims_of two_classes) (inl (refl, refl), (inr (refl, refl), tt)) c m
pair_shape same = refl
pair_shape (turned e) = sym (pair_shape e)
pair_shape (joined e e') = pair_shape e ∙ pair_shape e'
pair_shape (class_shared {A = A} e h) = subst (λ p. PairShape (in_class p A)) (pair_shape e) (pair_shape h)
pair_shape (value_shared e h) = absurd (pair_shape h)
pair_shape (one_value g h) = absurd (pair_shape g)
pair_shape (class_up {p = p} h s) = subst (λ A. PairShape (in_class p A)) (plain_within ForkLeads NoKey fork_only s) (pair_shape h)
pair_shape (class_along h d v) = absurd (pair_shape v)
pair_shape (class_back v h m) = absurd (fork_only _ m)
pair_shape (keyed m g h a) = absurd (fork_only _ m)

abbrev pair_has : ℕ → ℕ → Bool
pair_has p A = is_two 4 0 p A || is_two 4 1 p A

pair_in : (p A : ℕ) → Two 4 0 p A ⊎ Two 4 1 p A → Known (rules_of fork_rows) (claims_of two_classes) (in_class p A)
pair_in p A (inl e) = at_two (λ p A. Known (rules_of fork_rows) (claims_of two_classes) (in_class p A)) 4 0 p A (told is_first) e
pair_in p A (inr e) = at_two (λ p A. Known (rules_of fork_rows) (claims_of two_classes) (in_class p A)) 4 1 p A (told is_second) e

pair_tables : HasTables fork_rows two_classes
pair_tables = (
  to_one pair_has (λ p. p) (λ p f. false) 0 fork_leads,
  whole_exact (rules_of fork_rows) (claims_of two_classes) pair_has (λ p f. false) (λ p. p) 0 fork_leads (record {
    in_is = λ p A. let t = tells_or _ _ (tells_two 4 0 p A) (tells_two 4 1 p A) in (λ h. pair_in p A (t.0 h), λ k. t.1 (pair_shape k));
    leader_one = λ p. same;
    leader_least = λ p q k. let e = pair_shape k in omega arith;
    leader_self = refl;
    valued_known = λ p f h. absurd (false≢true h);
    known_valued = λ p f q k. absurd (pair_shape k);
    led = fork_decided.leads_is;
  }),
)

-- the key, with its value told at one part
abbrev UntoldShape : Claim → Type 0
UntoldShape (in_class p A) = Two 1 0 p A ⊎ Two 2 0 p A
UntoldShape (value_at p f q) = Two 1 0 p f × (q ≡ 9)
UntoldShape (one_object p q) = p ≡ q

mutual
  untold_shape : {c : Claim} → Known (rules_of key_rows) (claims_of one_untold) c → UntoldShape c
  untold_shape (told {c = c} m) = each UntoldShape (claims_of one_untold) (inl (refl, refl), (inr (refl, refl), (((refl, refl), refl), tt))) c m
  untold_shape same = refl
  untold_shape (turned e) = sym (untold_shape e)
  untold_shape (joined e e') = untold_shape e ∙ untold_shape e'
  untold_shape (class_shared {A = A} e h) = subst (λ p. UntoldShape (in_class p A)) (untold_shape e) (untold_shape h)
  untold_shape (value_shared e h) = let a = untold_shape e in let b = untold_shape h in omega arith
  untold_shape (one_value g h) = let a = untold_shape g in let b = untold_shape h in omega arith
  untold_shape (class_up {p = p} h s) = subst (λ A. UntoldShape (in_class p A)) (plain_within NoLeads Nonempty key_only s) (untold_shape h)
  untold_shape (class_along h d v) = absurd (plain_leads NoLeads Nonempty key_only d)
  untold_shape (class_back v h m) = absurd (key_only _ m)
  untold_shape (keyed m g h a) = let r = untold_agree a (key_only _ m) in omega arith

  untold_agree : {p q : ℕ} {fs : List ℕ} → Agree (rules_of key_rows) (claims_of one_untold) p q fs → Nonempty fs → (p ≡ 1) × (q ≡ 1)
  untold_agree on_none h = absurd h
  untold_agree (on_one_more v v' e a) h = ((untold_shape v).0.0, (untold_shape v').0.0)

abbrev key_has : ℕ → ℕ → Bool
key_has p A = is_two 1 0 p A || is_two 2 0 p A

untold_in : (p A : ℕ) → Two 1 0 p A ⊎ Two 2 0 p A → Known (rules_of key_rows) (claims_of one_untold) (in_class p A)
untold_in p A (inl e) = at_two (λ p A. Known (rules_of key_rows) (claims_of one_untold) (in_class p A)) 1 0 p A (told is_first) e
untold_in p A (inr e) = at_two (λ p A. Known (rules_of key_rows) (claims_of one_untold) (in_class p A)) 2 0 p A (told is_second) e

untold_tables : HasTables key_rows one_untold
untold_tables = (
  to_one key_has (λ p. p) (is_two 1 0) 9 no_leads,
  whole_exact _ _ _ _ _ _ _ (record {
    in_is = λ p A. let t = tells_or _ _ (tells_two 1 0 p A) (tells_two 2 0 p A) in (λ h. untold_in p A (t.0 h), λ k. t.1 (untold_shape k));
    leader_one = λ p. same;
    leader_least = λ p q k. let e = untold_shape k in omega arith;
    leader_self = refl;
    valued_known = λ p f h. at_two (λ p f. Known (rules_of key_rows) (claims_of one_untold) (value_at p f 9)) 1 0 p f (told is_third) ((tells_two 1 0 p f).0 h);
    known_valued = λ p f q k. let r = untold_shape k in ((tells_two 1 0 p f).1 r.0, r.1);
    led = key_decided.leads_is;
  }),
)

-- the key, with its value told at both parts: part 1 leads 2
abbrev agreed_leader : ℕ → ℕ
agreed_leader p = cond (eqb p 2) 1 p

abbrev AgreedShape : Claim → Type 0
AgreedShape (in_class p A) = Two 1 0 (agreed_leader p) A
AgreedShape (value_at p f q) = Two 1 0 (agreed_leader p) f × (q ≡ 9)
AgreedShape (one_object p q) = agreed_leader p ≡ agreed_leader q

agreed_shape : {c : Claim} → Known (rules_of key_rows) (claims_of both_told) c → AgreedShape c
agreed_shape (told {c = c} m) = each AgreedShape (claims_of both_told) ((refl, refl), ((refl, refl), (((refl, refl), refl), (((refl, refl), refl), tt)))) c m
agreed_shape same = refl
agreed_shape (turned e) = sym (agreed_shape e)
agreed_shape (joined e e') = agreed_shape e ∙ agreed_shape e'
agreed_shape (class_shared e h) = (sym (agreed_shape e) ∙ (agreed_shape h).0, (agreed_shape h).1)
agreed_shape (value_shared e h) = let b = agreed_shape h in ((sym (agreed_shape e) ∙ b.0.0, b.0.1), b.1)
agreed_shape (one_value g h) = ap agreed_leader ((agreed_shape g).1 ∙ sym (agreed_shape h).1)
agreed_shape (class_up {p = p} h s) = subst (λ A. AgreedShape (in_class p A)) (plain_within NoLeads Nonempty key_only s) (agreed_shape h)
agreed_shape (class_along h d v) = absurd (plain_leads NoLeads Nonempty key_only d)
agreed_shape (class_back v h m) = absurd (key_only _ m)
agreed_shape (keyed m g h a) = (agreed_shape g).0 ∙ sym (agreed_shape h).0

abbrev agreed_has : ℕ → ℕ → Bool
agreed_has p A = is_two 1 0 (agreed_leader p) A

two_is_one : Known (rules_of key_rows) (claims_of both_told) (one_object 2 1)
two_is_one = keyed is_first (told is_second) (told is_first) (on_one_more (told is_fourth) (told is_third) same on_none)

agreed_lead : (p : ℕ) (b : Bool) → eqb p 2 ≡ b → Known (rules_of key_rows) (claims_of both_told) (one_object p (cond b 1 p))
agreed_lead p true e = subst (λ p. Known (rules_of key_rows) (claims_of both_told) (one_object p 1)) (sym (eqb-true p 2 e)) two_is_one
agreed_lead p false e = same

agreed_low : (p : ℕ) (b : Bool) → eqb p 2 ≡ b → cond b 1 p ≤ p
agreed_low p true e = let i = eqb-true p 2 e in omega arith
agreed_low p false e = le_refl p

-- a part that part 1 leads
led_by_one : (p : ℕ) → agreed_leader p ≡ 1 → Known (rules_of key_rows) (claims_of both_told) (one_object 1 p)
led_by_one p e = turned (subst (λ q. Known (rules_of key_rows) (claims_of both_told) (one_object p q)) e (agreed_lead p (eqb p 2) refl))

agreed_in : (p A : ℕ) → Two 1 0 (agreed_leader p) A → Known (rules_of key_rows) (claims_of both_told) (in_class p A)
agreed_in p A e = class_shared (led_by_one p e.0) (subst (λ A. Known (rules_of key_rows) (claims_of both_told) (in_class 1 A)) (sym e.1) (told is_first))

agreed_valued : (p f : ℕ) → Two 1 0 (agreed_leader p) f → Known (rules_of key_rows) (claims_of both_told) (value_at p f 9)
agreed_valued p f e = value_shared (led_by_one p e.0) (subst (λ f. Known (rules_of key_rows) (claims_of both_told) (value_at 1 f 9)) (sym e.1) (told is_third))

agreed_tables : HasTables key_rows both_told
agreed_tables = (
  to_one agreed_has agreed_leader agreed_has 9 no_leads,
  whole_exact _ _ _ _ _ _ _ (record {
    in_is = λ p A. let t = tells_two 1 0 (agreed_leader p) A in (λ h. agreed_in p A (t.0 h), λ k. t.1 (agreed_shape k));
    leader_one = λ p. agreed_lead p (eqb p 2) refl;
    leader_least = λ p q k. let e = agreed_shape k in let i = agreed_low q (eqb q 2) refl in omega arith;
    leader_self = refl;
    valued_known = λ p f h. agreed_valued p f ((tells_two 1 0 (agreed_leader p) f).0 h);
    known_valued = λ p f q k. let r = agreed_shape k in ((tells_two 1 0 (agreed_leader p) f).1 r.0, r.1);
    led = key_decided.leads_is;
  }),
)

pub cases_have_tables : CasesHaveTables
cases_have_tables = record {
  clash_at_part = (alone 7 0 example_within example_leads, alone_exact 7 0 example_within example_leads example_decided);
  clash_along_word = (alone 0 0 eqb chain_leads, alone_exact 0 0 eqb chain_leads chain_decided);
  clash_after_value = told_tables;
  clash_of_two = pair_tables;
  one_class = (alone 4 0 eqb fork_leads, alone_exact 4 0 eqb fork_leads fork_decided);
  agreed = agreed_tables;
  untold = untold_tables;
}

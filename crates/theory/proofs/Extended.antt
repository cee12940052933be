-- Tables that are exact below the limits, read at every number, are exact.
use Rattle.std.proofs.Common.{◌≡◌, ℕ, ◌<◌, ◌≤◌, Bool, true, false, cond, ◌&&◌, ltb, ◌↔◌, List, sym, refl, ◌∙◌, arith}
use mathlib.Core.Option.{Option, none, some, none-ne-some}
use Rattle.std.proofs.lemmas.Bool.{and_from, and_parts, ltb-true, ltb-false, lt-ltb, cond-true}
use Rattle.terms.specs.Worlds.{Rule}
use Rattle.terms.specs.Steps.{Leads}
use Rattle.terms.specs.Facts.{Claim, in_class, value_at, one_object}
use Rattle.terms.specs.Completed.{Known, same}
use Rattle.theory.specs.Legal.{Legal}
use Rattle.theory.specs.Tables.{Tables, Exact, ExactBelow, extended}
use Rattle.theory.specs.Theorems.{BelowIsEnough}
use Rattle.theory.proofs.Range.{leads_range, known_range}

cond_some : (b : Bool) (o : Option ℕ) (v : ℕ) → cond b o none ≡ some v → (b ≡ true) × (o ≡ some v)
cond_some true o v e = (refl, e)
cond_some false o v e = absurd (none-ne-some v e)

ltb_and : (a b m n : ℕ) → (ltb a m && ltb b n) ≡ true → (a < m) × (b < n)
ltb_and a b m n h = let r = and_parts (ltb a m) (ltb b n) h in (ltb-true a m r.0, ltb-true b n r.1)

and_ltb : {a b m n : ℕ} → a < m → b < n → (ltb a m && ltb b n) ≡ true
and_ltb h k = and_from _ _ (lt-ltb _ _ h) (lt-ltb _ _ k)

module _ {R : List Rule} {F : List Claim} {t : Tables} (l : Legal R F) (y : ExactBelow R F t) where
  lead_in : (p : ℕ) → p < 256 → (extended t).leader p ≡ t.leader p
  unfolding extended
  lead_in p h = cond-true _ _ _ (lt-ltb p 256 h)

  has_extends : (p A : ℕ) → ((extended t).has p A ≡ true) ↔ Known R F (in_class p A)
  unfolding extended
  has_extends p A = (
    λ h. let r = and_parts (ltb p 256 && ltb A 64) (t.has p A) h in
        let s = ltb_and p A 256 64 r.0 in
        (y.has_is p A s.0 s.1).0 r.1,
    λ k. let r = known_range l k in and_from _ _ (and_ltb r.0 r.1) ((y.has_is p A r.0 r.1).1 k),
  )

  leads_extends : (A f B : ℕ) → ((extended t).leads A f B ≡ true) ↔ Leads R A f B
  unfolding extended
  leads_extends A f B = (
    λ h. let r = and_parts ((ltb A 64 && ltb f 16) && ltb B 64) (t.leads A f B) h in
        let s = and_parts (ltb A 64 && ltb f 16) (ltb B 64) r.0 in
        let u = ltb_and A f 64 16 s.0 in
        (y.leads_is A f B u.0 u.1 (ltb-true B 64 s.1)).0 r.1,
    λ k. let r = leads_range l.rules k in and_from _ _ (and_from _ _ (and_ltb r.0 r.1) (lt-ltb B 64 r.2)) ((y.leads_is A f B r.0 r.1 r.2).1 k),
  )

  leader_extends : (p : ℕ) → Known R F (one_object p ((extended t).leader p))
  unfolding extended
  leader_extends p = on (ltb p 256) refl
    where
      on : (b : Bool) → ltb p 256 ≡ b → Known R F (one_object p (cond b (t.leader p) p))
      on true e = y.leader_is p (ltb-true p 256 e)
      on false e = same

  low_extends : (p q : ℕ) → Known R F (one_object p q) → (extended t).leader p ≤ q
  unfolding extended
  low_extends p q k = on (ltb p 256) refl
    where
      on : (b : Bool) → ltb p 256 ≡ b → cond b (t.leader p) p ≤ q
      on true e = y.leader_low p q (ltb-true p 256 e) k
      on false e = let a = known_range l k in let b = ltb-false p 256 e in omega arith

  value_extends : (p f v : ℕ) → ((extended t).value_of p f ≡ some v) ↔ ((q : ℕ) × Known R F (value_at p f q) × ((extended t).leader q ≡ v))
  unfolding extended
  value_extends p f v = (
    λ h. let r = cond_some (ltb p 256 && ltb f 16) (t.value_of p f) v h in
        let s = ltb_and p f 256 16 r.0 in
        let u = (y.value_is p f v s.0 s.1).0 r.1 in
        (u.0, u.1, lead_in u.0 (known_range l u.1).2 ∙ u.2),
    λ u. let r = known_range l u.1 in
        cond-true _ _ _ (and_ltb r.0 r.1) ∙ (y.value_is p f v r.0 r.1).1 (u.0, u.1, sym (lead_in u.0 r.2) ∙ u.2),
  )

  pub extended_exact : Exact R F (extended t)
  extended_exact = record {
    has_is = has_extends;
    leader_is = leader_extends;
    leader_low = low_extends;
    value_is = value_extends;
    leads_is = leads_extends;
  }

pub below_is_enough : BelowIsEnough
below_is_enough R F t l y = extended_exact l y

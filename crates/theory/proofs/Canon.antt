-- The canonical world of exact tables: the objects are the leaders, and the words from a leader whose first value is not told.
use Rattle.std.proofs.Common.{◌≡◌, ℕ, Bool, true, false, cond, ◌&&◌, eqb, ◌⊎◌, List, [], ◌∷◌, ◌++◌, sym, refl, ap, ◌∙◌, subst, inl, inr}
use mathlib.Core.Bool.{false≢true}
use mathlib.Core.List.Memᴰ
use mathlib.Core.List.{nil≢cons, cons≢nil, head-eq_of_cons-eq, tail-eq_of_cons-eq, append_cancel_right, concat-ne-nil}
use mathlib.Core.Option.{Option, none, some, none-ne-some}
use Rattle.std.proofs.lemmas.Bool.{and_from, and_parts, eqb-true, eq-eqb}
use Rattle.terms.specs.Worlds.{◌∈◌, Rule, subclass, disjoint, value, pullback, key, Obj, World, Keeps, exclusion}
use Rattle.terms.specs.Steps.{by_rule, Leads, by_value}
use Rattle.terms.specs.Facts.{Claim, in_class, value_at, one_object, Holds, NearlyKeeps}
use Rattle.terms.specs.Completed.{Known, told, turned, class_shared, value_shared, class_up, class_along, class_back, keyed, Agree, on_none, on_one_more}
use Rattle.theory.specs.Tables.{Tables, Exact, step, steps}
use Rattle.theory.proofs.Range.{no_empty}
use Rattle.theory.specs.Legal.{RulesLegal}
use Rattle.theory.proofs.Steps.{Closed, step_in, steps_closed, step_back, leader_eq, leader_one, leader_twice, steps_snoc}

-- the value told at a leader; no other part has one here
abbrev pub tell : Tables → ℕ → ℕ → Option ℕ
tell t q f = cond (eqb (t.leader q) q) (t.value_of q f) none

-- the classes of a leader's object; no other part has any here
abbrev pub base : Tables → ℕ → ℕ → Bool
base t q A = eqb (t.leader q) q && t.has q A

abbrev pub next : ℕ → ℕ → Option ℕ → Obj
next q f none = q ∷ (f ∷ [])
next q f (some v) = v ∷ []

abbrev pub fresh : Option ℕ → Bool
fresh none = true
fresh (some v) = false

abbrev pub canon_feature : Tables → ℕ → Obj → Obj
canon_feature t f [] = []
canon_feature t f (q ∷ []) = next q f (tell t q f)
canon_feature t f (q ∷ (g ∷ w)) = q ∷ (g ∷ (w ++ (f ∷ [])))

abbrev pub canon_class : Tables → ℕ → Obj → Bool
canon_class t A [] = false
canon_class t A (q ∷ []) = base t q A
canon_class t A (q ∷ (f ∷ w)) = fresh (tell t q f) && steps t (base t q) (f ∷ w) A

abbrev pub canonical : Tables → World
canonical t = record { part = λ p. t.leader p ∷ []; feature = canon_feature t; class = canon_class t }

pub tell_some : (t : Tables) (q f v : ℕ) → tell t q f ≡ some v → (t.leader q ≡ q) × (t.value_of q f ≡ some v)
tell_some t q f v e = pick (eqb (t.leader q) q) refl e
  where
    pick : (b : Bool) → eqb (t.leader q) q ≡ b → cond b (t.value_of q f) none ≡ some v → (t.leader q ≡ q) × (t.value_of q f ≡ some v)
    pick true i e = (eqb-true _ _ i, e)
    pick false i e = absurd (none-ne-some v e)

pub tell_leader : (t : Tables) (q f : ℕ) → t.leader q ≡ q → tell t q f ≡ t.value_of q f
tell_leader t q f e = ap (λ b. cond b (t.value_of q f) none) (eq-eqb _ _ e)

module _ {R : List Rule} {F : List Claim} {t : Tables} (l : RulesLegal R) (x : Exact R F t) where
  -- a class of a part is one of its leader's object
  pub base_in : {p A : ℕ} → Known R F (in_class p A) → base t (t.leader p) A ≡ true
  base_in {p} {A} k = and_from _ _ (eq-eqb _ _ (leader_twice x p)) ((x.has_is (t.leader p) A).1 (class_shared (x.leader_is p) k))

  pub base_out : {q A : ℕ} → base t q A ≡ true → (t.leader q ≡ q) × Known R F (in_class q A)
  base_out {q} {A} h = let r = and_parts (eqb (t.leader q) q) (t.has q A) h in (eqb-true _ _ r.0, (x.has_is q A).0 r.1)

  base_closed : (q : ℕ) → Closed R (base t q)
  base_closed q A B h s = let r = base_out h in subst (λ p. base t p B ≡ true) r.0 (base_in (class_up r.1 s))

  -- what a told value is
  pub tell_out : {q f v : ℕ} → tell t q f ≡ some v → (u : ℕ) × Known R F (value_at q f u) × (t.leader u ≡ v)
  tell_out {q} {f} {v} e = (x.value_is q f v).0 (tell_some t q f v e).1

  up : (o : Obj) → Closed R (λ A. canon_class t A o)
  up [] A B h s = absurd (false≢true h)
  up (q ∷ []) A B h s = base_closed q A B h s
  up (q ∷ (f ∷ w)) A B h s =
      let r = and_parts (fresh (tell t q f)) (steps t (base t q) (f ∷ w) A) h in
      and_from _ _ r.0 (steps_closed l x (base t q) (base_closed q) (f ∷ w) A B r.1 s)

  forth_at : (q A f B : ℕ) → base t q A ≡ true → Leads R A f B → (o : Option ℕ) → tell t q f ≡ o → canon_class t B (next q f o) ≡ true
  forth_at q A f B h d none e = and_from _ _ (ap fresh e) (step_in l x (base t q) A f B h d)
  forth_at q A f B h d (some v) e =
      let r = tell_out e in
      subst (λ p. base t p B ≡ true) r.2 (base_in (class_along (base_out h).1 d r.1))

  forth : (o : Obj) (A f B : ℕ) → canon_class t A o ≡ true → Leads R A f B → canon_class t B (canon_feature t f o) ≡ true
  forth [] A f B h d = absurd (false≢true h)
  forth (q ∷ []) A f B h d = forth_at q A f B h d (tell t q f) refl
  forth (q ∷ (g ∷ w)) A f B h d =
      let r = and_parts (fresh (tell t q g)) (steps t (base t q) (g ∷ w) A) h in
      and_from _ _ r.0 (ap (λ S. S B) (steps_snoc t (step t (base t q) g) w f) ∙ step_in l x (steps t (base t q) (g ∷ w)) A f B r.1 d)

  back_at : (q f A B : ℕ) → pullback f A B ∈ R → (o : Option ℕ) → tell t q f ≡ o → canon_class t A (next q f o) ≡ true → base t q B ≡ true
  back_at q f A B m none e h = step_back l x (base t q) (base_closed q) f A B (and_parts _ _ h).1 m
  back_at q f A B m (some v) e h =
      let r = tell_out e in
      let i = (tell_some t q f v e).0 in
      let u = class_shared (turned (subst (λ v. Known R F (one_object r.0 v)) r.2 (x.leader_is r.0))) (base_out h).1 in
      subst (λ p. base t p B ≡ true) i (base_in (class_back r.1 u m))

  backs : (o : Obj) (f A B : ℕ) → pullback f A B ∈ R → canon_class t A (canon_feature t f o) ≡ true → canon_class t B o ≡ true
  backs [] f A B m h = absurd (false≢true h)
  backs (q ∷ []) f A B m h = back_at q f A B m (tell t q f) refl h
  backs (q ∷ (g ∷ w)) f A B m h =
      let r = and_parts (fresh (tell t q g)) (steps t (base t q) (g ∷ (w ++ (f ∷ []))) A) h in
      let s = sym (ap (λ S. S A) (steps_snoc t (step t (base t q) g) w f)) ∙ r.1 in
      and_from _ _ r.0 (step_back l x (steps t (base t q) (g ∷ w)) (steps_closed l x (base t q) (base_closed q) (g ∷ w)) f A B s m)

  -- two leaders are equal, or known to agree on the features
  abbrev Both : ℕ → ℕ → List ℕ → Type 0
  Both q q' fs = (q ≡ q') ⊎ Agree R F q q' fs

  agree_more : (q q' f : ℕ) (fs : List ℕ) (o o' : Option ℕ) → tell t q f ≡ o → tell t q' f ≡ o' → next q f o ≡ next q' f o' → Both q q' fs → Both q q' (f ∷ fs)
  agree_more q q' f fs o o' e e' i (inl j) = inl j
  agree_more q q' f fs none none e e' i (inr a) = inl (head-eq_of_cons-eq i)
  agree_more q q' f fs none (some v') e e' i (inr a) = absurd (cons≢nil (tail-eq_of_cons-eq i))
  agree_more q q' f fs (some v) none e e' i (inr a) = absurd (nil≢cons (tail-eq_of_cons-eq i))
  agree_more q q' f fs (some v) (some v') e e' i (inr a) =
      let r = tell_out e in
      let r' = tell_out e' in
      inr (on_one_more r.1 r'.1 (leader_one x (r.2 ∙ head-eq_of_cons-eq i ∙ sym r'.2)) a)

  agree_all : (q q' : ℕ) (fs : List ℕ) → ((f : ℕ) → f ∈ fs → canon_feature t f (q ∷ []) ≡ canon_feature t f (q' ∷ [])) → Both q q' fs
  agree_all q q' [] h = inr on_none
  agree_all q q' (f ∷ fs) h = agree_more q q' f fs (tell t q f) (tell t q' f) refl refl (h f (Memᴰ.head refl)) (agree_all q q' fs (λ g m. h g (Memᴰ.tail m)))

  not_tree : (q f q' g : ℕ) (w : List ℕ) (o : Option ℕ) → next q f o ≡ q' ∷ (g ∷ (w ++ (f ∷ []))) → ⊥
  not_tree q f q' g w none e = concat-ne-nil f w (sym (tail-eq_of_cons-eq (tail-eq_of_cons-eq e)))
  not_tree q f q' g w (some v) e = nil≢cons (tail-eq_of_cons-eq e)

  keys_at : (A B f : ℕ) (fs : List ℕ) → key A B (f ∷ fs) ∈ R → (o o' : Obj) → canon_class t A o ≡ true → canon_class t B o' ≡ true → ((g : ℕ) → g ∈ f ∷ fs → canon_feature t g o ≡ canon_feature t g o') → o ≡ o'
  keys_at A B f fs m [] o' h h' e = absurd (false≢true h)
  keys_at A B f fs m (q ∷ []) [] h h' e = absurd (false≢true h')
  keys_at A B f fs m (q ∷ []) (q' ∷ []) h h' e = pick (agree_all q q' (f ∷ fs) e)
    where
      pick : Both q q' (f ∷ fs) → Path Obj (q ∷ []) (q' ∷ [])
      pick (inl i) = ap (λ n. n ∷ []) i
      pick (inr a) =
          let r = base_out h in
          let r' = base_out h' in
          ap (λ n. n ∷ []) (sym r.0 ∙ leader_eq x (keyed m r.1 r'.1 a) ∙ r'.0)
  keys_at A B f fs m (q ∷ []) (q' ∷ (g ∷ w)) h h' e = absurd (not_tree q f q' g w (tell t q f) (e f (Memᴰ.head refl)))
  keys_at A B f fs m (q ∷ (g ∷ w)) [] h h' e = absurd (false≢true h')
  keys_at A B f fs m (q ∷ (g ∷ w)) (q' ∷ []) h h' e = absurd (not_tree q' f q g w (tell t q' f) (sym (e f (Memᴰ.head refl))))
  keys_at A B f fs m (q ∷ (g ∷ w)) (q' ∷ (g' ∷ w')) h h' e = append_cancel_right (q ∷ (g ∷ w)) (q' ∷ (g' ∷ w')) (f ∷ []) (e f (Memᴰ.head refl))

  keys : (A B : ℕ) (fs : List ℕ) → key A B fs ∈ R → Keeps (canonical t) (key A B fs)
  keys A B [] m = absurd (no_empty l A B m)
  keys A B (f ∷ fs) m = keys_at A B f fs m

  canon_rules : (r : Rule) → r ∈ R → exclusion r ≡ false → Keeps (canonical t) r
  canon_rules (subclass A B) m e = λ o h. up o A B h (by_rule m)
  canon_rules (disjoint A B) m e = absurd (false≢true (sym e))
  canon_rules (value A f B) m e = λ o h. forth o A f B h (by_value m)
  canon_rules (pullback f A B) m e = λ o h. backs o f A B m h
  canon_rules (key A B fs) m e = keys A B fs m

  told_at : (p f q : ℕ) → Known R F (value_at p f q) → (o : Option ℕ) → tell t (t.leader p) f ≡ o → next (t.leader p) f o ≡ t.leader q ∷ []
  told_at p f q k o e = ap (next (t.leader p) f) (sym e ∙ tell_leader t (t.leader p) f (leader_twice x p) ∙ (x.value_is (t.leader p) f (t.leader q)).1 (q, value_shared (x.leader_is p) k, refl))

  canon_facts : (c : Claim) → Known R F c → Holds (canonical t) c
  canon_facts (in_class p A) k = base_in k
  canon_facts (value_at p f q) k = told_at p f q k (tell t (t.leader p) f) refl
  canon_facts (one_object p q) k = ap (λ n. n ∷ []) (leader_eq x k)

  pub canon_nearly : NearlyKeeps R F (canonical t)
  canon_nearly = record { rules = canon_rules; facts = λ c m. canon_facts c (told m) }

-- What the tables say of a word is what every world has that keeps the facts and the rules but the exclusions.
use Rattle.std.proofs.Common.{◌≡◌, ℕ, Bool, true, ◌&&◌, ◌↔◌, List, [], ◌∷◌, ◌++◌, sym, refl, ap, ◌∙◌, subst, ap₂, append_assoc, append-nil}
use mathlib.Core.Path.{fun_ext}
use mathlib.Core.Bool.{false≢true}
use mathlib.Core.Logic.{∥∥₁_elim}
use mathlib.Core.HLevel.{⊥_prop}
use mathlib.Core.List.{head-eq_of_cons-eq}
use mathlib.Core.Option.{Option, none, some}
use Rattle.std.proofs.lemmas.Bool.{and_parts, eq-eqb}
use Rattle.terms.specs.Worlds.{◌∈◌, Rule, subclass, disjoint, value, pullback, key, Obj, World, In, Keeps, along, reach}
use Rattle.terms.specs.Facts.{Claim, KeepsBook, NearlyKeeps}
use Rattle.terms.specs.Verdicts.{Stands}
use Rattle.theory.specs.Tables.{Tables, Exact, step, steps, follow, member}
use Rattle.theory.specs.Paths.{Way, stay, go}
use Rattle.theory.specs.Theorems.{Canonical, CanonicalWorld, Answers}
use Rattle.theory.proofs.Canon.{tell, base, next, fresh, canon_class, canonical, tell_leader, base_out, tell_out, canon_nearly}
use Rattle.theory.proofs.Places.{at_mem, mem_at}
use Rattle.theory.specs.Legal.{RulesLegal}
use Rattle.theory.proofs.Sound.{nearly, way_sound, known_sound}
use Rattle.theory.proofs.Steps.{step_out, leader_one, leader_twice}

along_tree : (t : Tables) (q g : ℕ) (u w : List ℕ) → along (canonical t) w (q ∷ (g ∷ u)) ≡ q ∷ (g ∷ (u ++ w))
along_tree t q g u [] = ap (λ v. q ∷ (g ∷ v)) (sym (append-nil u))
along_tree t q g u (f ∷ w) = along_tree t q g (u ++ (f ∷ [])) w ∙ ap (λ v. q ∷ (g ∷ v)) (append_assoc u (f ∷ []) w)

fresh_none : (o : Option ℕ) → fresh o ≡ true → o ≡ none
fresh_none none h = refl
fresh_none (some v) h = absurd (false≢true h)

module _ {R : List Rule} {F : List Claim} {t : Tables} (l : RulesLegal R) (x : Exact R F t) where
  pub steps_way : (S : ℕ → Bool) (w : List ℕ) (B : ℕ) → steps t S w B ≡ true → (A : ℕ) × (S A ≡ true) × Way R A w B
  steps_way S [] B h = (B, h, stay)
  steps_way S (f ∷ w) B h =
      let r = steps_way (step t S f) w B h in
      let s = step_out l x S f r.0 r.1 in
      (s.0, s.1, go s.2 r.2)

  base_has : (q : ℕ) → t.leader q ≡ q → base t q ≡ t.has q
  base_has q e = fun_ext (λ A. ap (λ b. b && t.has q A) (eq-eqb _ _ e))

  -- the canonical world is as the tables say
  pub canon_follow : (w : List ℕ) (q A : ℕ) → t.leader q ≡ q → canon_class t A (along (canonical t) w (q ∷ [])) ≡ follow t q w A
  canon_follow [] q A e = ap (λ S. S A) (base_has q e)
  canon_follow (f ∷ w) q A e =
      ap (λ o. canon_class t A (along (canonical t) w (next q f o))) (tell_leader t q f e) ∙ on (λ v. canon_follow w v A) (t.value_of q f) (tell_leader t q f e)
    where
      on : ((v : ℕ) → t.leader v ≡ v → canon_class t A (along (canonical t) w (v ∷ [])) ≡ follow t v w A) → (o : Option ℕ) → tell t q f ≡ o → canon_class t A (along (canonical t) w (next q f o)) ≡ elim o [ some v ↦ follow t v w A | none ↦ steps t (t.has q) (f ∷ w) A ]
      on ih none i = ap (canon_class t A) (along_tree t q f [] w) ∙ ap₂ (λ b S. b && steps t S (f ∷ w) A) (ap fresh i) (base_has q e)
      on ih (some v) i = let r = tell_out l x i in ih v (subst (λ v. t.leader v ≡ v) r.2 (leader_twice x r.0))

  pub canon_member : (p : ℕ) (w : List ℕ) (A : ℕ) → canon_class t A (reach (canonical t) p w) ≡ member t p w A
  canon_member p w A = canon_follow w (t.leader p) A (leader_twice x p)

  pub follow_sound : {W : World} (k : NearlyKeeps R F W) (w : List ℕ) (p A : ℕ) → follow t p w A ≡ true → In W A (reach W p w)
  follow_sound k [] p A h = known_sound k ((x.has_is p A).0 h)
  follow_sound {W} k (f ∷ w) p A h = on (λ v. follow_sound k w v A) (t.value_of p f) refl h
    where
      on : ((v : ℕ) → follow t v w A ≡ true → In W A (reach W v w)) → (o : Option ℕ) → t.value_of p f ≡ o → elim o [ some v ↦ follow t v w A | none ↦ steps t (t.has p) (f ∷ w) A ] ≡ true → In W A (reach W p (f ∷ w))
      on ih none i h = let r = steps_way (t.has p) (f ∷ w) A h in way_sound W k.rules r.2 _ (known_sound k ((x.has_is p r.0).0 r.1))
      on ih (some v) i h =
          let r = (x.value_is p f v).0 i in
          let e = known_sound k (x.leader_is r.0) ∙ ap W.part r.2 in
          subst (λ o. In W A (along W w o)) (sym (known_sound k r.1 ∙ e)) (ih v h)

  -- the tables say yes exactly where every such world has the object in the class
  pub forced : (p : ℕ) (w : List ℕ) (A : ℕ) → (member t p w A ≡ true) ↔ ((W : World) → NearlyKeeps R F W → In W A (reach W p w))
  forced p w A = (
    λ h W k. subst (λ o. In W A (along W w o)) (sym (known_sound k (x.leader_is p))) (follow_sound k w (t.leader p) A h),
    λ h. sym (canon_member p w A) ∙ h (canonical t) (canon_nearly l x),
  )

  -- what is in a class of the canonical world is reached from a part
  pub reached : (o : Obj) (A : ℕ) → canon_class t A o ≡ true → (p : ℕ) × (w : List ℕ) × (reach (canonical t) p w ≡ o)
  reached [] A h = absurd (false≢true h)
  reached (q ∷ []) A h = (q, [], ap (λ n. n ∷ []) (base_out l x h).0)
  reached (q ∷ (f ∷ w)) A h =
      let r = and_parts (fresh (tell t q f)) (steps t (base t q) (f ∷ w) A) h in
      let s = steps_way (base t q) (f ∷ w) A r.1 in
      let e = (base_out l x s.1).0 in
      (q, f ∷ w, ap (λ n. along (canonical t) (f ∷ w) (n ∷ [])) e ∙ ap (λ o. along (canonical t) w (next q f o)) (fresh_none _ r.0) ∙ along_tree t q f [] w)

  -- where there is no clash the canonical world keeps the exclusions too
  pub canon_wholly : Stands R F → KeepsBook R F (canonical t)
  canon_wholly s = record { rules = rules; facts = (canon_nearly l x).facts }
    where
      rules : (r : Rule) → r ∈ R → Keeps (canonical t) r
      rules (subclass A B) m = (canon_nearly l x).rules _ m refl
      rules (value A f B) m = (canon_nearly l x).rules _ m refl
      rules (pullback f A B) m = (canon_nearly l x).rules _ m refl
      rules (key A B fs) m = (canon_nearly l x).rules _ m refl
      rules (disjoint A B) m = λ o h h'.
          let r = reached o A h in
          let i = mem_at R (disjoint A B) m in
          let say = λ (C : ℕ) (h : canon_class t C o ≡ true). (forced r.0 r.1 C).0 (sym (canon_member r.0 r.1 C) ∙ subst (λ o. canon_class t C o ≡ true) (sym r.2) h) in
          s r.0 r.1 i.0 (record { left = A; right = B; row = i.1; both = λ W k. (say A h W k, say B h' W k) })

  pub canonical_is : Canonical R F t (canonical t)
  canonical_is = record {
    nearly = canon_nearly l x;
    wholly = canon_wholly;
    member_is = λ p w A. (λ h. sym (canon_member p w A) ∙ h, λ h. canon_member p w A ∙ h);
    same_is = λ p q. (head-eq_of_cons-eq, ap (λ n. n ∷ []));
  }

  pub tables_answer : Answers R F t
  tables_answer = record {
    stands = (
      λ s. ∣ (canonical t, canon_wholly s) ∣₁,
      λ r p w i c. ∥∥₁_elim r ⊥_prop (λ k. let b = c.both k.0 (nearly k.1) in (k.1).rules _ (at_mem R i _ c.row) _ b.0 b.1),
    );
    member_is = λ s p w A. (
      λ h W k. (forced p w A).0 h W (nearly k),
      λ h. sym (canon_member p w A) ∙ h (canonical t) (canon_wholly s),
    );
    same_is = λ s p q. (
      λ e W k. known_sound (nearly k) (leader_one x e),
      λ h. head-eq_of_cons-eq (h (canonical t) (canon_wholly s)),
    );
  }

pub canonical_world : CanonicalWorld
canonical_world R F t l x = (canonical t, canonical_is l.rules x)

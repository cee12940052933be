-- Links: one row more.
use Rattle.std.proofs.Common.{◌≡◌, ◌≢◌, ℕ, zero, suc, ◌<◌, true, ◌&&◌, ◌||◌, eqb, ltb, ◌⊎◌, ◌↔◌, List, [], ◌∷◌, ◌++◌, length, get_or, set, replicate, sym, refl, ap, ◌∙◌, subst, inl, inr, arith}
use mathlib.Core.List.Memᴰ
use Rattle.std.proofs.lemmas.List.{get_or-set_same, get_or-set_other, get_or-replicate, length-set}
use Rattle.std.proofs.lemmas.Bool.{and_parts, and_from, lt-ltb, eqb-true, eq-eqb, or_cases, or_left, or_right, cases_eq}
use Rattle.classes.specs.declared.ClassSet.{ClassSet}
use Rattle.classes.specs.Sets.{has, none}
use Rattle.classes.proofs.Members.{not_in_none}
use Rattle.terms.specs.Worlds.{◌∈◌, Rule, subclass, value, pullback}
use Rattle.theory.specs.Legal.{RuleLegal, RulesLegal}
use Rattle.book.specs.Tables.{set_at, At}
use Rattle.book.specs.Sealing.{links_by, DirectBy, Direct}
use Rattle.book.specs.declared.links.FeatureLinks.{FeatureLinks}
use Rattle.book.specs.declared.links.Links.{Links}
use Rattle.book.proofs.Legal.{Silent}

-- a table of empty sets, at any place
pub none_at : (n i : ℕ) → set_at (replicate n none) i ≡ none
none_at zero i = refl
none_at (suc n) zero = refl
none_at (suc n) (suc i) = none_at n i

pub at_none : (n i B : ℕ) → At (replicate n none) i B → ⊥
at_none n i B h = not_in_none B (subst (λ (s : ClassSet). has s B ≡ true) (none_at n i) h)

pub none_legal : RulesLegal []
none_legal r m = absurd (Memᴰ.not-nil m)

-- the links of no rule
pub by_blank : (f : ℕ) → f < 16
    → DirectBy [] f (get_or (replicate 16 (record { ahead = replicate 64 none; behind = replicate 64 none })) f (record { ahead = []; behind = [] }))
by_blank f h = rw (get_or-replicate {A = FeatureLinks} 16 f (record { ahead = replicate 64 none; behind = replicate 64 none }) (record { ahead = []; behind = [] }) h) (record {
  ahead_is = λ A B _. ((λ x. absurd (at_none 64 A B x)), (λ m. absurd (Memᴰ.not-nil m)));
  behind_is = λ A B _. ((λ x. absurd (at_none 64 A B x)), (λ m. absurd (Memᴰ.not-nil m)));
  long_ahead = refl;
  long_behind = refl;
  legal = none_legal;
})

-- one class more in the set at a place
pub at_put : (t : List ClassSet) (i B : ℕ) (s : ClassSet) → i < length t → B < 64
    → ((k : ℕ) → has s k ≡ (has (set_at t i) k || (eqb k B && ltb k 64))) → (j k : ℕ) → At (set t i s) j k ↔ (At t j k ⊎ ((j ≡ i) × (k ≡ B)))
at_put t i B s l b h j k =
    elim (cases_eq j i) [
      | inl e ↦ (
        (λ a. elim (or_cases _ _ (sym (h k) ∙ (ap (λ (x : ClassSet). has x k) (sym (get_or-set_same t i s none l)) ∙ subst (λ (x : ℕ). At (set t i s) x k) e a)))
            [ inl x ↦ inl (subst (λ (y : ℕ). At t y k) (sym e) x) | inr x ↦ inr (e, eqb-true _ _ (and_parts _ _ x).0) ]),
        (λ a. subst (λ (y : ℕ). At (set t i s) y k) (sym e) (ap (λ (x : ClassSet). has x k) (get_or-set_same t i s none l) ∙ (h k ∙
            elim a [
              | inl x ↦ or_left _ _ (subst (λ (y : ℕ). At t y k) e x)
              | inr x ↦ or_right _ _ (and_from _ _ (eq-eqb _ _ x.1) (lt-ltb _ _ (let q = x.1 in omega arith)))
            ]))),
      )
      | inr ne ↦
          let o : set_at (set t i s) j ≡ set_at t j = get_or-set_other t i j s none ne in (
            (λ a. inl (ap (λ (x : ClassSet). has x k) (sym o) ∙ a)),
            (λ a. elim a [ inl x ↦ ap (λ (y : ClassSet). has y k) o ∙ x | inr x ↦ absurd (ne x.0) ]),
          )
    ]

-- one rule more
more : (R : List Rule) (x y : Rule) → (x ∈ R ++ y ∷ []) ↔ ((x ∈ R) ⊎ (x ≡ y))
more R x y = (
  (λ m. elim (Memᴰ.append_cases R m) [ inl a ↦ inl a | inr b ↦ inr (Memᴰ.eq_of_singleton b) ]),
  (λ e. elim e [ inl a ↦ Memᴰ.append_left (y ∷ []) a | inr b ↦ Memᴰ.append_right R (Memᴰ.head b) ]),
)

-- what the tables of b' hold besides those of b is what the rule y says along f
pub record AddsBy (y : Rule) (f : ℕ) (b b' : FeatureLinks) : Type 0 where
  pub ahead : (A B : ℕ) → A < 64 → At b'.ahead A B ↔ (At b.ahead A B ⊎ (value A f B ≡ y))
  pub behind : (A B : ℕ) → A < 64 → At b'.behind A B ↔ (At b.behind A B ⊎ (pullback f A B ≡ y))
  pub long_ahead : length b'.ahead ≡ length b.ahead
  pub long_behind : length b'.behind ≡ length b.behind

-- the same of all tables
pub record Adds (y : Rule) (l l' : Links) : Type 0 where
  pub above : (A B : ℕ) → A < 64 → At l'.above A B ↔ (At l.above A B ⊎ (subclass A B ≡ y))
  pub by : (f : ℕ) → f < 16 → AddsBy y f (links_by l f) (links_by l' f)
  pub into : (A f B : ℕ) → (At l.into B A ⊎ (value A f B ≡ y)) → At l'.into B A

through : {P P' Q Q' E : Type 0} → (P' ↔ (P ⊎ E)) → (P ↔ Q) → (Q' ↔ (Q ⊎ E)) → P' ↔ Q'
through a b c = (
  (λ p. c.1 (elim (a.0 p) [ inl x ↦ inl (b.0 x) | inr e ↦ inr e ])),
  (λ q. a.1 (elim (c.0 q) [ inl x ↦ inl (b.1 x) | inr e ↦ inr e ])),
)

direct_push : (R : List Rule) (y : Rule) (l l' : Links) → RuleLegal y → Adds y l l' → Direct R l → Direct (R ++ y ∷ []) l'
direct_push R y l l' g a d = record {
  above_is = λ A B h. through (a.above A B h) (d.above_is A B h) (more R (subclass A B) y);
  by_is = λ f k. let x = a.by f k in let b = d.by_is f k in record {
    ahead_is = λ A B h. through (x.ahead A B h) (b.ahead_is A B h) (more R (value A f B) y);
    behind_is = λ A B h. through (x.behind A B h) (b.behind_is A B h) (more R (pullback f A B) y);
    long_ahead = x.long_ahead ∙ b.long_ahead;
    long_behind = x.long_behind ∙ b.long_behind;
    legal = legal;
  };
  into_has = λ A f B m. a.into A f B (elim ((more R (value A f B) y).0 m) [ inl x ↦ inl (d.into_has A f B x) | inr e ↦ inr e ]);
  legal = legal;
}
  where
    legal : RulesLegal (R ++ y ∷ [])
    legal r m = elim ((more R r y).0 m) [ inl x ↦ d.legal r x | inr e ↦ subst RuleLegal (sym e) g ]

pub push_as : (R : List Rule) (y z : Rule) (l l' : Links) → z ≡ y → RuleLegal z → Adds y l l' → Direct R l → Direct (R ++ z ∷ []) l'
push_as R y z l l' e g a d = subst (λ (x : Rule). Direct (R ++ x ∷ []) l') (sym e) (direct_push R y l l' (subst RuleLegal e g) a d)

-- a table that stays as it is
kept : {P E : Type 0} → (E → ⊥) → P ↔ (P ⊎ E)
kept n = (inl, (λ e. elim e [ inl p ↦ p | inr x ↦ absurd (n x) ]))

-- links by a feature of which the rule says nothing
by_none : (y : Rule) (f : ℕ) (b : FeatureLinks) → ((A B : ℕ) → value A f B ≡ y → ⊥) → ((A B : ℕ) → pullback f A B ≡ y → ⊥) → AddsBy y f b b
by_none y f b n m = record { ahead = λ A B h. kept (n A B); behind = λ A B h. kept (m A B); long_ahead = refl; long_behind = refl }

pub adds_none : (y : Rule) (l : Links) → Silent y → Adds y l l
adds_none y l s = record {
  above = λ A B h. kept (s.no_sub A B);
  by = λ f h. by_none y f (links_by l f) (λ A B. s.no_val A f B) (λ A B. s.no_pull f A B);
  into = λ A f B e. elim e [ inl x ↦ x | inr x ↦ absurd (s.no_val A f B x) ];
}

either : {P E E' : Type 0} → (E ↔ E') → (P ⊎ E) ↔ (P ⊎ E')
either e = ((λ a. elim a [ inl p ↦ inl p | inr x ↦ inr (e.0 x) ]), (λ a. elim a [ inl p ↦ inl p | inr x ↦ inr (e.1 x) ]))

then : {P Q S : Type 0} → (P ↔ Q) → (Q ↔ S) → P ↔ S
then a b = ((λ p. b.0 (a.0 p)), (λ s. a.1 (b.1 s)))

-- the links by a feature after those by feature g have become b
by_put : (l : Links) (g : ℕ) (b : FeatureLinks) (y : Rule) → length l.by_feature ≡ 16 → g < 16 → AddsBy y g (links_by l g) b
    → ((f A B : ℕ) → f ≢ g → value A f B ≡ y → ⊥) → ((f A B : ℕ) → f ≢ g → pullback f A B ≡ y → ⊥)
    → (f : ℕ) → AddsBy y f (links_by l f) (get_or (set l.by_feature g b) f (record { ahead = []; behind = [] }))
by_put l g b y n h a nv np f =
    elim (cases_eq f g) [
      | inl e ↦ rw e (rw (get_or-set_same l.by_feature g b (record { ahead = []; behind = [] }) (omega arith)) a)
      | inr ne ↦ rw (get_or-set_other l.by_feature g f b (record { ahead = []; behind = [] }) ne)
          (by_none y f (links_by l f) (λ A B. nv f A B ne) (λ A B. np f A B ne))
    ]

module _ (l : Links) (L D : ℕ) (s : ClassSet) (ll : L < 64) (dl : D < 64) where
  pub adds_sub : length l.above ≡ 64 → ((k : ℕ) → has s k ≡ (has (set_at l.above L) k || (eqb k D && ltb k 64)))
      → Adds (subclass L D) l (record { above = set l.above L s; by_feature = l.by_feature; into = l.into })
  adds_sub n h = record {
    above = λ A B _. then (at_put l.above L D s (omega arith) dl h A B)
        (either ((λ p. let a = p.0 in let b = p.1 in cc), (λ e. let a : A ≡ L = cc in let b : B ≡ D = cc in (a, b))));
    by = λ f _. by_none (subclass L D) f (links_by l f) (λ A B e. cc) (λ A B e. cc);
    into = λ A f B e. elim e [ inl x ↦ x | inr e ↦ cc ];
  }

  pub adds_pull : (g : ℕ) → g < 16 → length l.by_feature ≡ 16 → length (links_by l g).behind ≡ 64
      → ((k : ℕ) → has s k ≡ (has (set_at (links_by l g).behind L) k || (eqb k D && ltb k 64)))
      → Adds (pullback g L D) l (record { above = l.above; by_feature = set l.by_feature g (record { ahead = (links_by l g).ahead; behind = set (links_by l g).behind L s }); into = l.into })
  adds_pull g gl n m h = record {
    above = λ A B _. kept (λ e. cc);
    by = λ f _. by_put l g (record { ahead = (links_by l g).ahead; behind = set (links_by l g).behind L s }) (pullback g L D) n gl
        (record {
          ahead = λ A B _. kept (λ e. cc);
          behind = λ A B _. then (at_put (links_by l g).behind L D s (omega arith) dl h A B)
              (either ((λ p. let a = p.0 in let b = p.1 in cc), (λ e. let a : A ≡ L = cc in let b : B ≡ D = cc in (a, b))));
          long_ahead = refl;
          long_behind = length-set (links_by l g).behind L s;
        })
        (λ f A B _ e. cc) (λ f A B ne e. ne (cc)) f;
    into = λ A f B e. elim e [ inl x ↦ x | inr e ↦ cc ];
  }

  pub adds_val : (g : ℕ) (t : ClassSet) → g < 16 → length l.by_feature ≡ 16 → length (links_by l g).ahead ≡ 64 → length l.into ≡ 64
      → ((k : ℕ) → has s k ≡ (has (set_at (links_by l g).ahead L) k || (eqb k D && ltb k 64)))
      → ((k : ℕ) → has t k ≡ (has (set_at l.into D) k || (eqb k L && ltb k 64)))
      → Adds (value L g D) l (record { above = l.above; by_feature = set l.by_feature g (record { ahead = set (links_by l g).ahead L s; behind = (links_by l g).behind }); into = set l.into D t })
  adds_val g t gl n m o h i = record {
    above = λ A B _. kept (λ e. cc);
    by = λ f _. by_put l g (record { ahead = set (links_by l g).ahead L s; behind = (links_by l g).behind }) (value L g D) n gl
        (record {
          ahead = λ A B _. then (at_put (links_by l g).ahead L D s (omega arith) dl h A B)
              (either ((λ p. let a = p.0 in let b = p.1 in cc), (λ e. let a : A ≡ L = cc in let b : B ≡ D = cc in (a, b))));
          behind = λ A B _. kept (λ e. cc);
          long_ahead = length-set (links_by l g).ahead L s;
          long_behind = refl;
        })
        (λ f A B ne e. ne (cc)) (λ f A B _ e. cc) f;
    into = λ A f B e. (at_put l.into D L t (omega arith) ll i B A).1
        (elim e [ inl x ↦ inl x | inr e ↦ let a : A ≡ L = cc in let d : B ≡ D = cc in inr (d, a) ]);
  }

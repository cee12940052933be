-- What a word reaches, letter by letter.
use Rattle.std.proofs.Common.{◌≡◌, ℕ, zero, suc, ◌<◌, ◌^◌, Bool, true, false, ◌&&◌, ◌||◌, ◌↔◌, List, [], ◌∷◌, Some, None, refl, sym, ap, ◌∙◌}
use mathlib.Core.Option.{Option, none, some}
use Rattle.std.proofs.lemmas.Bool.{and_from, and_parts, lt-ltb, ltb-true, cond-true}
use Rattle.classes.specs.declared.ClassSet.{ClassSet}
use Rattle.classes.specs.Sets.{has, weight}
use Rattle.classes.proofs.Members.{has_low}
use Rattle.book.specs.Tables.{table_at}
use Rattle.book.specs.Sealing.{Gathered}
use Rattle.theory.specs.Tables.{any_below, extended, follow, member, step, steps}
use Rattle.theory.proofs.Steps.{any_in, any_out}
use Rattle.completion.specs.Records.{leader_of, part_at, value_by}
use Rattle.completion.specs.Whole.{option}
use Rattle.judge.specs.declared.sheet.Judgement.{Judgement}
use Rattle.judge.specs.declared.reach.Reached.{Reached}
use Rattle.judge.specs.declared.reach.Reached.TheVariants.{Part, Unnamed}
use Rattle.judge.specs.Sheets.{tables, along}

-- two tests that say yes alike
alike : (a b : Bool) → (a ≡ true) ↔ (b ≡ true) → a ≡ b
alike true b e = sym (e.0 refl)
alike false true e = e.1 refl
alike false false e = refl

any_alike : (n : ℕ) (f g : ℕ → Bool) → ((k : ℕ) → f k ≡ g k) → any_below n f ≡ any_below n g
unfolding any_below
any_alike zero f g e = refl
any_alike (suc n) f g e = ap (λ b. b || any_below n f) (e n) ∙ ap (λ b. g n || b) (any_alike n f g e)

module _ (j : Judgement) where
  has_is : (p A : ℕ) → p < 256 → A < 64 → (tables j).has p A ≡ has (part_at j.parts p).classes A
  unfolding extended
  has_is p A l m = alike _ _ (λ h. (and_parts _ _ h).1, λ h. and_from _ _ (and_from _ _ (lt-ltb p 256 l) (lt-ltb A 64 m)) h)

  value_told : (p f v : ℕ) → p < 256 → f < 16 → value_by (part_at j.parts p) f ≡ Some v → (tables j).value_of p f ≡ some v
  unfolding extended
  value_told p f v l m e = cond-true _ _ _ (and_from _ _ (lt-ltb p 256 l) (lt-ltb f 16 m)) ∙ ap option e

  value_untold : (p f : ℕ) → p < 256 → f < 16 → value_by (part_at j.parts p) f ≡ None → (tables j).value_of p f ≡ none
  unfolding extended
  value_untold p f l m e = cond-true _ _ _ (and_from _ _ (lt-ltb p 256 l) (lt-ltb f 16 m)) ∙ ap option e

  -- where the value is told, the word goes on from it; else from the classes
  next : List ℕ → ℕ → ℕ → ℕ → Option ℕ → Bool
  next w p f A o = elim o [ some v ↦ follow (tables j) v w A | none ↦ steps (tables j) ((tables j).has p) (f ∷ w) A ]

  pub along_told : (p f v : ℕ) (w : List ℕ) (A : ℕ) → p < 256 → f < 16 → value_by (part_at j.parts p) f ≡ Some v
      → follow (tables j) v w A ≡ along j (Part p) (f ∷ w) A
  unfolding next
  along_told p f v w A l m e = sym (ap (next w p f A) (value_told p f v l m e))

  -- one step of a test that is the classes of a set
  step_is : (S : ℕ → Bool) (s g : ClassSet) (f B : ℕ) → f < 16 → weight g < 2 ^ 64 → ((A : ℕ) → A < 64 → S A ≡ has s A)
      → Gathered (table_at j.steps.leads f) s g → step (tables j) S f B ≡ has g B
  unfolding step extended
  step_is S s g f B m fit same ga = alike _ _ (
    λ h. let r = any_out 64 _ h in
        let x = and_parts _ _ r.1 in
        let y = and_parts _ _ x.1 in
        let low = ltb-true r.0 64 ((and_parts _ _ (and_parts _ _ y.0).0).0) in
        ga.all r.0 B (sym (same r.0 low) ∙ x.0) y.1,
    λ h. let r = ga.from B h in
        any_in 64 _ r.0 r.1
        (and_from _ _ (same r.0 r.1 ∙ r.2)
        (and_from _ _ (and_from _ _ (and_from _ _ (lt-ltb r.0 64 r.1) (lt-ltb f 16 m)) (lt-ltb B 64 (has_low g B fit h))) r.3)),
  )

  step_alike : (S T : ℕ → Bool) (f : ℕ) → ((B : ℕ) → S B ≡ T B) → (B : ℕ) → step (tables j) S f B ≡ step (tables j) T f B
  unfolding step
  step_alike S T f e B = any_alike 64 _ _ (λ A. ap (λ b. b && (tables j).leads A f B) (e A))

  steps_alike : (S T : ℕ → Bool) → ((B : ℕ) → S B ≡ T B) → (w : List ℕ) (A : ℕ) → steps (tables j) S w A ≡ steps (tables j) T w A
  steps_alike S T e [] A = e A
  steps_alike S T e (f ∷ w) A = steps_alike (step (tables j) S f) (step (tables j) T f) (step_alike S T f e) w A

  pub along_untold : (p f : ℕ) (s g : ClassSet) (w : List ℕ) (A : ℕ) → p < 256 → f < 16 → value_by (part_at j.parts p) f ≡ None → s ≡ (part_at j.parts p).classes
      → weight g < 2 ^ 64 → Gathered (table_at j.steps.leads f) s g → along j (Unnamed g) w A ≡ along j (Part p) (f ∷ w) A
  unfolding next
  along_untold p f s g w A l m e i fit ga =
      steps_alike (has g) (step (tables j) ((tables j).has p) f) (λ B. sym (step_is _ s g f B m fit (λ A k. has_is p A l k ∙ ap (λ (t : ClassSet). has t A) (sym i)) ga)) w A
      ∙ sym (ap (next w p f A) (value_untold p f l m e))

  pub along_unnamed : (s g : ClassSet) (f : ℕ) (w : List ℕ) (A : ℕ) → f < 16 → weight g < 2 ^ 64 → Gathered (table_at j.steps.leads f) s g
      → along j (Unnamed g) w A ≡ along j (Unnamed s) (f ∷ w) A
  along_unnamed s g f w A m fit ga = steps_alike (has g) (step (tables j) (has s) f) (λ B. sym (step_is (has s) s g f B m fit (λ A k. refl) ga)) w A

  pub along_end : (p A : ℕ) → p < 256 → A < 64 → has (part_at j.parts p).classes A ≡ along j (Part p) [] A
  along_end p A l m = sym (has_is p A l m)

  -- what is said where the word is over is said of the end
  pub along_over : (r e : Reached) (w : List ℕ) (A : ℕ) (b : Bool) → r ≡ e → w ≡ [] → along j r w A ≡ b → along j e [] A ≡ b
  along_over r e w A b same over h = ap (λ q. along j q [] A) (sym same) ∙ ap (λ v. along j r v A) (sym over) ∙ h

  -- a word from a part is one from its leader
  pub along_start : (p : ℕ) (w : List ℕ) (A : ℕ) → p < 256 → along j (Part (leader_of j.parts p)) w A ≡ member (tables j) p w A
  unfolding extended
  along_start p w A l = ap (λ q. follow (tables j) q w A) (sym (cond-true _ _ _ (lt-ltb p 256 l)))

-- What is completed, every class step and every way hold in the worlds that keep the facts and the rules but the exclusions.
use Rattle.std.proofs.Common.{◌≡◌, ℕ, ◌⊎◌, List, sym, refl, ap, ◌∙◌, subst, inl, inr}
use mathlib.Core.List.Memᴰ
use Rattle.terms.specs.Worlds.{◌∈◌, Rule, Obj, World, In, KeepsAll, KeepsButExclusions, along}
use Rattle.terms.specs.Steps.{Within, itself, by_rule, chained, pulled, Leads, by_value, widened}
use Rattle.terms.specs.Facts.{Claim, Holds, KeepsBook, NearlyKeeps}
use Rattle.terms.specs.Completed.{Known, told, same, turned, joined, class_shared, value_shared, one_value, class_up, class_along, class_back, keyed, Agree, on_none, on_one_more}
use Rattle.theory.specs.Paths.{Way, stay, go}
use Rattle.theory.specs.Theorems.{CompletedIsTrue}

-- a world that keeps every rule keeps the rules but the exclusions
pub but_exclusions : {R : List Rule} (W : World) → KeepsAll R W → KeepsButExclusions R W
but_exclusions W k r m e = k r m

pub nearly : {R : List Rule} {F : List Claim} {W : World} → KeepsBook R F W → NearlyKeeps R F W
nearly {W = W} k = record { rules = but_exclusions W k.rules; facts = k.facts }

module _ {R : List Rule} (W : World) (k : KeepsButExclusions R W) where
  mutual
    pub within_sound : {A B : ℕ} → Within R A B → (x : Obj) → In W A x → In W B x
    within_sound itself x h = h
    within_sound (by_rule m) x h = k _ m refl x h
    within_sound (chained s t) x h = within_sound t x (within_sound s x h)
    within_sound (pulled l m) x h = k _ m refl x (leads_sound l x h)

    pub leads_sound : {A f B : ℕ} → Leads R A f B → (x : Obj) → In W A x → In W B (W.feature f x)
    leads_sound (by_value m) x h = k _ m refl x h
    leads_sound (widened s l t) x h = within_sound t _ (leads_sound l x (within_sound s x h))

  -- what a way leads to
  pub way_sound : {A B : ℕ} {w : List ℕ} → Way R A w B → (x : Obj) → In W A x → In W B (along W w x)
  way_sound stay x h = h
  way_sound (go l s) x h = way_sound s _ (leads_sound l x h)

module _ {R : List Rule} {F : List Claim} {W : World} (k : NearlyKeeps R F W) where
  mutual
    pub known_sound : {c : Claim} → Known R F c → Holds W c
    known_sound (told m) = k.facts _ m
    known_sound same = refl
    known_sound (turned e) = sym (known_sound e)
    known_sound (joined e e') = known_sound e ∙ known_sound e'
    known_sound (class_shared {A = A} e h) = subst (In W A) (known_sound e) (known_sound h)
    known_sound (value_shared {f = f} e h) = sym (ap (W.feature f) (known_sound e)) ∙ known_sound h
    known_sound (one_value g h) = sym (known_sound g) ∙ known_sound h
    known_sound (class_up h s) = within_sound W k.rules s _ (known_sound h)
    known_sound (class_along {B = B} h l v) = subst (In W B) (known_sound v) (leads_sound W k.rules l _ (known_sound h))
    known_sound (class_back {A = A} v h m) = k.rules _ m refl _ (subst (In W A) (sym (known_sound v)) (known_sound h))
    known_sound (keyed m g h a) = k.rules _ m refl _ _ (known_sound g) (known_sound h) (agree_sound a)

    pub agree_sound : {p q : ℕ} {fs : List ℕ} → Agree R F p q fs → (f : ℕ) → f ∈ fs → W.feature f (W.part p) ≡ W.feature f (W.part q)
    agree_sound on_none f m = absurd (Memᴰ.not-nil m)
    agree_sound {p} {q} (on_one_more {f = g} {fs = fs} v v' e a) f m = pick (known_sound v ∙ known_sound e ∙ sym (known_sound v')) (agree_sound a) (Memᴰ.cases_cons m)
      where
        pick : W.feature g (W.part p) ≡ W.feature g (W.part q) → ((f : ℕ) → f ∈ fs → W.feature f (W.part p) ≡ W.feature f (W.part q)) → (f ≡ g) ⊎ (f ∈ fs) → W.feature f (W.part p) ≡ W.feature f (W.part q)
        pick e rest (inl i) = subst (λ h. W.feature h (W.part p) ≡ W.feature h (W.part q)) (sym i) e
        pick e rest (inr m) = rest f m

pub completed_is_true : CompletedIsTrue
completed_is_true R F W k = record {
  known = λ c d. known_sound k d;
  within = λ A B s. within_sound W k.rules s;
  leads = λ A f B s. leads_sound W k.rules s;
}

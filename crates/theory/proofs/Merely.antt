-- Tables answer where it is merely so that they are exact, as a ghost field holds it.
use mathlib.Core.Bool.{Bool-set}
use mathlib.Core.Logic.{∥∥₁_elim, ∥∥₁_prop}
use mathlib.Core.HLevel.{hedberg, ⊥_prop}
use Rattle.std.proofs.Common.{ℕ, ◌≤◌, List, length}
use mathlib.Core.List.{is_set}
use native.Mathlib.Bridge.{le_prop}
use native.Mathlib.Decide.{ℕ_discrete}
use Rattle.terms.specs.Worlds.{Rule, World}
use Rattle.terms.specs.Facts.{Claim, in_class, value_at, one_object, Holds, NearlyKeeps}
use Rattle.terms.specs.Completed.{Known}
use Rattle.terms.specs.Verdicts.{Stands, Shortest}
use Rattle.theory.specs.Legal.{Legal}
use Rattle.theory.specs.Tables.{Tables, Exact}
use Rattle.theory.specs.Paths.{Reaches}
use Rattle.theory.specs.Theorems.{TablesAnswer}
use Rattle.theory.proofs.Bound.{word_bound}
use Rattle.theory.proofs.Clashes.{path_clash, least_path, no_path}
use Rattle.theory.proofs.Follow.{tables_answer}
use Rattle.theory.proofs.Sound.{known_sound}

pub ℕ_set : IsSet ℕ
ℕ_set = hedberg ℕ_discrete

pub obj_set : IsSet (List ℕ)
obj_set = is_set ℕ_set

pub holds_prop : (W : World) (c : Claim) → IsProp (Holds W c)
holds_prop W (in_class p A) = Bool-set _ _
holds_prop W (value_at p f q) = obj_set _ _
holds_prop W (one_object p q) = obj_set _ _

-- what is merely known is true in worlds
pub merely_sound : {R : List Rule} {F : List Claim} {W : World} → NearlyKeeps R F W → (c : Claim) → ∥ Known R F c ∥₁ → Holds W c
merely_sound {W = W} k c h = ∥∥₁_elim h (holds_prop W c) (λ d. known_sound k d)

pub merely_answer : TablesAnswer
merely_answer R F t l e = record {
  stands = (
    λ s. ∥∥₁_elim e ∥∥₁_prop (λ x. (tables_answer l.rules x).stands.0 s),
    λ r p w i c. ∥∥₁_elim e ⊥_prop (λ x. (tables_answer l.rules x).stands.1 r p w i c),
  );
  member_is = λ s p w A. (
    λ h W k. ∥∥₁_elim e (Bool-set _ _) (λ x. ((tables_answer l.rules x).member_is s p w A).0 h W k),
    λ h. ∥∥₁_elim e (Bool-set _ _) (λ x. ((tables_answer l.rules x).member_is s p w A).1 h),
  );
  same_is = λ s p q. (
    λ h W k. ∥∥₁_elim e (obj_set _ _) (λ x. ((tables_answer l.rules x).same_is s p q).0 h W k),
    λ h. ∥∥₁_elim e (ℕ_set _ _) (λ x. ((tables_answer l.rules x).same_is s p q).1 h),
  );
}

module _ {R : List Rule} {F : List Claim} {t : Tables} (l : Legal R F) (e : ∥ Exact R F t ∥₁) where
  -- no path, no clash
  pub merely_no_path : ((p : ℕ) (w : List ℕ) (i : ℕ) → ¬ Reaches R F p w i) → Stands R F
  merely_no_path n p w i c = ∥∥₁_elim e ⊥_prop (λ x. no_path l.rules x n p w i c)

  -- a least path is a shortest clash
  pub merely_least_path : (p : ℕ) (w : List ℕ) (i : ℕ) → Reaches R F p w i → ((q : ℕ) (v : List ℕ) (j : ℕ) → Reaches R F q v j → length w ≤ length v) → Shortest R F p w i
  merely_least_path p w i r n =
      record { clash = path_clash p w i r; least = λ q v j c. ∥∥₁_elim e le_prop (λ x. (least_path l.rules x p w i r n).least q v j c) }

  -- the bound on the words of shortest clashes
  pub merely_bound : (p : ℕ) (w : List ℕ) (i : ℕ) → Shortest R F p w i → length w ≤ 2079
  merely_bound p w i s = ∥∥₁_elim e le_prop (λ x. word_bound l x p w i s)

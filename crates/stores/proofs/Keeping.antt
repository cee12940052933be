-- Keeping the meaning of a store: at its opening, and where a fact is added; and the ends of tell.
use Rattle.std.proofs.Common.{◌≡◌, ℕ, ◌-◌, ◌<◌, ◌≤◌, Bool, true, false, cond, ◌||◌, ltb, ◌⊎◌, List, [], ◌∷◌, ◌++◌, length, replicate, Some, Ok, Err, Result, sym, refl, ap, ◌∙◌, subst, inl, inr, append-nil, arith}
use Rattle.std.specs.Prelude.{codes}
use mathlib.Core.List.Memᴰ
use Rattle.std.specs.List.{slice_get}
use Rattle.std.proofs.lemmas.List.{length_push}
use Rattle.std.proofs.lemmas.Bool.{and_parts, and_from, or_from, or_left, or_right, lt-ltb, le-ltb, cond-true, cond-false, both_ways}
use Rattle.terms.specs.declared.fact.Fact.{Fact}
use Rattle.terms.specs.declared.refusal.Refusal.{Refusal}
use Rattle.terms.specs.declared.refusal.Refusal.TheVariants.{NoFreePlace}
use Rattle.terms.specs.Refusals.{asked, number}
use Rattle.terms.specs.Lawful.{fact_kind_known, fact_class_low, fact_feature_low, fact_unused_zero, fact_questions, lawful_fact}
use Rattle.terms.proofs.Asking.{all_yes, answers, asked_on, asked_no}
use Rattle.stores.specs.declared.told.Told.{Told}
use Rattle.stores.specs.declared.told.Told.TheVariants.{Added, Already}
use Rattle.stores.specs.Meaning.{Meaning, listed, place_questions, tell_questions, accepted_as, worded, places_used, Tells}
use Rattle.stores.proofs.Listing.{in_listed, nth_in, nth_push}

-- a fact whose questions were asked and had yes is lawful, and the other way round
pub lawful_yes : (f : Fact) → asked (fact_questions f) (tt {0}) ≡ Ok tt → lawful_fact f ≡ true
lawful_yes f e =
    let a = (answers tt (fact_questions f) (asked (fact_questions f) tt) refl).accepted.0 e in
    and_from _ _ a.0 (and_from _ _ a.1.0 (and_from _ _ a.1.1.0 a.1.1.1.0))

pub yes_lawful : (f : Fact) → lawful_fact f ≡ true → asked (fact_questions f) (tt {0}) ≡ Ok tt
yes_lawful f h =
    let a = and_parts (fact_kind_known f) _ h in
    let b = and_parts (fact_class_low f) _ a.1 in
    let c = and_parts (fact_feature_low f) (fact_unused_zero f) b.1 in
    all_yes tt (fact_questions f) (a.0, (b.0, (c.0, (c.1, tt))))

-- a store that lists nothing
pub means_nothing : (free : ℕ) → free ≤ 65536 → Meaning [] free
means_nothing free h = record {
  lawful = λ f m. absurd (elim m [ ]);
  different = λ i j f a b. (let z : ◌≡◌ {A = ℕ} 0 1 = cc in absurd (omega arith));
  short = omega arith;
  fits = omega arith;
}

-- one more fact at the list's end
pub means_more : (facts : List Fact) (free : ℕ) (f : Fact) → Meaning facts free → asked (fact_questions f) (tt {0}) ≡ Ok tt → listed facts f ≡ false → 0 < free
    → Meaning (facts ++ f ∷ []) (free - 1)
means_more facts free f m q l h =
    let n = length_push facts f in
    let a = m.fits in
    record {
      lawful = λ g k. elim (Memᴰ.append_cases facts k) [
        | inl i ↦ m.lawful g i
        | inr i ↦ subst (λ (x : Fact). lawful_fact x ≡ true) (sym (Memᴰ.eq_of_singleton i)) (lawful_yes f q)
      ];
      different = λ i j g x y. places i j g (nth_push facts f i g x) (nth_push facts f j g y);
      short = omega arith;
      fits = omega arith;
    }
  where
    new : (i : ℕ) (g : Fact) → slice_get facts i ≡ Some g → f ≡ g → ⊥
    new i g x e = both_ways (listed facts f) l (subst (λ (y : Fact). listed facts y ≡ true) (sym e) (in_listed facts g (nth_in facts i g x)))

    places : (i j : ℕ) (g : Fact) → (slice_get facts i ≡ Some g) ⊎ ((i ≡ length facts) × (f ≡ g)) → (slice_get facts j ≡ Some g) ⊎ ((j ≡ length facts) × (f ≡ g)) → i ≡ j
    places i j g (inl x) (inl y) = m.different i j g x y
    places i j g (inl x) (inr y) = absurd (new i g x y.1)
    places i j g (inr x) (inl y) = absurd (new j g y x.1)
    places i j g (inr x) (inr y) = x.0 ∙ sym y.0

-- the answers of tell: a fact whose own questions had yes is accepted where it is listed or a place is free
module _ (facts : List Fact) (free : ℕ) (f : Fact) where
  on_place : (b : Bool) → (listed facts f || ltb 0 free) ≡ b → asked (fact_questions f) (tt {0}) ≡ Ok tt
      → asked (tell_questions facts free f) (accepted_as facts f) ≡ cond b (Ok (accepted_as facts f)) (Err 6)
  on_place b h q =
      asked_on (fact_questions f) (place_questions (listed facts f) free) tt (accepted_as facts f) q
      ∙ ap (λ (x : Bool). let z : Result (List ℕ) ℕ = cond x (Ok (accepted_as facts f)) (Err 6) in z) h

  pub answers_already : asked (fact_questions f) (tt {0}) ≡ Ok tt → listed facts f ≡ true → asked (tell_questions facts free f) (accepted_as facts f) ≡ Ok (codes "already")
  answers_already q l =
      on_place true (or_left (listed facts f) (ltb 0 free) l) q
      ∙ ap (λ (w : List ℕ). let z : Result (List ℕ) ℕ = Ok w in z) (cond-true (listed facts f) (codes "already") (codes "added") l)

  pub answers_added : asked (fact_questions f) (tt {0}) ≡ Ok tt → listed facts f ≡ false → 0 < free → asked (tell_questions facts free f) (accepted_as facts f) ≡ Ok (codes "added")
  answers_added q l h =
      on_place true (or_right (listed facts f) (ltb 0 free) (lt-ltb 0 free h)) q
      ∙ ap (λ (w : List ℕ). let z : Result (List ℕ) ℕ = Ok w in z) (cond-false (listed facts f) (codes "already") (codes "added") l)

  -- the four ends of tell: an unlawful fact, one that is listed, one for which no place is free, and one that is added
  nothing_added : (r : Result Told Refusal) → places_used r ≡ 0 → worded r ≡ asked (tell_questions facts free f) (accepted_as facts f) → Tells facts free f r facts free
  nothing_added r u e = record {
    answer = e;
    list = sym (append-nil facts) ∙ ap (λ (n : ℕ). facts ++ replicate n f) (sym u);
    left = omega arith;
  }

  pub tells_unlawful : (e : Refusal) → Err (number e) ≡ asked (fact_questions f) (tt {0}) → Tells facts free f (Err e) facts free
  tells_unlawful e q = nothing_added (Err e) refl (sym (asked_no (fact_questions f) (place_questions (listed facts f) free) tt (accepted_as facts f) (number e) (sym q)))

  pub tells_already : asked (fact_questions f) (tt {0}) ≡ Ok tt → listed facts f ≡ true → Tells facts free f (Ok Already) facts free
  tells_already q l = nothing_added (Ok Already) refl (sym (answers_already q l))

  pub tells_full : asked (fact_questions f) (tt {0}) ≡ Ok tt → listed facts f ≡ false → free ≡ 0 → Tells facts free f (Err NoFreePlace) facts free
  tells_full q l h =
      nothing_added (Err NoFreePlace) refl (sym (on_place false (or_from (listed facts f) (ltb 0 free) l (le-ltb 0 free (omega arith))) q))

  pub tells_added : asked (fact_questions f) (tt {0}) ≡ Ok tt → listed facts f ≡ false → 0 < free → Tells facts free f (Ok Added) (facts ++ f ∷ []) (free - 1)
  tells_added q l h = record { answer = sym (answers_added q l h); list = refl; left = refl }

-- The law of tell, from its answer and the lists before and after.
use Rattle.std.proofs.Common.{◌≡◌, ℕ, ◌+◌, ◌-◌, ◌<◌, Bool, true, false, cond, ◌||◌, ltb, ◌⊎◌, List, [], ◌∷◌, ◌++◌, length, replicate, Some, Ok, Err, Result, sym, refl, ap, ◌∙◌, subst, inl, inr, append-nil, arith}
use Rattle.std.specs.Prelude.{codes}
use Rattle.std.specs.List.{slice_get}
use Rattle.std.proofs.lemmas.Bool.{and_from, cases_Bool, or_cases, ltb-true, cond-true, cond-false, both_ways}
use Rattle.terms.specs.declared.fact.Fact.{Fact}
use Rattle.terms.specs.declared.refusal.Refusal.{Refusal}
use Rattle.terms.specs.Refusals.{Question, asked}
use Rattle.terms.specs.Lawful.{lawful_fact}
use Rattle.terms.specs.Worlds.{◌∈◌}
use Rattle.terms.proofs.Asking.{answers}
use Rattle.stores.specs.declared.told.Told.{Told}
use Rattle.stores.specs.declared.told.Told.TheVariants.{Added, Already}
use Rattle.stores.specs.Meaning.{Meaning, listed, tell_questions, accepted_as, worded, places_used, Tells, TellLaw}
use Rattle.stores.proofs.Listing.{listed_in, in_listed, in_nth, nth_upper}
use Rattle.stores.proofs.Keeping.{yes_lawful, means_more, answers_already, answers_added}

-- a call that is done answers what it is said to answer
asked_ok : {A : Type 0} (qs : List Question) (x t : A) → asked qs x ≡ Ok t → t ≡ x
asked_ok [] x t e = cc
asked_ok (q ∷ qs) x t e = by q.holds (asked_ok qs x t) e
  where
    by : (b : Bool) → (asked qs x ≡ Ok t → t ≡ x) → cond b (asked qs x) (Err q.number_of) ≡ Ok t → t ≡ x
    by true on e = on e
    by false on e = let z : ◌≡◌ {A = ℕ} 0 1 = cc in absurd (omega arith)

words_apart : codes "added" ≡ codes "already" → ⊥
words_apart e = let z : ◌≡◌ {A = ℕ} 100 108 = cc in omega arith

-- an answer uses a place exactly when it says "added"
pub place_word : (r : Result Told Refusal) → places_used r ≡ 1 → worded r ≡ Ok (codes "added")
place_word (Ok Added) u = refl
place_word (Ok Already) u = absurd (omega arith)
place_word (Err e) u = absurd (omega arith)

pub word_place : (r : Result Told Refusal) → worded r ≡ Ok (codes "added") → places_used r ≡ 1
word_place (Ok Added) w = refl
word_place (Ok Already) w = let z : ◌≡◌ {A = ℕ} 100 108 = cc in absurd (omega arith)
word_place (Err e) w = let z : ◌≡◌ {A = ℕ} 0 1 = cc in absurd (omega arith)

pub place_or_none : (r : Result Told Refusal) → (places_used r ≡ 1) ⊎ (places_used r ≡ 0)
place_or_none (Ok Added) = inl refl
place_or_none (Ok Already) = inr refl
place_or_none (Err e) = inr refl

module _ (facts : List Fact) (free : ℕ) (f : Fact) (r : Result Told Refusal) (facts' : List Fact) (free' : ℕ)
    (m : Meaning facts free) (t : Tells facts free f r facts' free') where
  -- what an accepted fact had: its questions had yes
  pub record Yes (w : List ℕ) : Type 0 where
    pub lawful : lawful_fact f ≡ true
    pub named : w ≡ accepted_as facts f
    pub place : (listed facts f || ltb 0 free) ≡ true

  yes : (w : List ℕ) → worded r ≡ Ok w → Yes w
  yes w e =
      let x = accepted_as facts f in
      let q : asked (tell_questions facts free f) x ≡ Ok w = sym t.answer ∙ e in
      let h = asked_ok (tell_questions facts free f) x w q in
      let a = (answers x (tell_questions facts free f) (asked (tell_questions facts free f) x) refl).accepted.0 (q ∙ ap (λ (y : List ℕ). let z : Result (List ℕ) ℕ = Ok y in z) h) in
      record { lawful = and_from _ _ a.0 (and_from _ _ a.1.0 (and_from _ _ a.1.1.0 a.1.1.1.0)); named = h; place = a.1.1.1.1.0 }

  was_listed : worded r ≡ Ok (codes "already") → listed facts f ≡ true
  was_listed e = by (cases_Bool (listed facts f))
    where
      by : (listed facts f ≡ true) ⊎ (listed facts f ≡ false) → listed facts f ≡ true
      by (inl h) = h
      by (inr h) = absurd (words_apart (sym ((yes (codes "already") e).named ∙ cond-false (listed facts f) (codes "already") (codes "added") h)))

  was_not : worded r ≡ Ok (codes "added") → listed facts f ≡ false
  was_not e = by (cases_Bool (listed facts f))
    where
      by : (listed facts f ≡ true) ⊎ (listed facts f ≡ false) → listed facts f ≡ false
      by (inl h) = absurd (words_apart ((yes (codes "added") e).named ∙ cond-true (listed facts f) (codes "already") (codes "added") h))
      by (inr h) = h

  was_free : worded r ≡ Ok (codes "added") → 0 < free
  was_free e =
      elim (or_cases (listed facts f) (ltb 0 free) (yes (codes "added") e).place) [
        | inl h ↦ absurd (both_ways (listed facts f) (was_not e) h)
        | inr h ↦ ltb-true 0 free h
      ]

  kept : places_used r ≡ 0 → (facts' ≡ facts) × (free' ≡ free)
  kept u = let l = t.left in (t.list ∙ ap (λ (n : ℕ). facts ++ replicate n f) u ∙ append-nil facts, omega arith)

  grown_by : places_used r ≡ 1 → (facts' ≡ facts ++ f ∷ []) × (free ≡ free' + 1)
  grown_by u =
      let l = t.left in
      let k = was_free (place_word r u) in
      (t.list ∙ ap (λ (n : ℕ). facts ++ replicate n f) u, omega arith)

  -- one more fact keeps the meaning
  more : worded r ≡ Ok (codes "added") → Meaning (facts ++ f ∷ []) (free - 1)
  more w = means_more facts free f m (yes_lawful f (yes (codes "added") w).lawful) (was_not w) (was_free w)

  once_by : (s : Told) → r ≡ Ok s → (place : ℕ) × (slice_get facts' place ≡ Some f) × ((k : ℕ) → slice_get facts' k ≡ Some f → k ≡ place)
  once_by Already e =
      let p = in_nth facts f (listed_in facts f (was_listed (ap worded e))) in
      let h = (kept (ap places_used e)).0 in
      subst (λ (l : List Fact). (place : ℕ) × (slice_get l place ≡ Some f) × ((k : ℕ) → slice_get l k ≡ Some f → k ≡ place)) (sym h) (p.0, p.1, λ k x. m.different k p.0 f x p.1)
  once_by Added e =
      let h = (grown_by (ap places_used e)).0 in
      let d = more (ap worded e) in
      let z : length facts - length facts ≡ 0 = omega arith in
      let x : slice_get (facts ++ f ∷ []) (length facts) ≡ Some f = nth_upper facts (f ∷ []) (length facts) (omega arith) ∙ ap (slice_get (f ∷ [])) z in
      subst (λ (l : List Fact). (place : ℕ) × (slice_get l place ≡ Some f) × ((k : ℕ) → slice_get l k ≡ Some f → k ≡ place)) (sym h) (length facts, x, λ k y. d.different k (length facts) f y x)

  pub tell_law : TellLaw facts free f r facts' free'
  tell_law = record {
    already = (
      λ e. ((yes (codes "already") e).lawful, listed_in facts f (was_listed e)),
      λ h. t.answer ∙ answers_already facts free f (yes_lawful f h.0) (in_listed facts f h.1),
    );
    added = (
      λ e. ((yes (codes "added") e).lawful, (λ i. both_ways (listed facts f) (was_not e) (in_listed facts f i)), was_free e),
      λ h. t.answer ∙ answers_added facts free f (yes_lawful f h.0) (unlisted h.1) h.2,
    );
    refused = (answers (accepted_as facts f) (tell_questions facts free f) (worded r) t.answer).refused;
    once = once_by;
    grown = grown_by;
    same = kept;
  }
    where
      unlisted : ¬ (f ∈ facts) → listed facts f ≡ false
      unlisted n = elim (cases_Bool (listed facts f)) [ inl h ↦ absurd (n (listed_in facts f h)) | inr h ↦ h ]

  -- every call of tell keeps the meaning
  pub means_told : Meaning facts' free'
  means_told = by r refl
    where
      kept_by : places_used r ≡ 0 → Meaning facts' free'
      kept_by u = let k = kept u in rw (k.0, k.1) m

      by : (s : Result Told Refusal) → r ≡ s → Meaning facts' free'
      by (Ok Added) e =
          let k = grown_by (ap places_used e) in
          let less : free' ≡ free - 1 = (let h = k.1 in omega arith) in
          rw (k.0, less) (more (ap worded e))
      by (Ok Already) e = kept_by (ap places_used e)
      by (Err x) e = kept_by (ap places_used e)

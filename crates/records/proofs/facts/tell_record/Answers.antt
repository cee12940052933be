-- The answer of tell, without its word, and the list after it.
use Rattle.std.proofs.Common.{◌≡◌, ℕ, ◌+◌, ◌-◌, Bool, true, false, cond, List, [], ◌∷◌, ◌++◌, length, replicate, Ok, Err, sym, refl, ap, ◌∙◌, append-nil, arith}
use Rattle.std.proofs.lemmas.List.{length-append, length-replicate}
use Rattle.std.proofs.lemmas.Result.{err_from_is_err_and}
use Rattle.terms.specs.declared.fact.Fact.{Fact}
use Rattle.terms.specs.declared.refusal.Refusal.{Refusal}
use Rattle.terms.specs.Refusals.{ask, asked, number}
use Rattle.terms.proofs.Asking.{asked_on, asked_no, own_value}
use Rattle.stores.specs.declared.told.Told.{Told}
use Rattle.stores.specs.declared.told.Told.TheVariants.{Added, Already}
use Rattle.stores.specs.Meaning.{listed, tell_questions, accepted_as, answer_accepted, saying, Tells}
use Rattle.layout.specs.declared.Group.TheVariants.{Site}
use Rattle.layout.specs.Layout.{whole, fact_in}
use Rattle.records.specs.Books.{told}
use Rattle.records.specs.Groups.{SiteTold}
use Rattle.records.proofs.facts.tell_record.Goals as goal

-- a record that was read is whole, and its fact is that of the bytes
whole_record : (w : Bool) (f g : Fact) → Ok f ≡ asked (ask 12 w ∷ []) g → (w ≡ true) × (f ≡ g)
whole_record true f g e = (refl, cc)
whole_record false f g e = absurd cc

-- a fact is put at the end of the list unless it is listed already
word_told : (facts : List Fact) (f : Fact) (t : Told) (b : Bool) → (saying t).word ≡ answer_accepted b → facts ++ replicate (saying t).places f ≡ cond b facts (facts ++ f ∷ [])
word_told facts f Added true e = absurd cc
word_told facts f Added false e = refl
word_told facts f Already true e = append-nil facts
word_told facts f Already false e = absurd cc

module _ (bytes : List ℕ) (facts facts' : List Fact) (room room' : ℕ) (f : Fact) (w : Ok f ≡ asked (ask 12 (whole Site bytes) ∷ []) (fact_in bytes)) where
  -- the questions of the record are those of tell
  questions : asked (ask 12 (whole Site bytes) ∷ tell_questions facts room (fact_in bytes)) (tt {0}) ≡ asked (tell_questions facts room f) tt
  questions =
      let p = whole_record (whole Site bytes) f (fact_in bytes) w in
      ap (λ (b : Bool). asked (ask 12 b ∷ tell_questions facts room (fact_in bytes)) (tt {0})) p.0
      ∙ ap (λ (g : Fact). asked (tell_questions facts room g) (tt {0})) (sym p.1)

  refused : (e : Refusal) → Tells facts room f (Err e) facts' room' → SiteTold bytes facts room (Err e) facts' room'
  refused e t = record {
    answer = sym (questions ∙ asked_no (tell_questions facts room f) [] (accepted_as facts f) (tt {0}) (number e) (sym t.answer));
    list = tt;
    left = tt;
  }

  taken : (a : Told) → Tells facts room f (Ok a) facts' room' → SiteTold bytes facts room (Ok tt) facts' room'
  taken a t =
      let qs = tell_questions facts room f in
      let q : asked qs (accepted_as facts f) ≡ Ok (saying a).word = sym t.answer in
      let o = own_value qs (accepted_as facts f) (saying a).word q in
      let word : (saying a).word ≡ accepted_as facts f = (let z = sym q ∙ o in cc) in
      let l : length facts' ≡ length facts + (saying a).places =
      ap length t.list ∙ length-append facts (replicate (saying a).places f) ∙ ap (λ (n : ℕ). length facts + n) (length-replicate (saying a).places f) in
      let n : (saying a).places ≡ length facts' - length facts = omega arith in
      record {
        answer = sym (questions ∙ asked_on qs [] (accepted_as facts f) (tt {0}) o);
        list =
            t.list ∙ word_told facts f a (listed facts f) word
            ∙ ap (λ (g : Fact). told facts (g ∷ [])) (whole_record (whole Site bytes) f (fact_in bytes) w).1;
        left = t.left ∙ ap (λ (n : ℕ). room - n) n;
      }

pub returns-in_err-tell-clause-told : goal.returns-in_err-tell-clause-told
returns-in_err-tell-clause-told g c =
    let p = err_from_is_err_and c.from_residual-in_err-tell.result c.from_residual-in_err-tell.ensures.1 in
    rw (p.1, p.2) (refused c.args.bytes.now _ _ _ _ c.in_ok-fact.fact c.in_ok-fact.ensures c.in_err-tell.field-0.0 c.in_err-tell.ensures.tells)

pub returns-clause-told : goal.returns-clause-told
returns-clause-told g c = taken c.args.bytes.now _ _ _ _ c.in_ok-fact.fact c.in_ok-fact.ensures c.in_ok-tell.field-0 c.in_ok-tell.ensures.tells

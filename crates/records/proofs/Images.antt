-- The image at the front of the facts of a file: reading goes past its records, and its reader refuses just what reading on
-- refuses.
use Rattle.std.proofs.Common.{◌≡◌, ℕ, ◌+◌, ◌*◌, ◌<◌, ◌≤◌, Bool, true, false, not, cond, List, [], ◌∷◌, ◌++◌, length, take, drop, Ok, Err, Result, sym, refl, ap, ◌∙◌, inl, inr, append_assoc, arith}
use Rattle.std.proofs.lemmas.List.{length-take, length_push, take-append-drop}
use Rattle.std.proofs.lemmas.Bool.{cases_Bool, false≢true, leb-true}
use mathlib.Core.List.Memᴰ
use Rattle.terms.specs.declared.row.Row.{Row}
use Rattle.terms.specs.declared.fact.Fact.{Fact}
use Rattle.terms.specs.Refusals.{Question, ask, asked}
use Rattle.terms.specs.Lawful.{fact_questions}
use Rattle.terms.proofs.Asking.{all_yes, answers, asked_on, asked_no}
use Rattle.stores.specs.Meaning.{listed}
use Rattle.layout.specs.declared.Group.TheVariants.{Factory}
use Rattle.layout.specs.Layout.{encoded_fact, encoded_facts, marked, whole, fact_in}
use Rattle.layout.proofs.Records.{fact_forth, facts_length, facts_more}
use Rattle.image.specs.SoundParts.{LongestSound}
use Rattle.records.specs.Faults.{Refused, at_record}
use Rattle.records.specs.Reading.{read_after, all_groups}
use Rattle.records.specs.Groups.{Ends, ReadsOn, past, rows_alone, no_site, after_image_questions}
use Rattle.records.proofs.Books.{means_push}
use Rattle.records.proofs.Stepping.{after_mark, marked_turn}
use Rattle.records.proofs.Past.{past_factory}

-- an image is done only where no factory mark follows it
unmarked : (rest : List ℕ) (b : Bool) → asked (cond b (ask 12 (whole Factory rest) ∷ (fact_questions (fact_in rest) ++ (ask 14 false ∷ []))) []) (tt {0}) ≡ Ok tt → b ≡ false
unmarked rest true e = absurd (false≢true (((answers tt (ask 12 (whole Factory rest) ∷ (fact_questions (fact_in rest) ++ (ask 14 false ∷ []))) _ refl).accepted.0 e).1.1.1.1.1.0))
unmarked rest false e = refl

-- a refusal says that the mark stands there
mark_there : (b : Bool) (qs : List Question) (n : ℕ) → asked (cond b qs []) (tt {0}) ≡ Err n → (b ≡ true) × (asked qs (tt {0}) ≡ Err n)
mark_there true qs n e = (refl, e)
mark_there false qs n e = cc

-- the last of several questions matters only where those before it have yes
last_alone : (qs : List Question) (n : ℕ) (b c : Bool) → (asked qs (tt {0}) ≡ Ok tt → b ≡ c) → asked (qs ++ (ask n b ∷ [])) (tt {0}) ≡ asked (qs ++ (ask n c ∷ [])) tt
last_alone qs n b c h = by (asked qs tt) refl
  where
    by : (a : Result (Unit {0}) ℕ) → asked qs (tt {0}) ≡ a → asked (qs ++ (ask n b ∷ [])) (tt {0}) ≡ asked (qs ++ (ask n c ∷ [])) tt
    by (Ok u) q = asked_on qs (ask n b ∷ []) tt tt q ∙ ap (λ (b : Bool). asked (ask n b ∷ []) (tt {0})) (h q) ∙ sym (asked_on qs (ask n c ∷ []) tt tt q)
    by (Err m) q = asked_no qs (ask n b ∷ []) tt tt m q ∙ sym (asked_no qs (ask n c ∷ []) tt tt m q)

module _ (bytes part : List ℕ) (facts : List Fact) (law : LongestSound bytes part facts) where
  part_length : length part ≡ 6 * length facts
  part_length = ap length law.sound.records ∙ facts_length Factory facts

  pub image_inside : 6 * length facts ≤ length bytes
  image_inside =
      let p = part_length in
      let f = ap length law.front in
      let n = length-take (length part) bytes in
      omega arith

  image_cut : bytes ≡ encoded_facts Factory facts ++ drop (6 * length facts) bytes
  image_cut =
      sym (take-append-drop (6 * length facts) bytes)
      ∙ ap (λ (x : List ℕ). x ++ drop (6 * length facts) bytes) (ap (λ (k : ℕ). take k bytes) (sym part_length) ∙ sym law.front ∙ law.sound.records)

  -- reading goes past the image
  pub image_passed : (rows : List Row) → ReadsOn all_groups (rows_alone rows) bytes (no_site rows facts) (past Factory (length facts) bytes)
  image_passed rows = ap (read_after all_groups (rows_alone rows)) image_cut ∙ past_factory all_groups rows [] facts (drop (6 * length facts) bytes) (Memᴰ.tail (Memᴰ.head refl)) law.sound.means

  module _ (rest : List ℕ) (r : rest ≡ past Factory (length facts) bytes) where
    module _ (few : length bytes < 32768) (m : marked Factory rest ≡ true) where
      -- with a record more, the front part would be longer
      longer : whole Factory rest ≡ true → asked (fact_questions (fact_in rest)) (tt {0}) ≡ Ok tt → listed facts (fact_in rest) ≡ false → ⊥
      longer w q l =
          let f = fact_in rest in
          let i = image_inside in
          let e : bytes ≡ encoded_facts Factory (facts ++ f ∷ []) ++ drop 6 rest =
          image_cut ∙ ap (λ (x : List ℕ). encoded_facts Factory facts ++ x) (sym r ∙ fact_forth Factory rest m (leb-true 6 (length rest) w))
          ∙ sym (append_assoc (encoded_facts Factory facts) (encoded_fact Factory f) (drop 6 rest))
          ∙ ap (λ (x : List ℕ). x ++ drop 6 rest) (sym (facts_more Factory facts f)) in
          let long = law.longest (encoded_facts Factory (facts ++ f ∷ [])) (drop 6 rest) (facts ++ f ∷ []) e (record { records = refl; means = means_push facts f law.sound.means (omega arith) q l }) in
          let a = facts_length Factory (facts ++ f ∷ []) in
          let b = length_push facts f in
          let p = part_length in
          omega arith

      -- a whole record with a lawful fact repeats one of the image
      not_new : asked (ask 12 (whole Factory rest) ∷ fact_questions (fact_in rest)) (tt {0}) ≡ Ok tt → false ≡ not (listed facts (fact_in rest))
      not_new q =
          let y = (answers tt (ask 12 (whole Factory rest) ∷ fact_questions (fact_in rest)) _ refl).accepted.0 q in
          elim (cases_Bool (listed facts (fact_in rest))) [ inl l ↦ ap not (sym l) | inr l ↦ absurd (longer y.0 (all_yes tt (fact_questions (fact_in rest)) y.1) l) ]

      -- what is asked after the image answers what the questions of the next record do
      same_answer : (rows : List Row) → asked (ask 12 (whole Factory rest) ∷ (fact_questions (fact_in rest) ++ (ask 14 false ∷ []))) (tt {0})
          ≡ asked (after_mark Factory (no_site rows facts) rest) tt
      same_answer rows = last_alone (ask 12 (whole Factory rest) ∷ fact_questions (fact_in rest)) 14 false (not (listed facts (fact_in rest))) not_new

    pub image_ends : asked (after_image_questions rest) (tt {0}) ≡ Ok tt → Ends Factory (length facts) bytes
    image_ends e = record { inside = image_inside; unmarked = ap (marked Factory) (sym r) ∙ unmarked rest (marked Factory rest) e }

    pub image_refused : (e : Refused) (k : ℕ) → length bytes < 32768 → Err e ≡ at_record k (asked (after_image_questions rest) (tt {0})) → (rows : List Row) → length rows + length facts ≡ k
        → read_after all_groups (rows_alone rows) bytes ≡ Err e
    image_refused e k few h rows i = by (asked (after_image_questions rest) tt) refl h
      where
        by : (a : Result (Unit {0}) ℕ) → asked (after_image_questions rest) tt ≡ a → Err e ≡ at_record k a → read_after all_groups (rows_alone rows) bytes ≡ Err e
        by (Ok u) q h = cc
        by (Err n) q h =
            let m = mark_there (marked Factory rest) _ n q in
            let f = marked_turn all_groups (no_site rows facts) rest Factory (Memᴰ.tail (Memᴰ.head refl)) refl m.0 (Err n) (sym m.1 ∙ same_answer few m.0 rows) in
            let p = image_passed rows ∙ ap (read_after all_groups (no_site rows facts)) (sym r) in
            let j : length rows + (length facts + 0) ≡ k = omega arith in
            cc

-- The end of a file, where no record can follow.
use Rattle.std.proofs.Common.{◌≡◌, ℕ, ◌≤◌, Bool, true, false, not, eqb, List, [], ◌∷◌, length, Ok, Err, None, Result, sym, refl, ap, ◌∙◌, inl, inr, arith}
use Rattle.std.proofs.lemmas.Bool.{cases_lt, ne_eqb}
use Rattle.terms.specs.Refusals.{ask, asked}
use Rattle.layout.specs.declared.Group.{Group}
use Rattle.records.specs.Faults.{Refused, at_record, onward}
use Rattle.records.specs.Books.{PartBook, records_in}
use Rattle.records.specs.Reading.{next_group, next_questions, read_after}
use Rattle.records.specs.Groups.{end_questions}
use Rattle.records.proofs.Stepping.{asked_by, after_nothing, after_refused}

-- what the file ends with
pub ends_empty : (rest : List ℕ) → length rest ≡ 0 → asked (end_questions rest) (tt {0}) ≡ Ok tt
ends_empty rest e = ap (λ (n : ℕ). asked (ask 12 (not (eqb n 1)) ∷ ask 13 (eqb n 0) ∷ []) (tt {0})) e

pub ends_lone : (rest : List ℕ) → length rest ≡ 1 → asked (end_questions rest) (tt {0}) ≡ Err 12
ends_lone rest e = ap (λ (n : ℕ). asked (ask 12 (not (eqb n 1)) ∷ ask 13 (eqb n 0) ∷ []) (tt {0})) e

pub ends_more : (rest : List ℕ) → 2 ≤ length rest → asked (end_questions rest) (tt {0}) ≡ Err 13
ends_more rest h =
    ap (λ (b : Bool). asked (ask 12 (not b) ∷ ask 13 (eqb (length rest) 0) ∷ []) (tt {0})) (ne_eqb (length rest) 1 (λ e. omega arith))
    ∙ ap (λ (b : Bool). asked (ask 13 b ∷ []) (tt {0})) (ne_eqb (length rest) 0 (λ e. omega arith))

no_of_two : (t q : Bool) → q ≡ false → (n : ℕ) × (asked (ask 12 t ∷ ask 13 q ∷ []) (tt {0}) ≡ Err n)
no_of_two true q e = (13, ap (λ (u : Bool). asked (ask 13 u ∷ []) (tt {0})) e)
no_of_two false q e = (12, refl)

-- where no record can follow, the questions of the next record are those after the last group
end_next : (groups : List Group) (b : PartBook) (rest : List ℕ) → next_group groups b rest ≡ None → eqb (length rest) 0 ≡ false
    → asked (next_questions groups b rest) (tt {0}) ≡ asked (end_questions rest) (tt {0})
end_next groups b rest n some =
    asked_by groups b rest None n
    ∙ ap (λ (u : Bool). asked (ask 12 (not (eqb (length rest) 1)) ∷ ask 13 u ∷ []) (tt {0})) (sym some)

-- and reading on gives what those give
ended : (groups : List Group) (b : PartBook) (rest : List ℕ) → next_group groups b rest ≡ None → (r : Result (Unit {0}) Refused)
    → r ≡ at_record (records_in b) (asked (end_questions rest) (tt {0})) → read_after groups b rest ≡ onward r (λ _. Ok b)
ended groups b rest n r e =
    elim (cases_lt 0 (length rest)) [
      | inl some ↦
          let q = ne_eqb (length rest) 0 (λ e. omega arith) in
          let no = no_of_two (not (eqb (length rest) 1)) (eqb (length rest) 0) q in
          after_refused groups b rest no.0 some (end_next groups b rest n q ∙ no.1) ∙ said (Err no.0) no.1
      | inr none ↦
          let z : length rest ≡ 0 = omega arith in
          after_nothing groups b rest z ∙ said (Ok tt) (ap (λ (k : ℕ). asked (ask 12 (not (eqb k 1)) ∷ ask 13 (eqb k 0) ∷ []) (tt {0})) z)
    ]
  where
    said : (a : Result (Unit {0}) ℕ) → asked (end_questions rest) (tt {0}) ≡ a → onward (at_record (records_in b) a) (λ _. Ok b) ≡ onward r (λ _. Ok b)
    said a q = ap (λ (z : Result (Unit {0}) Refused). onward z (λ _. Ok b)) (sym (e ∙ ap (at_record (records_in b)) q))

-- what is said of the book that is read
pub ended_as : {A : Type 0} (f : PartBook → A) (groups : List Group) (b : PartBook) (rest : List ℕ) → next_group groups b rest ≡ None → (r : Result (Unit {0}) Refused)
    → r ≡ at_record (records_in b) (asked (end_questions rest) (tt {0})) → onward r (λ _. Ok (f b)) ≡ onward (read_after groups b rest) (λ c. Ok (f c))
ended_as f groups b rest n r e = said r ∙ ap (λ (z : Result PartBook Refused). onward z (λ c. Ok (f c))) (sym (ended groups b rest n r e))
  where
    said : (r : Result (Unit {0}) Refused) → onward r (λ _. Ok (f b)) ≡ onward (onward r (λ _. Ok b)) (λ c. Ok (f c))
    said (Ok u) = refl
    said (Err e) = refl

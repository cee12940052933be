-- The rule records at the front of bytes, one more at a time.
use Rattle.std.proofs.Common.{◌≡◌, ℕ, zero, suc, ◌≤◌, Bool, true, false, cond, leb, List, [], ◌∷◌, ◌++◌, length, drop, Ok, Err, Result, sym, refl, ap, ◌∙◌, arith}
use Rattle.std.proofs.lemmas.Bool.{leb-true}
use Rattle.terms.specs.declared.row.Row.{Row}
use Rattle.terms.specs.declared.refusal.Refusal.{Refusal}
use Rattle.terms.specs.Refusals.{asked, numbered}
use Rattle.terms.proofs.Asking.{answers}
use Rattle.book.specs.Drafts.{rule_questions, grown}
use Rattle.layout.specs.declared.Group.TheVariants.{Rule}
use Rattle.layout.specs.Layout.{layout, marked, row_in}
use Rattle.records.specs.Faults.{at_record, onward}
use Rattle.records.specs.Rules.{record_questions, rule_group}

module _ (rows : List Row) (bytes : List ℕ) where
  -- no record stands there
  pub group_ends : (n : ℕ) → marked Rule bytes ≡ false → rule_group n rows bytes ≡ Ok (record { rows = rows; rest = bytes })
  unfolding rule_group
  group_ends zero e = refl
  group_ends (suc n) e =
      ap (λ (t : Bool). cond t (onward (at_record (length rows) (asked (record_questions rows bytes) (tt {0}))) (λ _. rule_group n (rows ++ row_in bytes ∷ []) (drop (layout Rule).size bytes)))
      (Ok (record { rows = rows; rest = bytes }))) e

  -- a record stands there: reading on, by the answer of its questions
  pub group_turn : (n : ℕ) → marked Rule bytes ≡ true → (a : Result (Unit {0}) ℕ) → a ≡ asked (record_questions rows bytes) (tt {0})
      → rule_group (suc n) rows bytes ≡ onward (at_record (length rows) a) (λ _. rule_group n (rows ++ row_in bytes ∷ []) (drop (layout Rule).size bytes))
  unfolding rule_group
  group_turn n m a e =
      ap (λ (t : Bool). cond t (onward (at_record (length rows) (asked (record_questions rows bytes) (tt {0}))) (λ _. rule_group n (rows ++ row_in bytes ∷ []) (drop (layout Rule).size bytes)))
      (Ok (record { rows = rows; rest = bytes }))) m
      ∙ ap (λ (r : Result (Unit {0}) ℕ). onward (at_record (length rows) r) (λ _. rule_group n (rows ++ row_in bytes ∷ []) (drop (layout Rule).size bytes))) (sym e)

  -- it is taken
  pub group_takes : (n : ℕ) → marked Rule bytes ≡ true → asked (record_questions rows bytes) (tt {0}) ≡ Ok tt
      → rule_group (suc n) rows bytes ≡ rule_group n (rows ++ row_in bytes ∷ []) (drop (layout Rule).size bytes)
  group_takes n m a = group_turn n m (Ok tt) (sym a)

  -- it is refused
  pub group_refuses : (n m : ℕ) → marked Rule bytes ≡ true → asked (record_questions rows bytes) (tt {0}) ≡ Err m
      → rule_group (suc n) rows bytes ≡ Err (record { number_of = m; index = length rows })
  group_refuses n m e a = group_turn n e (Err m) (sym a)

  -- the questions of a whole record are those of its row
  pub whole_asked : {A : Type 0} (x : A) → leb 10 (length bytes) ≡ true → asked (record_questions rows bytes) x ≡ asked (rule_questions rows (row_in bytes)) x
  whole_asked x h = ap (λ (b : Bool). cond b (asked (rule_questions rows (row_in bytes)) x) (Err 12)) h

  -- a record that is taken is whole
  pub done_whole : asked (record_questions rows bytes) (tt {0}) ≡ Ok tt → 10 ≤ length bytes
  done_whole a = leb-true 10 (length bytes) ((answers tt (record_questions rows bytes) (asked (record_questions rows bytes) (tt {0})) refl).accepted.0 a).0

-- the rows after a row that was taken
pub grown_there : (rows : List Row) (row : Row) (r : Result ℕ Refusal) (k v : ℕ) → Ok v ≡ at_record k (numbered r) → grown r rows row ≡ rows ++ row ∷ []
grown_there rows row (Ok x) k v e = refl
grown_there rows row (Err f) k v e = let z : ◌≡◌ {A = ℕ} 0 1 = cc in absurd (omega arith)

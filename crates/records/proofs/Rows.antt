-- Reading the rule records at the front of a file.
use Rattle.std.proofs.Common.{◌≡◌, ℕ, suc, ◌+◌, ◌-◌, ◌*◌, min, Bool, true, List, [], ◌∷◌, ◌++◌, length, take, drop, Ok, Err, Result, sym, refl, ap, ◌∙◌, arith}
use Rattle.std.proofs.lemmas.List.{length-drop, length_push}
use mathlib.Core.List.Memᴰ
use Rattle.terms.specs.declared.row.Row.{Row}
use Rattle.terms.specs.declared.refusal.Refusal.{Refusal}
use Rattle.terms.specs.Refusals.{Question, ask, asked, numbered, number, done}
use Rattle.terms.proofs.Asking.{answers, all_yes, own_value}
use Rattle.book.specs.Drafts.{rule_questions, grown}
use Rattle.layout.specs.declared.Group.{Group}
use Rattle.layout.specs.declared.Group.TheVariants.{Rule}
use Rattle.layout.specs.Layout.{marked, whole, row_in}
use Rattle.layout.proofs.Records.{mark_two}
use Rattle.records.specs.Faults.{Refused, at_record, onward}
use Rattle.records.specs.Books.{no_records, records_in}
use Rattle.records.specs.Reading.{read_after}
use Rattle.records.specs.Groups.{past, rows_alone, ReadsOn, Ends}
use Rattle.records.specs.Rules.{Read, rule_group}
use Rattle.records.proofs.Chunks.{front_whole, front_row, past_more, Chunked, chunked_none, chunk_there, chunk_marked, chunked_more}
use Rattle.records.proofs.RuleGroups.{group_ends, group_turn}
use Rattle.records.proofs.Stepping.{after_mark, marked_turn}

-- whether a call is done is what its questions say, whatever value it answers
asked_done : {A : Type 0} (qs : List Question) (x : A) (r : Result A Refusal) → numbered r ≡ asked qs x → done r ≡ asked qs (tt {0})
asked_done qs x (Ok v) e = sym (all_yes tt qs ((answers x qs (asked qs x) refl).accepted.0 (own_value qs x v (sym e))))
asked_done {A = A} qs x (Err f) e = sym (((answers tt qs (asked qs (tt {0})) refl).refused (number f)).1 (((answers x qs (numbered {A = A} (Err f)) e).refused (number f)).0 refl))

-- a row that was taken stands at the end
row_taken : (r : Result ℕ Refusal) (k : ℕ) (rows : List Row) (row : Row) → Ok tt ≡ at_record k (done r) → (Ok tt ≡ done r) × (grown r rows row ≡ rows ++ row ∷ [])
row_taken (Ok v) k rows row e = (refl, refl)
row_taken (Err f) k rows row e = absurd cc

-- k records are read, and reading on after them gives what reading the file gives
pub record Underway (bytes : List ℕ) (size : ℕ) (rest : List ℕ) (k : ℕ) (rows : List Row) : Type 0 where
  pub chunks : Chunked Rule bytes size rest k
  pub counted : k ≡ length rows
  pub left : (more : List Group) → ReadsOn (Rule ∷ more) no_records bytes (rows_alone rows) (past Rule k bytes)
  pub grouped : rule_group (length bytes - k) rows (past Rule k bytes) ≡ rule_group (length bytes) [] bytes

pub underway_none : (bytes : List ℕ) (size : ℕ) → size ≡ 10 → Underway bytes size bytes 0 []
underway_none bytes size e =
    let all : length bytes - 0 ≡ length bytes = omega arith in
    record { chunks = chunked_none Rule bytes size e; counted = refl; left = λ more. refl; grouped = ap (λ (n : ℕ). rule_group n [] bytes) all }

-- no record stands after k, and there the group ends
pub underway_ends : {bytes : List ℕ} {size : ℕ} {rest : List ℕ} {k : ℕ} {rows : List Row} → Underway bytes size rest k rows → Ends Rule k bytes
    → (end : ℕ) → end ≡ 10 * k → Ok (record { rows = rows; rest = drop end bytes }) ≡ rule_group (length bytes) [] bytes
underway_ends {bytes = bytes} {k = k} {rows = rows} u ends end e =
    ap (λ (n : ℕ). let z : Result Read Refused = Ok (record { rows = rows; rest = drop n bytes }) in z) e
    ∙ sym (group_ends rows (past Rule k bytes) (length bytes - k) ends.unmarked) ∙ u.grouped

module _ {bytes : List ℕ} {size : ℕ} {rest : List ℕ} {k : ℕ} {rows : List Row} (u : Underway bytes size rest k rows)
    (chunk after : List ℕ) (cut : rest ≡ chunk ++ after) (long : length chunk ≡ min size (length rest)) where
  -- the bytes that are left, and the rows with that of the record there
  abbrev there : List ℕ
  there = past Rule k bytes

  abbrev next_rows : List Row
  next_rows = rows ++ row_in there ∷ []

  chunk_front : chunk ≡ take 10 there
  chunk_front = chunk_there u.chunks chunk after cut long

  chunk_row : row_in chunk ≡ row_in there
  chunk_row = ap row_in chunk_front ∙ front_row there

  chunk_asks : after_mark Rule (rows_alone rows) chunk ≡ after_mark Rule (rows_alone rows) there
  chunk_asks =
      ap (λ (t : Bool). ask 12 t ∷ rule_questions rows (row_in chunk)) (ap (whole Rule) chunk_front ∙ front_whole Rule there)
      ∙ ap (λ (r : Row). ask 12 (whole Rule there) ∷ rule_questions rows r) chunk_row

  -- a record stands there, and the call that takes it has answered r
  module _ (r : Result ℕ Refusal) (m : true ≡ marked Rule chunk) (a : numbered r ≡ asked (after_mark Rule (rows_alone rows) chunk) (length rows)) where
    done_there : done r ≡ asked (after_mark Rule (rows_alone rows) there) (tt {0})
    done_there = asked_done (after_mark Rule (rows_alone rows) there) (length rows) r (a ∙ ap (λ (qs : List Question). asked qs (length rows)) chunk_asks)

    turned : (more : List Group) (z : Result (Unit {0}) Refused) → z ≡ at_record k (done r)
        → read_after (Rule ∷ more) no_records bytes ≡ onward z (λ _. read_after (Rule ∷ more) (rows_alone next_rows) (drop 10 there))
    turned more z e =
        let mark : marked Rule there ≡ true = sym (m ∙ chunk_marked u.chunks chunk after cut long) in
        let n : records_in (rows_alone rows) ≡ k = omega (arith, u.counted) in
        u.left more ∙ marked_turn (Rule ∷ more) (rows_alone rows) there Rule (Memᴰ.head refl) refl mark (done r) done_there
        ∙ ap (λ (z : Result (Unit {0}) Refused). onward z (λ _. read_after (Rule ∷ more) (rows_alone next_rows) (drop 10 there))) (ap (λ (i : ℕ). at_record i (done r)) n ∙ sym e)

    group_turned : (z : Result (Unit {0}) Refused) → z ≡ at_record k (done r) → rule_group (length bytes) [] bytes ≡ onward z (λ _. rule_group (length bytes - (k + 1)) next_rows (drop 10 there))
    group_turned z e =
        let mark : marked Rule there ≡ true = sym (m ∙ chunk_marked u.chunks chunk after cut long) in
        let less : length bytes - k ≡ suc (length bytes - (k + 1)) = omega (arith, mark_two Rule there mark, length-drop (10 * k) bytes) in
        sym u.grouped ∙ ap (λ (n : ℕ). rule_group n rows there) less ∙ group_turn rows there (length bytes - (k + 1)) mark (done r) done_there
        ∙ ap (λ (z : Result (Unit {0}) Refused). onward z (λ _. rule_group (length bytes - (k + 1)) next_rows (drop 10 there))) (ap (λ (i : ℕ). at_record i (done r)) (sym u.counted) ∙ sym e)

    pub turn_faults : (f : Refused) → Err f ≡ at_record k (done r) → (more : List Group) → read_after (Rule ∷ more) no_records bytes ≡ Err f
    turn_faults f e more = turned more (Err f) e

    pub group_faults : (f : Refused) → Err f ≡ at_record k (done r) → Err f ≡ rule_group (length bytes) [] bytes
    group_faults f e = sym (group_turned (Err f) e)

    -- the rows are new, and the next record stands ten bytes on
    pub turn_takes : (new : List Row) → Ok tt ≡ at_record k (done r) → new ≡ grown r rows (row_in chunk) → Underway bytes size after (k + 1) new
    turn_takes new e g =
        let t = row_taken r k rows (row_in chunk) e in
        let w = (answers tt (after_mark Rule (rows_alone rows) there) (done r) done_there).accepted.0 (sym t.0) in
        let y : new ≡ next_rows = g ∙ t.1 ∙ ap (λ (z : Row). rows ++ z ∷ []) chunk_row in
        record {
          chunks = chunked_more u.chunks chunk after cut long w.0;
          counted = ap (λ (n : ℕ). n + 1) u.counted ∙ sym (ap length y ∙ length_push rows (row_in there));
          left = λ more.
              turned more (Ok tt) e ∙ ap (read_after (Rule ∷ more) (rows_alone next_rows)) (past_more Rule k bytes)
              ∙ ap (λ (z : List Row). read_after (Rule ∷ more) (rows_alone z) (past Rule (k + 1) bytes)) (sym y);
          grouped =
              ap (λ (z : List Row). rule_group (length bytes - (k + 1)) z (past Rule (k + 1) bytes)) y
              ∙ ap (rule_group (length bytes - (k + 1)) next_rows) (sym (past_more Rule k bytes))
              ∙ sym (group_turned (Ok tt) e);
        }

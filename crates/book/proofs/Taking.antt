-- What rule answers, and its law.
use Rattle.std.proofs.Common.{◌≡◌, ℕ, ◌<◌, ◌≤◌, Bool, true, cond, ltb, List, [], ◌∷◌, ◌++◌, length, Ok, Err, Result, sym, refl, ap, ◌∙◌}
use Rattle.std.proofs.lemmas.Bool.{and_from, and_parts, lt-ltb, le-ltb, ltb-true}
use Rattle.terms.specs.declared.row.Row.{Row}
use Rattle.terms.specs.declared.refusal.Refusal.{Refusal}
use Rattle.terms.specs.Refusals.{ask, asked, AllYes, numbered}
use Rattle.terms.specs.Rows.{row_questions, lawful, all_lawful, kind_known, classes_low, features_low}
use Rattle.terms.proofs.Asking.{answers, asked_on, asked_no, numbered_ok}
use Rattle.book.specs.Drafts.{rule_questions, RuleLaw}

pub lawful_yes : (row : Row) → lawful row ≡ true → AllYes (row_questions row)
lawful_yes row h =
    let a = and_parts (kind_known row) _ h in
    let b = and_parts (classes_low row) _ a.1 in
    let d = and_parts (features_low row) _ b.1 in
    (a.0, (b.0, (d.0, (d.1, tt))))

pub yes_lawful : (row : Row) → AllYes (row_questions row) → lawful row ≡ true
yes_lawful row y = and_from (kind_known row) _ y.0 (and_from (classes_low row) _ y.1.0 (and_from (features_low row) _ y.1.1.0 y.1.1.1.0))

module _ (rows : List Row) (row : Row) where
  pub rule_law : (r : Result ℕ Refusal) → numbered r ≡ asked (rule_questions rows row) (length rows) → RuleLaw rows row r
  rule_law r e =
      let a = answers (length rows) (rule_questions rows row) (numbered r) e in
      record {
        taken = (
          (λ t. let y = a.accepted.0 (ap numbered t) in
              (yes_lawful row (y.0, (y.1.0, (y.1.1.0, (y.1.1.1.0, tt)))), ltb-true _ _ y.1.1.1.1.0)),
          (λ l. let y = lawful_yes row l.0 in
              numbered_ok r (length rows) (a.accepted.1 (y.0, (y.1.0, (y.1.1.0, (y.1.1.1.0, (lt-ltb _ _ l.1, tt))))))),
        );
        refused = a.refused;
      }

  -- a row that its own questions refuse
  pub row_refused : (n : ℕ) → ◌≡◌ {A = Result (Unit {0}) ℕ} (Err n) (asked (row_questions row) tt) → Err n ≡ asked (rule_questions rows row) (length rows)
  row_refused n e = sym (asked_no (row_questions row) (ask 5 (ltb (length rows) 256) ∷ []) tt (length rows) n (sym e))

  -- a lawful row
  pub row_lawful : ◌≡◌ {A = Result (Unit {0}) ℕ} (Ok tt) (asked (row_questions row) tt) → lawful row ≡ true
  row_lawful e = yes_lawful row ((answers tt (row_questions row) (asked (row_questions row) tt) refl).accepted.0 (sym e))

  pub no_row_free : ◌≡◌ {A = Result (Unit {0}) ℕ} (Ok tt) (asked (row_questions row) tt) → 256 ≤ length rows → Err 5 ≡ asked (rule_questions rows row) (length rows)
  no_row_free e h = sym (asked_on (row_questions row) (ask 5 (ltb (length rows) 256) ∷ []) tt (length rows) (sym e) ∙ ap (λ (b : Bool). cond {A = Result ℕ ℕ} b (Ok (length rows)) (Err 5)) (le-ltb _ 256 h))

  pub row_free : ◌≡◌ {A = Result (Unit {0}) ℕ} (Ok tt) (asked (row_questions row) tt) → length rows < 256 → Ok (length rows) ≡ asked (rule_questions rows row) (length rows)
  row_free e h = sym (asked_on (row_questions row) (ask 5 (ltb (length rows) 256) ∷ []) tt (length rows) (sym e) ∙ ap (λ (b : Bool). cond {A = Result ℕ ℕ} b (Ok (length rows)) (Err 5)) (lt-ltb _ 256 h))

-- the rows with one row more
pub lawful_push : (rows : List Row) (row : Row) → all_lawful rows ≡ true → lawful row ≡ true → all_lawful (rows ++ row ∷ []) ≡ true
lawful_push [] row h e = and_from (lawful row) true e refl
lawful_push (r ∷ rows) row h e =
    and_from (lawful r) (all_lawful (rows ++ row ∷ [])) (and_parts (lawful r) (all_lawful rows) h).0
    (lawful_push rows row (and_parts (lawful r) (all_lawful rows) h).1 e)

use Rattle.std.proofs.Common.{◌≡◌, ℕ, Bool, cond, ltb, List, [], ◌∷◌, length, drop, Ok, Err, Some, None, Result, sym, ap, ◌∙◌, arith}
use Rattle.std.proofs.lemmas.Result.{err_from_is_err_and}
use Rattle.terms.specs.Refusals.{ask, asked}
use Rattle.book.specs.Drafts.{listed}
use Rattle.layout.specs.declared.Group.TheVariants.{Rule}
use Rattle.layout.specs.Layout.{marked}
use Rattle.records.specs.declared.rules.RuleGroup.{RuleGroup}
use Rattle.records.specs.Faults.{Refused, refused, at_record, onward}
use Rattle.records.specs.Books.{PartBook, records_in}
use Rattle.records.specs.Reading.{rules_alone, next_group, read_after, file_read}
use Rattle.records.specs.Groups.{past, rows_alone, RulesRead, end_questions}
use Rattle.records.proofs.Whole.{file_on}
use Rattle.records.proofs.Ending.{ended_as}
use Rattle.records.proofs.Law.{layout_law}
use Rattle.records.proofs.reading.read_draft.Goals as goal

-- a file that is short enough, of which the rules are read, and the end has the answer r
file_ends : (bytes : List ℕ) (g : RuleGroup) (r : Result (Unit {0}) Refused) → Ok tt ≡ at_record 0 (asked (ask 15 (ltb (length bytes) 32768) ∷ []) (tt {0}))
    → RulesRead bytes (Ok g) → (rest : List ℕ) → rest ≡ past Rule g.records bytes → r ≡ at_record g.records (asked (end_questions rest) (tt {0}))
    → onward r (λ _. Ok (listed g.draft)) ≡ onward (file_read rules_alone bytes) (λ b. Ok b.rows)
file_ends bytes g r short read rest rest_is e =
    let b = rows_alone (listed g.draft) in
    let none : next_group rules_alone b rest ≡ None = ap (λ (t : Bool). cond t (Some Rule) None) (ap (marked Rule) rest_is ∙ read.1.unmarked) in
    let n : g.records ≡ records_in b = omega (arith, read.0) in
    ended_as (λ (b : PartBook). b.rows) rules_alone b rest none r (e ∙ ap (λ (k : ℕ). at_record k (asked (end_questions rest) (tt {0}))) n)
    ∙ ap (λ (z : Result PartBook Refused). onward z (λ b. Ok b.rows)) (sym (file_on rules_alone bytes short ∙ read.2 [] ∙ ap (read_after rules_alone b) (sym rest_is)))

pub returns-in_err-rules-clause-law : goal.returns-in_err-rules-clause-law
returns-in_err-rules-clause-law c = layout_law _ _

pub returns-in_err-finish : goal.returns-in_err-finish
returns-in_err-finish c =
    let p = err_from_is_err_and c.from_residual-in_err-finish.result c.from_residual-in_err-finish.ensures.1 in
    let bytes = c.args.bytes.now in
    let a = file_ends bytes c.in_ok-rules.rules (Err (refused c.in_err-finish.field-0.0)) c.in_ok-check_length.ensures c.in_ok-rules.ensures.read
    _ (ap (λ (n : ℕ). drop n bytes) c.in_ok-rules.ensures.place) c.in_err-finish.ensures in
    rw (p.1, p.2) (record { answer = a; law = layout_law _ _ })

pub returns : goal.returns
returns c =
    let bytes = c.args.bytes.now in
    let a = file_ends bytes c.in_ok-rules.rules (Ok tt) c.in_ok-check_length.ensures c.in_ok-rules.ensures.read
    _ (ap (λ (n : ℕ). drop n bytes) c.in_ok-rules.ensures.place) c.in_ok-finish.ensures in
    record { answer = a; law = layout_law _ _ }

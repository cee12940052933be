-- The rule records at the front of bytes, one by one, whatever stands after them.
use Rattle.std.specs.Prelude.{ℕ, zero, suc, cond, List, [], ◌∷◌, ◌++◌, length, drop, Ok, Err, Result}
use Rattle.terms.specs.declared.row.Row.{Row}
use Rattle.terms.specs.Refusals.{Question, ask, asked}
use Rattle.book.specs.Drafts.{listed, rule_questions}
use Rattle.layout.specs.declared.Group.TheVariants.{Rule}
use Rattle.layout.specs.Layout.{layout, marked, whole, row_in}
use Rattle.records.specs.declared.Fault.{Fault}
use Rattle.records.specs.declared.rules.RuleGroup.{RuleGroup}
use Rattle.records.specs.Faults.{Refused, refused, at_record, onward}

-- the rows read, and the bytes that are left
pub record Read : Type 0 where
  pub rows : List Row
  pub rest : List ℕ

-- the questions of a rule record at the front of the bytes, after its mark: is it whole, and is its row taken after the earlier rows?
abbrev pub record_questions : List Row → List ℕ → List Question
record_questions rows bytes = ask 12 (whole Rule bytes) ∷ rule_questions rows (row_in bytes)

-- reads rule records while their mark stands at the front; there are at most n of them
unfoldable pub rule_group : ℕ → List Row → List ℕ → Result Read Refused
rule_group zero rows bytes = Ok (record { rows = rows; rest = bytes })
rule_group (suc n) rows bytes =
    cond (marked Rule bytes)
    (onward (at_record (length rows) (asked (record_questions rows bytes) (tt {0}))) (λ _. rule_group n (rows ++ row_in bytes ∷ []) (drop (layout Rule).size bytes)))
    (Ok (record { rows = rows; rest = bytes }))

-- what a reader of the group answers, as rows and the bytes that are left
abbrev pub group_answer : Result RuleGroup Fault → List ℕ → Result Read Refused
group_answer (Ok g) bytes = Ok (record { rows = listed g.draft; rest = drop g.end bytes })
group_answer (Err f) bytes = Err (refused f)

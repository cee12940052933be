use Rattle.std.proofs.Common.{◌≡◌, ◌↔◌, ℕ, List, [], length, codes, subst, sym, ◌∙◌, Ok, Err, Result}
use Rattle.judge.specs.Texts.{Writes}
use Rattle.judge.specs.Verdicts.{clash_line, report_text}
use Rattle.records.specs.Faults.{Refused, refused}
use Rattle.records.specs.Books.{PartBook, facts_of}
use Rattle.records.specs.Reading.{all_groups, file_read}
use Rattle.records.specs.Opened.{Content, content_of}
use Rattle.audit.specs.Audits.{Audited, BookReported, Kept, LastLine, ShortestClash, fault_line}
use Rattle.audit.proofs.Saying.{book_clash, book_read, book_stands, on_written, refusal_clash, refusal_read, refusal_stands}
use Rattle.audit.proofs.audit.Goals.{After-report_book, After-write_at}
use Rattle.audit.proofs.audit.Goals as goal

-- the book that was read, and its report
module _ (c : After-report_book) where
  read : (b : PartBook) × (file_read all_groups c.args.input.now ≡ Ok b) × BookReported b.rows (facts_of b) c.args.out.now c.report_book.new.out c.report_book.result
  read =
      let x = book_read (file_read all_groups c.args.input.now) (content_of c.in-Ok.opened) c.in-Ok.ensures.answer in
      (x.0, x.1, subst (λ (y : Content). BookReported y.rows y.facts c.args.out.now c.report_book.new.out c.report_book.result) (sym x.2) c.report_book.ensures)

pub returns-in-Ok-clause-audited : goal.returns-in-Ok-clause-audited
returns-in-Ok-clause-audited c =
    let x = read (goal.at.returns-in-Ok-clause-audited c).After-report_book in
    subst (λ (r : Result PartBook Refused). Audited r c.args.out.now c.report_book.new.out c.report_book.result) (sym x.1) (x.2.0, x.2.1, x.2.2.report)

pub returns-in-Ok-clause-refused : goal.returns-in-Ok-clause-refused
returns-in-Ok-clause-refused c n k at =
    subst (λ (r : Result PartBook Refused). Audited r c.args.out.now c.report_book.new.out c.report_book.result) ((c.in-Ok.ensures.law.refused n k).1 at) (returns-in-Ok-clause-audited c)

pub returns-in-Ok-clause-stands : goal.returns-in-Ok-clause-stands
returns-in-Ok-clause-stands c =
    let bytes = c.args.input.now in
    let x = read (goal.at.returns-in-Ok-clause-stands c).After-report_book in
    let b = x.0 in
    on_written (report_text (length b.rows) (length (facts_of b)) x.2.0 x.2.1) c.args.out.now c.report_book.new.out (λ text. LastLine text (codes "stands") ↔ Kept bytes)
    c.report_book.result x.2.2.report.writes (book_stands bytes c.in-Ok.ensures.law b x.1 x.2.0 x.2.1 x.2.2.worlds)

pub returns-in-Ok-clause-clash : goal.returns-in-Ok-clause-clash
returns-in-Ok-clause-clash c =
    let bytes = c.args.input.now in
    let x = read (goal.at.returns-in-Ok-clause-clash c).After-report_book in
    let b = x.0 in
    on_written (report_text (length b.rows) (length (facts_of b)) x.2.0 x.2.1) c.args.out.now c.report_book.new.out
    (λ text. (p i : ℕ) (w : List ℕ) → LastLine text (clash_line p i w) → ShortestClash bytes p w i)
    c.report_book.result x.2.2.report.writes (book_clash bytes c.in-Ok.ensures.law b x.1 x.2.0 x.2.1 x.2.2.report.allowed x.2.2.letters x.2.2.bytes)

-- the refusal of an input
module _ (c : After-write_at) where
  no_book : file_read all_groups c.args.input.now ≡ Err (refused c.in-Err.fault)
  no_book = refusal_read (file_read all_groups c.args.input.now) (refused c.in-Err.fault) c.in-Err.ensures.answer

  line_written : Writes [] (fault_line (refused c.in-Err.fault)) 0 c.args.out.now c.write_at.new.out c.write_at.result
  line_written = subst (λ (text : List ℕ). Writes [] text 0 c.args.out.now c.write_at.new.out c.write_at.result) (c.as_bytes.ensures.value ∙ c.deref.ensures.0 ∙ c.fault_line.ensures) c.write_at.ensures

pub returns-in-Err-clause-refused : goal.returns-in-Err-clause-refused
returns-in-Err-clause-refused c n k at =
    subst (λ (r : Result PartBook Refused). Audited r c.args.out.now c.write_at.new.out c.write_at.result) (sym (no_book (goal.at.returns-in-Err-clause-refused c).After-write_at) ∙ (c.in-Err.ensures.law.refused n k).1 at) (line_written (goal.at.returns-in-Err-clause-refused c).After-write_at)

pub returns-in-Err-clause-stands : goal.returns-in-Err-clause-stands
returns-in-Err-clause-stands c =
    let bytes = c.args.input.now in
    on_written (fault_line (refused c.in-Err.fault)) c.args.out.now c.write_at.new.out (λ text. LastLine text (codes "stands") ↔ Kept bytes)
    c.write_at.result (line_written (goal.at.returns-in-Err-clause-stands c).After-write_at) (refusal_stands bytes c.in-Err.ensures.law (refused c.in-Err.fault) (no_book (goal.at.returns-in-Err-clause-stands c).After-write_at))

pub returns-in-Err-clause-clash : goal.returns-in-Err-clause-clash
returns-in-Err-clause-clash c =
    let bytes = c.args.input.now in
    on_written (fault_line (refused c.in-Err.fault)) c.args.out.now c.write_at.new.out
    (λ text. (p i : ℕ) (w : List ℕ) → LastLine text (clash_line p i w) → ShortestClash bytes p w i)
    c.write_at.result (line_written (goal.at.returns-in-Err-clause-clash c).After-write_at) (refusal_clash bytes c.in-Err.ensures.law (refused c.in-Err.fault) (no_book (goal.at.returns-in-Err-clause-clash c).After-write_at))

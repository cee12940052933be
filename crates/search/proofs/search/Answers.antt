-- What the search answers follows from what the walk through the same book does.
use Rattle.std.proofs.Common.{List, Some, None, ◌∙◌, subst, arith}
use Rattle.classes.specs.declared.ClassSet.{ClassSet}
use Rattle.book.specs.declared.sealed.Book.{Book}
use Rattle.search.specs.Graph.{Answer}
use Rattle.search.proofs.search.Goals as goal

pub returns-in_default-clause-searched : goal.returns-in_default-clause-searched
returns-in_default-clause-searched c =
    let w = c.new-walk.ensures in
    let a = subst (λ (P : List ClassSet). Answer P c.new-walk.result.book.now c.args.letters.now None) w.parts c.in_default.ensures.hunted in
    (omega arith, subst (λ (b : Book). Answer c.args.parts.now b c.args.letters.now None) w.book a)

pub returns-clause-searched : goal.returns-clause-searched
returns-clause-searched c =
    let w = c.new-walk.ensures in
    let s = c.in-Some.ensures.same in
    let ls = c.retrace.new.letters in
    let x = Some c.retrace.result in
    let a = subst (λ (P : List ClassSet). Answer P c.hunt.new.self.book.now ls x) (s.0 ∙ w.parts) c.retrace.ensures in
    (omega arith, subst (λ (b : Book). Answer c.args.parts.now b ls x) (s.1 ∙ w.book) a)

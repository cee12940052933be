use Rattle.terms.specs.Worlds.{rules_of}
use Rattle.terms.specs.Steps.{Within, AlwaysWithin}
use Rattle.book.specs.Books.{rows_of}
use Rattle.book.proofs.Reading.{within_answer, within_certain, within_none}
use Rattle.book.proofs.sealed.Book.within.Goals as goal

pub returns-then-class-ge64-clause-exact : goal.returns-then-class-ge64-clause-exact
returns-then-class-ge64-clause-exact c B = within_none (∥ Within (rules_of (rows_of c.args.self.now)) c.args.class B ∥₁) c.args.class B c.if-class-ge64.true

pub returns-then-class-ge64-clause-certain : goal.returns-then-class-ge64-clause-certain
returns-then-class-ge64-clause-certain c B = within_none (AlwaysWithin (rules_of (rows_of c.args.self.now)) c.args.class B) c.args.class B c.if-class-ge64.true

pub returns-clause-exact : goal.returns-clause-exact
returns-clause-exact c B =
    let b = c.args.self.now in
    rw c.from.ensures (within_answer b c.args.class B c.if-class-ge64.false)

pub returns-clause-certain : goal.returns-clause-certain
returns-clause-certain c B =
    let b = c.args.self.now in
    rw c.from.ensures (within_certain b c.args.class B c.if-class-ge64.false)

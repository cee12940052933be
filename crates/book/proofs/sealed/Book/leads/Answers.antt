use Rattle.std.proofs.Common.{◌≡◌, ℕ, ◌<◌, true, ◌↔◌, inl, inr, arith}
use Rattle.std.proofs.lemmas.Grind.{common_steps}
use Rattle.classes.specs.declared.ClassSet.{ClassSet}
use Rattle.classes.specs.Sets.{has}
use Rattle.terms.specs.Worlds.{rules_of}
use Rattle.terms.specs.Steps.{Leads, AlwaysLeads}
use Rattle.book.specs.declared.sealed.Book.{Book}
use Rattle.book.specs.Books.{rows_of}
use Rattle.book.specs.Tables.{set_at, table_at}
use Rattle.book.proofs.Reading.{leads_answer, leads_certain, leads_none, leads_none_certain}
use Rattle.book.proofs.sealed.Book.leads.Goals as goal

-- the set that the table has for a class by a feature
module _ (b : Book) (A f B : ℕ) {r : ClassSet} (a : A < 64) (h : f < 16) (e : r ≡ set_at (table_at b.tables.leads f) A) where
  read_exact : (has r B ≡ true) ↔ ∥ Leads (rules_of (rows_of b)) A f B ∥₁
  read_exact = rw e (leads_answer b A f B a h)

  read_certain : (has r B ≡ true) ↔ AlwaysLeads (rules_of (rows_of b)) A f B
  read_certain = rw e (leads_certain b A f B a h)

pub returns-then-class-ge64-clause-exact : goal.returns-then-class-ge64-clause-exact
returns-then-class-ge64-clause-exact c B =
    let b = c.args.self.now in
    leads_none b c.args.class c.args.feature B
    (elim c.then-class-ge64.either [ inl h ↦ inl h | inr h ↦ inr h.1 ])

pub returns-then-class-ge64-clause-certain : goal.returns-then-class-ge64-clause-certain
returns-then-class-ge64-clause-certain c B =
    let b = c.args.self.now in
    leads_none_certain b c.args.class c.args.feature B
    (elim c.then-class-ge64.either [ inl h ↦ inl h | inr h ↦ inr h.1 ])

pub returns-clause-exact : goal.returns-clause-exact
returns-clause-exact c B = read_exact c.args.self.now c.args.class c.args.feature B c.if-class-ge64.false c.if-feature-ge16.false (grind (arith, common_steps))

pub returns-clause-certain : goal.returns-clause-certain
returns-clause-certain c B = read_certain c.args.self.now c.args.class c.args.feature B c.if-class-ge64.false c.if-feature-ge16.false (grind (arith, common_steps))

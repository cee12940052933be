use Rattle.terms.specs.Worlds.{rules_of}
use Rattle.book.proofs.sealed.Book.of.Goals as goal

pub invariant_of-result : goal.invariant_of-result
invariant_of-result c =
    let rows = c.args.rows.items in
    let d = rw c.as_slice.ensures.value at c.of-links.ensures in record {
      room = rw c.as_slice.ensures.value at c.as_slice.ensures.fits;
      lawful = c.requires;
      steps = ∣ c.of-tables.ensures (rules_of rows) d ∣₁;
    }

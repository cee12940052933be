use Rattle.std.proofs.Common.{◌≡◌, ℕ, ◌<◌, true, ◌↔◌}
use Rattle.classes.specs.Sets.{has}
use Rattle.terms.specs.Worlds.{rules_of}
use Rattle.terms.specs.Verdicts.{Possible}
use Rattle.book.specs.Books.{rows_of}
use Rattle.possible.proofs.impossible.Given as goal

abbrev pub invariant-loop-class : goal.invariant-loop-class
invariant-loop-class l = (A : ℕ) → (has l.found A ≡ true) ↔ ((A < l.class) × (Possible (rules_of (rows_of l.book)) A → ⊥))

use mathlib.Core.Logic.{∥∥₁_map}
use Rattle.completion.proofs.rules.Rules.of.Goals as goal

pub returns-clause-meant : goal.returns-clause-meant
returns-clause-meant c = ∥∥₁_map c.args.book.now.steps (λ s. record { steps = s; direct = c.links.ensures })

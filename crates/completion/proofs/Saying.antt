-- What follows from the rules, or from one key, one after another.
use Rattle.terms.specs.declared.row.Row.{Row}
use Rattle.completion.specs.declared.growth.Growth.{Growth}
use Rattle.completion.specs.declared.rules.Rules.{Rules}
use Rattle.completion.specs.Closed.{Follows, Joins}
use Rattle.completion.proofs.Going.{went_none, went_then}

pub follows_then : {r : Rules} {g h k : Growth} → Follows r g h → Follows r h k → Follows r g k
follows_then a b = record { went = went_then a.went b.went; right = λ F m t. b.right F m (a.right F m t) }

pub joins_none : (row : Row) (g : Growth) → Joins row g g
joins_none row g = record { went = went_none g; right = λ R F k t. t }

pub joins_then : {row : Row} {g h k : Growth} → Joins row g h → Joins row h k → Joins row g k
joins_then a b = record { went = went_then a.went b.went; right = λ R F k t. b.right R F k (a.right R F k t) }

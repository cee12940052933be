use Rattle.std.proofs.Common.{refl}
use Rattle.book.proofs.Linking.{none_at}
use Rattle.possible.proofs.lone_part.Goals as goal

pub returns : goal.returns
returns c = record { here = refl; others = λ p. none_at 255 p }

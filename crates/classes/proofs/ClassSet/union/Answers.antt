-- The members of a union, and its value.
use Rattle.std.proofs.Common.{refl}
use Rattle.classes.proofs.Members.{has_joined}
use Rattle.classes.proofs.ClassSet.union.Goals as goal

pub returns : goal.returns
returns c = record { members = has_joined c.args.self c.args.other; value = refl }

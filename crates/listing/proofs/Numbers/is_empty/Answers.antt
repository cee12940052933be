use Rattle.std.proofs.Common.{◌∙◌, sym, arith}
use Rattle.listing.proofs.Joining.{numbers_none}
use Rattle.listing.proofs.Numbers.is_empty.Goals as goal

pub returns : goal.returns
returns c = c.is_empty.ensures ∙ sym (numbers_none c.args.self.0 (omega arith))

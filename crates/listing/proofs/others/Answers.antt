use Rattle.std.proofs.Common.{◌||◌, ◌&&◌, Bool, not, ltb, eqb, ap, ◌∙◌}
use Rattle.std.proofs.lemmas.Bool.{lt-ltb}
use Rattle.std.proofs.Math.Bool.{and-true}
use Rattle.classes.specs.Sets.{has}
use Rattle.classes.proofs.Members.{has_none}
use Rattle.listing.proofs.others.Goals as goal

pub returns : goal.returns
returns c = λ k l.
    c.minus.ensures k ∙ ap (λ (b : Bool). has c.args.set k && not b)
    (c.insert.ensures k ∙ ap (λ (b : Bool). b || (eqb k c.args.class && ltb k 64)) (has_none k) ∙ ap (λ (b : Bool). eqb k c.args.class && b) (lt-ltb k 64 l) ∙ and-true (eqb k c.args.class))

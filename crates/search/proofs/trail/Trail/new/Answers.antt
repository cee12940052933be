-- A trail with no pair.
use Rattle.std.proofs.Common.{arith}
use Rattle.book.proofs.Linking.{at_none}
use Rattle.search.specs.Pairs.{ordered, place_of}
use Rattle.search.proofs.Marking.{unmet_all}
use Rattle.search.proofs.trail.Trail.new.Goals as goal

pub invariant_of-result-clause-partners : goal.invariant_of-result-clause-partners
invariant_of-result-clause-partners c a d la ld =
    ((λ h. absurd (at_none 64 a d h)), (λ m. absurd (omega (arith, unmet_all 2080 (place_of (ordered a d)), m))))

pub returns : goal.returns
returns c q = unmet_all 2080 (place_of q)

use Rattle.std.proofs.Common.{rules, ◌≡◌, ℕ, ◌<◌}
use Rattle.completion.specs.Records.{alone, part_at}
use Rattle.completion.proofs.Filling.{filled_each, alone_shape}
use Rattle.completion.proofs.growth.Growth.new.Goals as goal
use Rattle.completion.proofs.growth.Growth.new.Goals.{After-new}

each : (c : After-new) → (p : ℕ) → p < 256 → part_at c.from_fn.result p ≡ alone p
each c = filled_each _ (λ p r. r ≡ alone p) (λ i y p q k. search rules) _ c.from_fn.result 256 _ c.from_fn.ensures.items

pub invariant_of-result : goal.invariant_of-result
invariant_of-result c = record { shape = alone_shape c.from_fn.result (each c) }

pub returns : goal.returns
returns c = record { each = each (goal.at.returns c).After-new; grown = c.new.ensures.grown; none = c.new.ensures.empty }

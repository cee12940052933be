use Rattle.std.proofs.Common.{rules, ◌≡◌, arith}
use Rattle.completion.specs.Records.{part_at}
use Rattle.book.proofs.Mapping.{maps_each}
use Rattle.completion.proofs.growth.Growth.records.Goals as goal

pub returns : goal.returns
returns c = λ p h.
    let parts = c.args.self.now.parts in
    maps_each _ (λ x y. y ≡ part_at parts x.leader) _ (λ x y q k. search rules) parts c.map.result _ _ 0 256 c.map.ensures.items.each p (omega arith) h

use Rattle.std.proofs.Common.{rules, ◌≡◌, arith}
use Rattle.book.proofs.Mapping.{maps_each}
use Rattle.judge.proofs.judging.classes_of.Goals as goal

pub returns : goal.returns
returns c = λ p h. maps_each _ (λ x y. y ≡ x.classes) _ (λ x y q k. search rules) c.args.parts.now c.map.result _ _ 0 256 c.map.ensures.items.each p (omega arith) h

use Rattle.std.proofs.Common.{refl, inl, inr, arith}
use Rattle.book.proofs.Legal.{lawful_classes, lawful_feature, row_legal, kind_is, rule_1, rule_3, rule_4, exclusion_silent, keyed_silent}
use Rattle.book.proofs.Linking.{push_as, adds_none, adds_sub, adds_val, adds_pull}
use Rattle.book.proofs.links.Links.add.Goals as goal

pub bounds-self-feature : goal.bounds-self-feature
bounds-self-feature c =
    let k = kind_is c.args.row c.try_from.ensures c.in-Ok.is c.in-Value.is in
    rw c.from-feature.ensures (lawful_feature c.args.row 3 c.requires k (inl refl))

pub bounds-self-feature-in-Pullback : goal.bounds-self-feature-in-Pullback
bounds-self-feature-in-Pullback c =
    let k = kind_is c.args.row c.try_from.ensures c.in-Ok.is c.in-Pullback.is in
    rw c.from-feature.ensures (lawful_feature c.args.row 4 c.requires k (inr refl))

pub returns-in-Subclass : goal.returns-in-Subclass
returns-in-Subclass c R d =
    let row = c.args.row in
    let k = kind_is row c.try_from.ensures c.in-Ok.is c.in-Subclass.is in
    let p = lawful_classes row c.requires in
    let h = rw c.from-left.ensures at c.insert.ensures in
    rw c.from-left.ensures (push_as R _ _ c.args.self.now _ (rule_1 row k) (row_legal row c.requires) (adds_sub c.args.self.now row.left row.right c.insert.new.self p.0 p.1 (omega arith) h) d)

pub returns-in-Value : goal.returns-in-Value
returns-in-Value c R d =
    let row = c.args.row in
    let k = kind_is row c.try_from.ensures c.in-Ok.is c.in-Value.is in
    let p = lawful_classes row c.requires in
    let f = lawful_feature row 3 c.requires k (inl refl) in
    let h = rw (c.from-feature.ensures, c.from-left.ensures) at c.insert-in-Value.ensures in
    let i = rw c.from-right.ensures at c.insert-in-Value-2.ensures in
    rw (c.from-feature.ensures, c.from-left.ensures, c.from-right.ensures) (push_as R _ _ c.args.self.now _ (rule_3 row k) (row_legal row c.requires)
    (adds_val c.args.self.now row.left row.right c.insert-in-Value.new.self p.0 p.1 _ c.insert-in-Value-2.new.self f (omega arith) (d.by_is _ f).long_ahead (omega arith) h i) d)

pub returns-in-Pullback : goal.returns-in-Pullback
returns-in-Pullback c R d =
    let row = c.args.row in
    let k = kind_is row c.try_from.ensures c.in-Ok.is c.in-Pullback.is in
    let p = lawful_classes row c.requires in
    let f = lawful_feature row 4 c.requires k (inr refl) in
    let h = rw (c.from-feature.ensures, c.from-left.ensures) at c.insert-in-Pullback.ensures in
    rw (c.from-feature.ensures, c.from-left.ensures) (push_as R _ _ c.args.self.now _ (rule_4 row k) (row_legal row c.requires)
    (adds_pull c.args.self.now row.left row.right c.insert-in-Pullback.new.self p.0 p.1 _ f (omega arith) (d.by_is _ f).long_behind h) d)

pub returns-in-Exclusion : goal.returns-in-Exclusion
returns-in-Exclusion c R d =
    let row = c.args.row in
    let g = row_legal row c.requires in
    elim c.in-Exclusion.is [
      | inl e ↦ push_as R _ _ c.args.self.now _ refl g (adds_none _ c.args.self.now (exclusion_silent row (kind_is row c.try_from.ensures c.in-Ok.is e))) d
      | inr e ↦ push_as R _ _ c.args.self.now _ refl g (adds_none _ c.args.self.now (keyed_silent row (kind_is row c.try_from.ensures c.in-Ok.is e))) d
    ]

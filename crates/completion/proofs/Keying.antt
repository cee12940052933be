-- What keys say of parts.
use Rattle.std.proofs.Common.{◌≡◌, ℕ, zero, suc, ◌<◌, List, [], ◌∷◌, length, get_or, refl, ap, ◌∙◌, arith}
use mathlib.Core.List.Memᴰ
use Rattle.terms.specs.declared.row.Row.{Row}
use Rattle.terms.specs.Worlds.{◌∈◌, Rule, key, rule_of, rules_of}
use Rattle.terms.specs.Facts.{Claim, one_object}
use Rattle.terms.specs.Completed.{Known, joined, keyed, on_none, on_one_more, turned}
use Rattle.terms.specs.Completed as completed
use Rattle.completion.specs.declared.record.PartRecord.{PartRecord}
use Rattle.completion.specs.Records.{Agree, Has, Right, RightOf, key_features, part_at}

-- parts whose right records agree on features agree on them
parts_agree : {R : List Rule} {F : List Claim} {p q : ℕ} {r s : PartRecord} → RightOf R F p r → RightOf R F q s → (fs : List ℕ) → Agree fs r s → completed.Agree R F p q fs
parts_agree x y [] a = on_none
parts_agree x y (f ∷ fs) a =
    let v = a f (Memᴰ.head refl) in
    let u = x.values f v.0 v.1 in
    let w = y.values f v.0 v.2 in
    on_one_more u.1 w.1 (joined u.2 (turned w.2)) (parts_agree x y fs (λ g m. a g (Memᴰ.tail m)))

-- parts to which a key applies are one object
pub known_keyed : {R : List Rule} {F : List Claim} (ps : List PartRecord) (row : Row) (p q : ℕ) → p < 256 → q < 256
    → key row.left row.right (key_features row) ∈ R → Right R F ps
    → Has (part_at ps p) row.left → Has (part_at ps q) row.right → Agree (key_features row) (part_at ps p) (part_at ps q) → Known R F (one_object p q)
known_keyed ps row p q l m k t x y a = keyed k ((t p l).classes row.left x) ((t q m).classes row.right y) (parts_agree (t p l) (t q m) (key_features row) a)

-- the rule of the row at a place is among the rules of the rows
rule_in : (rows : List Row) (k : ℕ) (d : Row) → k < length rows → rule_of (get_or rows k d) ∈ rules_of rows
rule_in [] k d h = absurd (omega arith)
rule_in (r ∷ rows) zero d h = Memᴰ.head refl
rule_in (r ∷ rows) (suc k) d h = Memᴰ.tail (rule_in rows k d (omega arith))

key_rule : (r : Row) → r.kind ≡ 5 → key r.left r.right (key_features r) ≡ rule_of r
key_rule r e = rw e

-- the key that such a row of the rows says
pub key_in : (rows : List Row) (k : ℕ) (d : Row) (r : Row) → r ≡ get_or rows k d → k < length rows → r.kind ≡ 5 → key r.left r.right (key_features r) ∈ rules_of rows
key_in rows k d r same h e = Memᴰ.cast (key_rule r e ∙ ap rule_of same) (rule_in rows k d h)

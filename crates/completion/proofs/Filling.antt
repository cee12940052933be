-- Arrays made by a closure, and records of which nothing is said but that each part is itself.
use Rattle.std.proofs.Common.{◌≡◌, ℕ, ◌<◌, List, None, get_or, replicate, ap, inl, inr, arith}
use Rattle.std.proofs.lemmas.Bool.{cases_lt}
use Rattle.std.proofs.lemmas.List.{get_or-replicate, get_or_past}
use Rattle.std.specs.Array.{IsFromFnResult}
use denote.Param.Members.{Mut, Called}
use Rattle.completion.specs.declared.record.PartRecord.{PartRecord}
use Rattle.completion.specs.Records.{Shape, alone, leader_of, part_at, value_by}

-- what each call of a closure gives, the array that it fills has at each place
module _ {F B : Type 0} (g : Mut F (ℕ × Unit {0}) B) (P : ℕ → B → Type 0) (step : (i : ℕ) (y : B) (p q : F) → Called g p (i, tt) y q → P i y) where
  pub filled_each : (f : F) (ys : List B) (n : ℕ) (e : B) → IsFromFnResult g f ys n → (i : ℕ) → i < n → P i (get_or ys i e)
  filled_each f ys n e r i h = let m = r.at i e h in step i (get_or ys i e) m.0 m.1 m.2

-- a part alone has no value
alone_untold : (p f : ℕ) → value_by (alone p) f ≡ None
alone_untold p f =
    elim (cases_lt f 16) [
      | inl l ↦ get_or-replicate 16 f None None l
      | inr l ↦ get_or_past (replicate 16 None) f None l
    ]

pub alone_shape : (ps : List PartRecord) → ((p : ℕ) → p < 256 → part_at ps p ≡ alone p) → Shape ps
alone_shape ps each =
    let leads : (p : ℕ) → p < 256 → leader_of ps p ≡ p = λ p h. ap (λ (r : PartRecord). r.leader) (each p h) in
    record {
      low = λ p h. let e = leads p h in omega arith;
      own = λ p h. ap (λ (q : ℕ). leader_of ps q) (leads p h);
      lead = λ p f v h e. let n = alone_untold p f in let s = ap (λ (r : PartRecord). value_by r f) (each p h) in cc;
    }

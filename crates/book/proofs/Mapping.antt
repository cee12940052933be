-- What a map of an array gives at each place, where no call changes the closure.
use Rattle.std.proofs.Common.{◌≡◌, ℕ, zero, suc, ◌+◌, ◌<◌, ◌≤◌, List, get_or, subst, inl, inr, arith}
use Rattle.std.proofs.lemmas.Bool.{cases_eq}
use Rattle.std.specs.Array.{MapsFrom}
use denote.Param.Members.{Mut, Called}

module _ {F A B : Type 0} (g : Mut F (A × Unit {0}) B) (P : A → B → Type 0) (f : F)
    (step : (x : A) (y : B) (q : F) → Called g f (x, tt) y q → (q ≡ f) × P x y) (xs : List A) (ys : List B) (d : A) (e : B) where
  pub maps_each : (i n : ℕ) → MapsFrom g f xs ys i n → (j : ℕ) → i ≤ j → j < i + n → P (get_or xs j d) (get_or ys j e)
  maps_each i zero m j l h = absurd (omega arith)
  maps_each i (suc n) m j l h =
      let s = step m.1 m.2 m.0 m.5 in
      elim (cases_eq j i) [
        | inl k ↦ rw (k, m.3.1 d, m.4.1 e) s.1
        | inr ne ↦ maps_each (i + 1) n (subst (λ (q : F). MapsFrom g q xs ys (i + 1) n) s.0 m.6) j (omega arith) (omega arith)
      ]

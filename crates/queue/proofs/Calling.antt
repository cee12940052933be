-- What a caller draws from the contracts of a line.
use Rattle.std.proofs.Common.{◌≡◌, ℕ, ◌+◌, ◌<◌, ◌≤◌, ltb, List, [], ◌∷◌, ◌++◌, length, Some, Ok, Err, Result, sym, ap, ◌∙◌, add-one, arith}
use Rattle.std.proofs.lemmas.Bool.{cond-true, lt-ltb, cond-false, le-ltb}
use Rattle.std.specs.Option.{option_to_list}
use Rattle.terms.specs.declared.refusal.Refusal.{Refusal}
use Rattle.terms.specs.Refusals.{numbered, ask, asked}
use Rattle.terms.proofs.Asking.{numbered_ok}
use Rattle.queue.specs.declared.Queue.{Queue}
use Rattle.queue.specs.Lines.{lengthened, places, waiting}
use Rattle.queue.proofs.Around.{around_length}

-- as many entries wait as the line counts
pub counted : {X : Type 0} (q : Queue X) → length (waiting q) ≡ q.len
counted q = around_length q.slots.now q.head q.len (omega (arith, q.first, q.fits)) q.fits

-- no more entries wait than there are places
pub none_over : {X : Type 0} (q : Queue X) → length (waiting q) ≤ places q
none_over q = let e = counted q in omega (arith, q.fits)

module _ {A X : Type 0} (a : A) (ws : List X) (n : ℕ) where
  -- what push answers with a place free, and with none
  pub place_free : length ws < n → asked (ask 6 (ltb (length ws) n) ∷ []) a ≡ Ok a
  place_free l = cond-true (ltb (length ws) n) (Ok a) (Err 6) (lt-ltb (length ws) n l)

  pub no_place_free : n ≤ length ws → asked (ask 6 (ltb (length ws) n) ∷ []) a ≡ Err 6
  no_place_free g = cond-false (ltb (length ws) n) (Ok a) (Err 6) (le-ltb (length ws) n g)

  -- with a place free the entry is taken and stands at the end
  pub push_taken : (r : Result A Refusal) (vs : List X) (x : X) → numbered r ≡ asked (ask 6 (ltb (length ws) n) ∷ []) a
      → vs ≡ lengthened r ws x → length ws < n → (r ≡ Ok a) × (vs ≡ ws ++ x ∷ [])
  push_taken r vs x e g l =
      let o : r ≡ Ok a = numbered_ok r a (e ∙ place_free l) in
      (o, g ∙ ap (λ (z : Result A Refusal). lengthened z ws x) o)

-- an entry that pop has taken waits no more
pub pop_shorter : {X : Type 0} (ws vs : List X) (x : X) → ws ≡ option_to_list (Some x) ++ vs → length ws ≡ length vs + 1
pop_shorter ws vs x e = ap length e ∙ sym (add-one (length vs))

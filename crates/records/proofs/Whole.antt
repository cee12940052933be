-- What a file gives, by its length.
use Rattle.std.proofs.Common.{◌≡◌, ℕ, ◌<◌, ◌≤◌, Bool, ltb, List, [], ◌∷◌, length, Ok, Err, Result, sym, ap}
use Rattle.std.proofs.lemmas.Bool.{lt-ltb, le-ltb}
use Rattle.terms.specs.Refusals.{ask, asked}
use Rattle.layout.specs.declared.Group.{Group}
use Rattle.records.specs.Faults.{Refused, at_record, onward}
use Rattle.records.specs.Books.{no_records}
use Rattle.records.specs.Reading.{read_after, file_read}

module _ (groups : List Group) (bytes : List ℕ) where
  file_asks : (t : Bool) → ltb (length bytes) 32768 ≡ t
      → file_read groups bytes ≡ onward (at_record 0 (asked (ask 15 t ∷ []) (tt {0}))) (λ _. read_after groups no_records bytes)
  file_asks t e = ap (λ (t : Bool). onward (at_record 0 (asked (ask 15 t ∷ []) (tt {0}))) (λ _. read_after groups no_records bytes)) e

  -- a file that is short enough is read record by record
  pub file_on : Ok tt ≡ at_record 0 (asked (ask 15 (ltb (length bytes) 32768) ∷ []) (tt {0})) → file_read groups bytes ≡ read_after groups no_records bytes
  file_on e = ap (λ (r : Result (Unit {0}) Refused). onward r (λ _. read_after groups no_records bytes)) (sym e)

  -- a file that is too long is refused as its record 0
  pub file_long : 32768 ≤ length bytes → file_read groups bytes ≡ Err (record { number_of = 15; index = 0 })
  file_long h = file_asks _ (le-ltb (length bytes) 32768 h)

  pub file_short : length bytes < 32768 → file_read groups bytes ≡ read_after groups no_records bytes
  file_short h = file_asks _ (lt-ltb (length bytes) 32768 h)

-- Faults: a refusal with the number of the record that met it.
use Rattle.std.specs.Prelude.{ℕ, List, ◌++◌, codes, decimal, Ok, Err, Result}
use Rattle.terms.specs.Refusals.{number, reason}
use Rattle.records.specs.declared.Fault.{Fault}

-- the number of a refusal, and that of the record, counted from 0
pub record Refused : Type 0 where
  pub number_of : ℕ
  pub index : ℕ

abbrev pub refused : Fault → Refused
refused f = record { number_of = number f.refusal; index = f.index }

-- an answer with the number of record k beside that of a refusal
abbrev pub at_record : {A : Type 0} → ℕ → Result A ℕ → Result A Refused
at_record k (Ok x) = Ok x
at_record k (Err n) = Err (record { number_of = n; index = k })

-- an answer with the refusal's number in the place of its name
abbrev pub numbered_fault : {A : Type 0} → Result A Fault → Result A Refused
numbered_fault (Ok x) = Ok x
numbered_fault (Err f) = Err (refused f)

-- what follows an answer that is not a refusal
abbrev pub onward : {A B : Type 0} → Result A Refused → (A → Result B Refused) → Result B Refused
onward (Ok x) next = next x
onward (Err e) next = Err e

-- "record K: " and the refusal in plain words
abbrev pub fault_text : Fault → List ℕ
fault_text f = codes "record " ++ (decimal f.index ++ (codes ": " ++ reason f.refusal))

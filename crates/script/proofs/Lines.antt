-- A line is read by its words.
use Rattle.std.proofs.Common.{◌≡◌, ◌∙◌, ℕ, sym, ap, map, decimal, drop, List, [], ◌∷◌, slice_index_or, ◌↔◌, Some, Ok, Err, Option, Result, IfOk, option_map}
use Rattle.script.specs.declared.ask.Ask.{Ask}
use Rattle.script.specs.Lines.{Meant, meant, words_of, Bytes, meant_by, IsLineOf}
use Rattle.script.proofs.Decimals.{decimals_injective}

module _ (m : Meant) (line name : List ℕ) (rest : List (List ℕ)) (ns : List ℕ) (r : Option Meant) (words : words_of line ≡ name ∷ rest) (low : Bytes ns) (numbers : rest ≡ map decimal ns)
    (e : r ≡ meant_by name ns) where
  says : r ≡ Some m → IsLineOf m line
  says h = record { name = name; numbers = ns; words = words ∙ ap (λ l. name ∷ l) numbers; bytes = low; asked = sym e ∙ h }

  said : IsLineOf m line → r ≡ Some m
  said l =
      let parts : name ∷ rest ≡ l.name ∷ map decimal l.numbers = sym words ∙ l.words in
      let first : name ≡ l.name = ap (λ x. slice_index_or x 0 []) parts in
      let others : ns ≡ l.numbers = decimals_injective ns l.numbers low l.bytes (sym numbers ∙ ap (drop 1) parts) in
      e ∙ (rw first (rw others l.asked))

  line_read : (r ≡ Some m) ↔ IsLineOf m line
  line_read = (says, said)

-- what was read, where memory did not fail
pub line_read_if_ok : {E : Type 0} (line name : List ℕ) (rest : List (List ℕ)) (ns : List ℕ) (r : Result (Option Ask) E) → words_of line ≡ name ∷ rest → Bytes ns → rest ≡ map decimal ns
    → IfOk r (λ o. option_map meant o ≡ meant_by name ns) → IfOk r (λ o. (m : Meant) → (option_map meant o ≡ Some m) ↔ IsLineOf m line)
line_read_if_ok line name rest ns (Ok o) words low numbers e = λ m. line_read m line name rest ns (option_map meant o) words low numbers e
line_read_if_ok line name rest ns (Err x) words low numbers e = tt

-- Texts, and what it is to write one into a buffer that is lent.
use Rattle.std.specs.Prelude.{◌≡◌, ℕ, ◌+◌, ◌-◌, Bool, ◌&&◌, List, [], ◌∷◌, ◌++◌, length, take, drop, OnErr, OnOk, Result, nat_le}
use Rattle.terms.specs.declared.refusal.Refusal.{Refusal}
use Rattle.terms.specs.Refusals.{Question, ask, asked, numbered}
use Rattle.judge.specs.declared.text.Text.{Text}

abbrev pub said : Text → List ℕ
said t = t.bytes.items

-- the buffer with the text from the place on
abbrev pub placed : List ℕ → ℕ → List ℕ → List ℕ
placed out place text = take place out ++ (text ++ drop (place + length text) out)

-- does the place lie in the buffer or at its end, and does the text fit?
abbrev pub fits : List ℕ → ℕ → List ℕ → Bool
fits out place text = nat_le place (length out) && nat_le (length text) (length out - place)

-- after the questions asked before, whether the text fits; its length is answered, and it stands from the place on, or nothing changes
pub record Writes (before : List Question) (text : List ℕ) (place : ℕ) (old new : List ℕ) (r : Result ℕ Refusal) : Type 0 where
  pub answer : numbered r ≡ asked (before ++ (ask 11 (fits old place text) ∷ [])) (length text)
  pub written : OnOk r (new ≡ placed old place text)
  pub unchanged : OnErr r (new ≡ old)

-- Runs: calls one after another, each as its own contract has it and begun from what the one before it handed on.
use Rattle.std.specs.Prelude.{◌≡◌, ℕ, List, [], ◌∷◌, None}
use Rattle.terms.specs.declared.fact.Fact.{Fact}
use Rattle.terms.specs.Worlds.{rules_of}
use Rattle.book.specs.declared.sealed.Book.{Book}
use Rattle.book.specs.Books.{rows_of}
use Rattle.stores.specs.Meaning.{Tells}
use Rattle.judge.specs.declared.sheet.Sheet.{Sheet}
use Rattle.judge.specs.Judging.{Judges}
use Rattle.judge.specs.Asking.{MemberSays, SameSays, WordSays}
use Rattle.runs.specs.Events.{Event, tell, judge, member, same, word}
use Rattle.runs.specs.Law.{Law}

-- one call on a sealed book, a store of a make whose states are X, and a sheet
abbrev pub Step : {X : Type 0} → (X → List Fact) → (X → ℕ) → Book → X → Sheet → Event → X → Sheet → Type 0
Step facts room b x s (tell f r) y t = Tells (facts x) (room x) f r (facts y) (room y) × (t ≡ s)
Step facts room b x s (judge m n r) y t = Judges b (facts x) s m n r t × (y ≡ x)
Step facts room b x s (member p w A r) y t = MemberSays s p w A r × (y ≡ x) × (t ≡ s)
Step facts room b x s (same p q r) y t = SameSays s p q r × (y ≡ x) × (t ≡ s)
Step facts room b x s (word k o n r) y t = WordSays s k o n r × (y ≡ x) × (t ≡ s)

pub data Run {X : Type 0} (facts : X → List Fact) (room : X → ℕ) (b : Book) : X → Sheet → List Event → X → Sheet → Type 0 where
  done : {x : X} {s : Sheet} → Run facts room b x s [] x s
  next : {x y z : X} {s t u : Sheet} {e : Event} {es : List Event} → Step facts room b x s e y t → Run facts room b y t es z u → Run facts room b x s (e ∷ es) z u

-- every run from a new sheet keeps the law
abbrev pub RunsKeepTheLaw : {X : Type 0} → (X → List Fact) → (X → ℕ) → Book → Type 0
RunsKeepTheLaw {X} facts room b =
    (x y : X) (s t : Sheet) (calls : List Event) → s.judgement ≡ None → Run facts room b x s calls y t
    → Law (rules_of (rows_of b)) (facts x) calls

-- Texts written one after another, and the numbers of a set's classes.
use Rattle.std.proofs.Common.{◌≡◌, ℕ, zero, suc, ◌+◌, ◌<◌, ◌^◌, Bool, true, false, cond, not, ◌&&◌, eqb, List, [], ◌∷◌, ◌++◌, length, decimal, sym, refl, ap, ◌∙◌, inl, inr, add-one, append-nil, append_assoc, arith, Some, None, Option, Ok, Result}
use Rattle.std.specs.declared.fmt.Formatter.{Formatter}
use Rattle.std.specs.declared.fmt.Error.{Error}
use Rattle.std.specs.Fmt.{HasWritten, IsPlainFormatter, DisplaysOnOk, ◌++?◌}
use Rattle.std.proofs.Output.{has_written_append}
use Rattle.std.proofs.lemmas.List.{length-append}
use Rattle.std.proofs.lemmas.Bool.{cases_Bool, cases_eq, cases_lt, eq-eqb, ne_eqb, and_left, and_right}
use Rattle.std.proofs.Math.Bool.{and-true}
use Rattle.classes.specs.declared.ClassSet.{ClassSet}
use Rattle.classes.specs.Sets.{has, none, weight, Took}
use Rattle.classes.proofs.Members.{has_none, has_past, empty_none, extensional}
use Rattle.listing.specs.Lines.{joined_below, line, number_if, numbers, line_of}

module _ {W : Type 0} (took : W → List ℕ → W → Type 0) where
  -- before the first turn nothing is written
  pub written_none : (f : Formatter W) (text : ℕ → List ℕ) → IsPlainFormatter f → HasWritten took f (joined_below 0 text) f
  unfolding joined_below
  written_none f text p = record { wrote = record { parts = []; calls = refl; whole = refl }; plain = p }

  -- a turn writes one text more
  pub written_more : (f g h : Formatter W) (text : ℕ → List ℕ) (n : ℕ) → HasWritten took f (joined_below n text) g → HasWritten took g (text n) h
      → HasWritten took f (joined_below (n + 1) text) h
  unfolding joined_below
  written_more f g h text n before turn = rw add-one (has_written_append took f (joined_below n text) g (text n) h before turn)

-- texts that are the same below n are the same one after another
pub joined_same : (n : ℕ) (p q : ℕ → List ℕ) → ((k : ℕ) → k < n → p k ≡ q k) → joined_below n p ≡ joined_below n q
unfolding joined_below
joined_same zero p q same = refl
joined_same (suc n) p q same =
    ap (λ (xs : List ℕ). xs ++ p n) (joined_same n p q (λ k l. same k (omega arith))) ∙ ap (λ (xs : List ℕ). joined_below n q ++ xs) (same n (omega arith))

pub numbers_same : (p q : ℕ → Bool) → ((k : ℕ) → k < 64 → p k ≡ q k) → numbers p ≡ numbers q
numbers_same p q same = joined_same 64 (number_if p) (number_if q) (λ k l. ap (λ (b : Bool). cond b (32 ∷ decimal k) []) (same k l))

pub line_same : (heading : List ℕ) (p q : ℕ → Bool) → ((k : ℕ) → k < 64 → p k ≡ q k) → line heading p ≡ line heading q
line_same heading p q same = ap (λ (ns : List ℕ). cond (eqb (length ns) 0) [] (heading ++ (ns ++ (10 ∷ [])))) (numbers_same p q same)

-- nothing is written where no text is
joined_nil : (n : ℕ) (text : ℕ → List ℕ) → length (joined_below n text) ≡ 0 → (k : ℕ) → k < n → length (text k) ≡ 0
unfolding joined_below
joined_nil zero text void k l = absurd (omega arith)
joined_nil (suc n) text void k l =
    let a = length-append (joined_below n text) (text n) in
    elim (cases_eq k n) [
      | inl e ↦ rw e (omega arith)
      | inr ne ↦ joined_nil n text (omega arith) k (omega arith)
    ]

number_nil : (p : ℕ → Bool) (k : ℕ) → length (number_if p k) ≡ 0 → p k ≡ false
number_nil p k void =
    elim (cases_Bool (p k)) [
      | inl kept ↦ let z : length (number_if p k) ≡ suc (length (decimal k)) = ap (λ (b : Bool). length (cond b (32 ∷ decimal k) [])) kept in absurd (omega arith)
      | inr lacking ↦ lacking
    ]

no_texts : (n : ℕ) → joined_below n (number_if (λ _. false)) ≡ []
unfolding joined_below
no_texts zero = refl
no_texts (suc n) = append-nil (joined_below n (number_if (λ _. false))) ∙ no_texts n

no_numbers : (n : ℕ) (p : ℕ → Bool) → ((k : ℕ) → k < n → p k ≡ false) → joined_below n (number_if p) ≡ []
no_numbers n p lacks = joined_same n (number_if p) (number_if (λ _. false)) (λ k l. ap (λ (b : Bool). cond b (32 ∷ decimal k) []) (lacks k l)) ∙ no_texts n

-- a set without a class has no numbers, and another has some
pub numbers_none : (s : ClassSet) → weight s < 2 ^ 64 → eqb (length (numbers (has s))) 0 ≡ eqb (weight s) 0
numbers_none s fits =
    elim (cases_eq (weight s) 0) [
      | inl e ↦
          let z = empty_none s e in
          let n : length (numbers (has s)) ≡ 0 = ap (λ (x : ClassSet). length (numbers (has x))) z ∙ ap length (no_numbers 64 (has none) (λ k _. has_none k)) in
          eq-eqb (length (numbers (has s))) 0 n ∙ sym (eq-eqb (weight s) 0 e)
      | inr ne ↦
          ne_eqb (length (numbers (has s))) 0 (λ e. ne (ap weight (extensional s none fits (omega arith) (lacks e)))) ∙ sym (ne_eqb (weight s) 0 ne)
    ]
  where
    lacks : length (numbers (has s)) ≡ 0 → (k : ℕ) → has s k ≡ has none k
    lacks e k =
        elim (cases_lt k 64) [
          | inl l ↦ number_nil (has s) k (joined_nil 64 (number_if (has s)) e k l) ∙ sym (has_none k)
          | inr l ↦ has_past s k fits l ∙ sym (has_none k)
        ]

-- what a heading and the numbers of a set print
module _ {W : Type 0} (took : W → List ℕ → W → Type 0) where
  pub lines_none : (f : Formatter W) (heading : Option (List ℕ)) (p : ℕ → Bool) → true ≡ eqb (length (numbers p)) 0
      → DisplaysOnOk took f (Ok tt) (line_of heading p) f
  lines_none f None p e = tt
  lines_none f (Some heading) p e =
      rw (← e) (λ plain _. record { wrote = record { parts = []; calls = refl; whole = refl }; plain = plain })

  pub lines_some : (f g : Formatter W) (r : Result (Unit {0}) Error) (heading : Option (List ℕ)) (p : ℕ → Bool) → false ≡ eqb (length (numbers p)) 0
      → DisplaysOnOk took f r (heading ++? Some (numbers p ++ (10 ∷ []))) g → DisplaysOnOk took f r (line_of heading p) g
  lines_some f g r None p e w = tt
  lines_some f g r (Some heading) p e w = rw (← e) w

-- the number of the lowest class stands before those of the classes that are left
module _ (s : ClassSet) (c : ℕ) (t : ClassSet) (took : Took s c t) where
  lower : (k : ℕ) → k < c → has t k ≡ false
  lower k l = took.rest k ∙ and_left (has s k) (not (eqb k c)) (took.first k l)

  other : (k : ℕ) → (k ≡ c → ⊥) → has s k ≡ has t k
  other k ne = sym (took.rest k ∙ ap (λ (b : Bool). has s k && not b) (ne_eqb k c ne) ∙ and-true (has s k))

  lowest_first : (n : ℕ) → c < n → joined_below n (number_if (has s)) ≡ (32 ∷ decimal c) ++ joined_below n (number_if (has t))
  unfolding joined_below
  lowest_first zero l = absurd (omega arith)
  lowest_first (suc n) l =
      let text : Bool → List ℕ = λ b. cond b (32 ∷ decimal n) [] in
      elim (cases_eq c n) [
        | inl e ↦
            let left : has t n ≡ false = took.rest n ∙ and_right (has s n) (not (eqb n c)) (ap not (eq-eqb n c (sym e))) in
            ap (λ (xs : List ℕ). xs ++ text (has s n)) (no_numbers n (has s) (λ k h. took.first k (omega arith)))
            ∙ ap text (ap (has s) (sym e) ∙ took.was) ∙ ap (λ (k : ℕ). 32 ∷ decimal k) (sym e) ∙ sym (append-nil (32 ∷ decimal c))
            ∙ ap (λ (xs : List ℕ). (32 ∷ decimal c) ++ xs) (sym (ap (λ (xs : List ℕ). xs ++ text (has t n)) (no_numbers n (has t) (λ k h. lower k (omega arith))) ∙ ap text left))
        | inr ne ↦
            ap (λ (xs : List ℕ). xs ++ text (has s n)) (lowest_first n (omega arith))
            ∙ append_assoc (32 ∷ decimal c) (joined_below n (number_if (has t))) (text (has s n))
            ∙ ap (λ (b : Bool). (32 ∷ decimal c) ++ (joined_below n (number_if (has t)) ++ text b)) (other n (λ e. ne (sym e)))
      ]

  pub first_number : numbers (has s) ≡ (32 ∷ decimal c) ++ numbers (has t)
  first_number = lowest_first 64 took.low

pub numbers_of_none : numbers (has none) ≡ []
numbers_of_none = no_numbers 64 (has none) (λ k _. has_none k)

-- Lines of text: the last one of a report or of a refusal, and what the line of a clash names.
use Rattle.std.proofs.Common.{◌≡◌, ℕ, zero, suc, ◌+◌, ◌/◌, ◌%◌, ◌^◌, ◌<◌, ◌≤◌, Bool, true, false, not, cond, eqb, ltb, List, [], ◌∷◌, ◌++◌, length, get_or, drop, codes, decimal, refl, sym, ap, ◌∙◌, inl, inr, arith, append_assoc, pow-suc}
use Rattle.std.proofs.Math.Nat.{one-le-pow}
use Rattle.std.specs.List.{list_all}
use Rattle.std.specs.Fmt.{digit_glyph, digits_onto, digits}
use Rattle.std.specs.Str.Parse.{digits_value}
use Rattle.std.proofs.lemmas.Bool.{false≢true, and_parts, and_from, cases_lt, cond_both, ltb-true, ne_eqb, not_from_false}
use Rattle.std.proofs.lemmas.Fmt.{decimal_is_IsNumeral_wide, length-decimal-le}
use Rattle.std.proofs.lemmas.List.{append_cancel_right}
use Rattle.std.proofs.lemmas.List.Folds.{list_all-append}
use Rattle.search.specs.declared.Found.{Found}
use Rattle.judge.specs.declared.verdict.Verdict.{Verdict}
use Rattle.judge.specs.declared.verdict.Verdict.TheVariants.{Stands, Clash}
use Rattle.judge.specs.Verdicts.{clash_line, low, numbers, report_text, saying}
use Rattle.records.specs.Faults.{Refused}
use Rattle.audit.specs.Audits.{LastLine, fault_line}

-- is the byte c nowhere in the list?
abbrev pub lacks : ℕ → List ℕ → Bool
lacks c bytes = list_all (λ b. not (eqb b c)) bytes

-- the line holds no end of a line
abbrev pub NoEnd : List ℕ → Type 0
NoEnd line = lacks 10 line ≡ true

no_end_both : (x y : List ℕ) → NoEnd x → NoEnd y → NoEnd (x ++ y)
no_end_both x y p q = list_all-append (λ b. not (eqb b 10)) x y ∙ and_from (lacks 10 x) (lacks 10 y) p q

has_end : (x y : List ℕ) → NoEnd (x ++ 10 ∷ y) → ⊥
has_end x y e = false≢true (and_parts (lacks 10 x) false (sym (list_all-append (λ b. not (eqb b 10)) x (10 ∷ y)) ∙ e)).1

-- what follows the last end of a line is one thing
after_last : (x u y v : List ℕ) → NoEnd y → NoEnd v → x ++ 10 ∷ y ≡ u ++ 10 ∷ v → y ≡ v
after_last [] [] y v p q e = ap (drop 1) e
after_last [] (b ∷ u) y v p q e = absurd (has_end u v (sym (ap (lacks 10) (ap (drop 1) e)) ∙ p))
after_last (a ∷ x) [] y v p q e = absurd (has_end x y (ap (lacks 10) (ap (drop 1) e) ∙ q))
after_last (a ∷ x) (b ∷ u) y v p q e = after_last x u y v p q (ap (drop 1) e)

-- where the end of its last line is taken off, a text ends with what the line says
cut_end : (text front line : List ℕ) → text ++ 10 ∷ [] ≡ front ++ 10 ∷ (line ++ 10 ∷ []) → text ≡ front ++ 10 ∷ line
cut_end text front line e = append_cancel_right text (front ++ 10 ∷ line) (10 ∷ []) (e ∙ sym (append_assoc front (10 ∷ line) (10 ∷ [])))

-- a text has one last line
pub same_last : (text a b : List ℕ) → NoEnd a → NoEnd b → LastLine text a → LastLine text b → a ≡ b
same_last text a b p q s t = after_last s.0 t.0 a b p q (cut_end (s.0 ++ 10 ∷ a) t.0 b (append_assoc s.0 (10 ∷ a) (10 ∷ []) ∙ sym s.1 ∙ t.1))

glyph_least : (d : ℕ) → 48 ≤ digit_glyph false d
glyph_least d = cond_both (ltb d 10) (48 + d) (87 + d) (λ x. 48 ≤ x) (λ _. omega arith) (λ _. omega arith)

onto_lacks : (c k n : ℕ) (after : List ℕ) → c < 48 → lacks c after ≡ true → lacks c (digits_onto k 10 false n after) ≡ true
onto_lacks c zero n after l h = h
onto_lacks c (suc k) n after l h =
    let digit = not_from_false _ (ne_eqb (digit_glyph false (n % 10)) c (λ e. omega (arith, glyph_least (n % 10)))) in
    let more = and_from _ (lacks c after) digit h in
    cond_both (eqb (n / 10) 0) _ _ (λ x. lacks c x ≡ true) (λ _. more) (λ _. onto_lacks c k (n / 10) _ l more)

-- no byte of a decimal is below that of the digit 0
decimal_lacks : (c n : ℕ) → c < 48 → lacks c (decimal n) ≡ true
unfolding digits
decimal_lacks c n l = onto_lacks c 64 n [] l refl

decimal_no_end : (n : ℕ) → NoEnd (decimal n)
decimal_no_end n = decimal_lacks 10 n (omega arith)

numbers_no_end : (w : List ℕ) → NoEnd (numbers w)
numbers_no_end [] = refl
numbers_no_end (n ∷ w) = no_end_both (decimal n) (numbers w) (decimal_no_end n) (numbers_no_end w)

pub stands_no_end : NoEnd (codes "stands")
stands_no_end = refl

pub clash_no_end : (p i : ℕ) (w : List ℕ) → NoEnd (clash_line p i w)
clash_no_end p i w = no_end_both (decimal p) _ (decimal_no_end p) (no_end_both (decimal i) _ (decimal_no_end i) (numbers_no_end w))

-- what a report has before its verdict
abbrev counts : ℕ → ℕ → List ℕ
counts n m = codes "rules" ++ ((32 ∷ decimal n) ++ (codes "\nfacts" ++ (32 ∷ decimal m)))

report_parts : (n m : ℕ) (v : Verdict) (w : List ℕ) → report_text n m v w ≡ counts n m ++ 10 ∷ (saying v).line w
report_parts n m v w = simp append_assoc

pub report_stands : (n m : ℕ) (w : List ℕ) → LastLine (report_text n m Stands w) (codes "stands")
report_stands n m w = (counts n m, report_parts n m Stands w)

clash_ends : (k : Found) (w : List ℕ) → (saying (Clash k)).line w ≡ clash_line k.part k.row w ++ 10 ∷ []
clash_ends k w = simp append_assoc

pub report_clash : (n m : ℕ) (k : Found) (w : List ℕ) → LastLine (report_text n m (Clash k) w) (clash_line k.part k.row w)
report_clash n m k w = (counts n m, report_parts n m (Clash k) w ∙ ap (λ l. counts n m ++ 10 ∷ l) (clash_ends k w))

-- the line of a refusal stands alone, and so is not the last of a text with a line before it
pub refusal_has_none : (e : Refused) (line : List ℕ) → LastLine (fault_line e) line → ⊥
refusal_has_none e line s =
    let number = decimal e.number_of in
    let index = decimal e.index in
    let words = codes "refused " ++ (number ++ (codes " record " ++ index)) in
    let ended : words ++ 10 ∷ [] ≡ fault_line e = simp append_assoc in
    let alone : NoEnd words = no_end_both number _ (decimal_no_end e.number_of) (decimal_no_end e.index) in
    has_end s.0 line (sym (ap (lacks 10) (cut_end words s.0 line (ended ∙ s.1))) ∙ alone)

pub stands_no_clash : (p i : ℕ) (w : List ℕ) → codes "stands" ≡ clash_line p i w → ⊥
stands_no_clash p i w e = let first = ap (λ l. get_or l 0 0) e in omega arith

-- the list is empty or begins with a blank
abbrev Apart : List ℕ → Type 0
Apart x = get_or x 0 32 ≡ 32

apart_numbers : (w : List ℕ) → Apart (numbers w)
apart_numbers [] = refl
apart_numbers (n ∷ w) = refl

-- what stands before the first blank is one thing, and so is the rest
first_blank : (a b x y : List ℕ) → lacks 32 a ≡ true → lacks 32 b ≡ true → Apart x → Apart y → a ++ x ≡ b ++ y → (a ≡ b) × (x ≡ y)
first_blank [] [] x y p q s t e = (refl, e)
first_blank [] (d ∷ b) x y p q s t e = absurd (false≢true (ap (λ c. lacks 32 (c ∷ b)) (sym s ∙ ap (λ l. get_or l 0 32) e) ∙ q))
first_blank (c ∷ a) [] x y p q s t e = absurd (false≢true (ap (λ d. lacks 32 (d ∷ a)) (sym t ∙ sym (ap (λ l. get_or l 0 32) e)) ∙ p))
first_blank (c ∷ a) (d ∷ b) x y p q s t e =
    let rest = first_blank a b x y (and_parts _ (lacks 32 a) p).1 (and_parts _ (lacks 32 b) q).1 s t (ap (drop 1) e) in
    let first : c ≡ d = ap (λ l. get_or l 0 0) e in
    (rw (first, rest.0), rest.1)

onto_fills : (k n : ℕ) (after : List ℕ) → 10 ^ k ≤ n → length (digits_onto k 10 false n after) ≡ k + length after
onto_fills zero n after l = omega arith
onto_fills (suc k) n after l =
    let front : 10 ^ k ≤ n / 10 = omega (arith, pow-suc 10 k) in
    let some : eqb (n / 10) 0 ≡ false = ne_eqb (n / 10) 0 (λ z. omega (arith, one-le-pow k 10 (omega arith))) in
    let more = digit_glyph false (n % 10) ∷ after in
    ap (λ b. length (cond b more (digits_onto k 10 false (n / 10) more))) some ∙ onto_fills k (n / 10) more front ∙ omega arith

-- a decimal has no more than 64 digits: of a longer number the last ones
long_decimal : (n : ℕ) → 10 ^ 64 ≤ n → length (decimal n) ≡ 64
unfolding digits
long_decimal n l = onto_fills 64 n [] l

-- the decimal of a number of 64 bits is no other number's
decimal_tells : (m n : ℕ) → m < 2 ^ 64 → decimal m ≡ decimal n → m ≡ n
decimal_tells m n small e =
    elim (cases_lt n (10 ^ 64)) [
      | inl l ↦ sym (decimal_is_IsNumeral_wide m (omega arith)).1 ∙ ap (digits_value 10) e ∙ (decimal_is_IsNumeral_wide n l).1
      | inr l ↦ absurd (omega (arith, length-decimal-le 20 m (omega arith) (omega arith) small, long_decimal n l, ap length e))
    ]

number_tells : (m n : ℕ) (x y : List ℕ) → m < 2 ^ 64 → Apart x → Apart y → decimal m ++ x ≡ decimal n ++ y → (m ≡ n) × (x ≡ y)
number_tells m n x y small s t e =
    let cut = first_blank (decimal m) (decimal n) x y (decimal_lacks 32 m (omega arith)) (decimal_lacks 32 n (omega arith)) s t e in
    (decimal_tells m n small cut.0, cut.1)

numbers_tell : (w v : List ℕ) → low w ≡ true → numbers w ≡ numbers v → w ≡ v
numbers_tell [] [] l e = refl
numbers_tell [] (n ∷ v) l e = absurd cc
numbers_tell (m ∷ w) [] l e = absurd cc
numbers_tell (m ∷ w) (n ∷ v) l e =
    let parts = and_parts (ltb m 16) (low w) l in
    let cut = number_tells m n (numbers w) (numbers v) (omega (arith, ltb-true m 16 parts.0)) (apart_numbers w) (apart_numbers v) (ap (drop 1) e) in
    rw (cut.0, numbers_tell w v parts.1 cut.1)

-- the line of a part and a row of 64 bits and a word of features is that of no other clash
pub clash_same : (p i q j : ℕ) (w v : List ℕ) → p < 2 ^ 64 → i < 2 ^ 64 → low w ≡ true → clash_line p i w ≡ clash_line q j v → (p ≡ q) × (i ≡ j) × (w ≡ v)
clash_same p i q j w v part row l e =
    let first = number_tells p q _ _ part refl refl (ap (drop 11) e) in
    let next = number_tells i j _ _ row refl refl (ap (drop 5) first.1) in
    (first.0, next.0, numbers_tell w v l (ap (drop 5) next.1))

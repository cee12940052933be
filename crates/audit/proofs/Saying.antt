-- What the last line of an audit says.
use Rattle.std.proofs.Common.{◌≡◌, ℕ, ◌+◌, Bool, true, false, ◌↔◌, List, [], ◌∷◌, ◌++◌, length, take, drop, codes, Ok, Err, Result, IfOk, sym, ap, ◌∙◌, subst, refl, ◌<◌, ◌^◌, arith}
use mathlib.Core.Logic.{∥∥₁_elim, ∥∥₁_map}
use mathlib.Core.HLevel.{⊥_prop}
use Rattle.std.proofs.lemmas.List.{take_at}
use Rattle.search.specs.declared.Found.{Found}
use Rattle.terms.specs.declared.refusal.Refusal.{Refusal}
use Rattle.terms.specs.Refusals.{ask, asked}
use Rattle.terms.specs.Worlds.{Rule, World, rules_of}
use Rattle.terms.specs.Facts.{Claim, KeepsBook, claims_of}
use Rattle.terms.specs.Verdicts.{Shortest}
use Rattle.judge.specs.declared.verdict.Verdict.{Verdict}
use Rattle.judge.specs.declared.verdict.Verdict.TheVariants.{Stands, Clash}
use Rattle.judge.specs.Texts.{Writes, fits}
use Rattle.judge.specs.Verdicts.{clash_line, low, report_text, saying}
use Rattle.records.specs.Faults.{Refused, onward}
use Rattle.records.specs.Books.{PartBook, facts_of}
use Rattle.records.specs.Reading.{LayoutLaw, all_groups, file_read}
use Rattle.records.specs.Opened.{Content, said_by}
use Rattle.audit.specs.Audits.{Allowed, Kept, LastLine, ShortestClash, claims_in, fault_line}
use Rattle.audit.proofs.Claims.{all_claims, judged_claims, keeps_into, shortest_same}
use Rattle.audit.proofs.Lines.{same_last, stands_no_end, clash_no_end, report_stands, report_clash, refusal_has_none, stands_no_clash, clash_same}

-- a result is one thing only
module _ (r : Result PartBook Refused) where
  never_both : (b : PartBook) (e : Refused) → r ≡ Ok b → r ≡ Err e → ⊥
  never_both b e p q = cc

  same_book : (a b : PartBook) → r ≡ Ok a → r ≡ Ok b → a ≡ b
  same_book a b p q = cc

-- what a reader answered is what the file gives
pub book_read : (r : Result PartBook Refused) (x : Content) → Ok x ≡ onward r (λ b. Ok (said_by b)) → (b : PartBook) × (r ≡ Ok b) × (said_by b ≡ x)
book_read (Ok b) x e = (b, refl, cc)
book_read (Err f) x e = absurd cc

pub refusal_read : (r : Result PartBook Refused) (f : Refused) → Err f ≡ onward r (λ b. let z : Result Content Refused = Ok (said_by b) in z) → r ≡ Err f
refusal_read (Ok b) f e = absurd cc
refusal_read (Err g) f e = let x : f ≡ g = cc in ap (λ (z : Refused). let y : Result PartBook Refused = Err z in y) (sym x)

-- what holds of the text holds of the bytes that were written
module _ (text old new : List ℕ) (P : List ℕ → Type 0) where
  written_by : (t : Bool) (n : ℕ) → Ok n ≡ asked (ask 11 t ∷ []) (length text) → n ≡ length text
  written_by true n e = cc
  written_by false n e = absurd cc

  pub on_written : (r : Result ℕ Refusal) → Writes [] text 0 old new r → P text → IfOk r (λ n. P (take n new))
  on_written (Err e) w h = tt
  on_written (Ok n) w h =
      let l = written_by (fits old 0 text) n w.answer in
      let z : 0 + length text ≡ length text = omega arith in
      subst P (sym (ap (λ (k : ℕ). take k new) l ∙ ap (take (length text)) w.written ∙ ap (λ (k : ℕ). take (length text) (text ++ drop k old)) z ∙ take_at text (drop (length text) old) (length text) refl)) h

below : {n : ℕ} → n < 256 → n < 2 ^ 64
below h = omega (arith, h)

-- the lines of a report, where some lines are those of stands and of clashes
stands_only : (n m : ℕ) (v : Verdict) (w : List ℕ) → LastLine (report_text n m v w) (codes "stands") → v ≡ Stands
stands_only n m Stands w l = refl
stands_only n m (Clash k) w l =
    absurd (stands_no_clash k.part k.row w (same_last (report_text n m (Clash k) w) (codes "stands") (clash_line k.part k.row w) stands_no_end (clash_no_end k.part k.row w) l (report_clash n m k w)))

clash_only : (n m : ℕ) (v : Verdict) (w u : List ℕ) (p i : ℕ) → low w ≡ true → ((k : Found) → v ≡ Clash k → (k.part < 256) × (k.row < 256))
    → LastLine (report_text n m v w) (clash_line p i u)
    → (k : Found) × (v ≡ Clash k) × (k.part ≡ p) × (k.row ≡ i) × (w ≡ u)
clash_only n m Stands w u p i a h l =
    absurd (stands_no_clash p i u (same_last (report_text n m Stands w) (codes "stands") (clash_line p i u) stands_no_end (clash_no_end p i u) (report_stands n m w) l))
clash_only n m (Clash k) w u p i a h l =
    let b = h k refl in
    let e = clash_same k.part k.row p i w u (below b.0) (below b.1) a (same_last (report_text n m (Clash k) w) (clash_line k.part k.row w) (clash_line p i u) (clash_no_end k.part k.row w) (clash_no_end p i u) (report_clash n m k w) l) in
    (k, refl, e.0, e.1, e.2)

renamed : (R : List Rule) (F : List Claim) (p q : ℕ) (w u : List ℕ) (i j : ℕ) → p ≡ q → w ≡ u → i ≡ j → Shortest R F p w i → Shortest R F q u j
renamed R F p q w u i j e f g s = rw (sym e, sym f, sym g) s

module _ (bytes : List ℕ) (law : LayoutLaw all_groups bytes) where
  -- of a book that is accepted
  module _ (b : PartBook) (e : file_read all_groups bytes ≡ Ok b) (v : Verdict) (w : List ℕ) where
    said : List ℕ
    said = report_text (length b.rows) (length (facts_of b)) v w

    pub book_stands : ((v ≡ Stands) ↔ ∥ ((W : World) × KeepsBook (rules_of b.rows) (claims_of (facts_of b)) W) ∥₁)
        → LastLine (report_text (length b.rows) (length (facts_of b)) v w) (codes "stands") ↔ Kept bytes
    book_stands worlds = (
      λ l. ∥∥₁_map (worlds.0 (stands_only (length b.rows) (length (facts_of b)) v w l))
          (λ x. (b, x.0, (law.accepted b).0 e, keeps_into (rules_of b.rows) (claims_of (facts_of b)) (claims_in b) (all_claims b) x.0 x.1)),
      λ k. subst (λ (u : Verdict). LastLine (report_text (length b.rows) (length (facts_of b)) u w) (codes "stands")) (sym (worlds.1 (∥∥₁_map k (λ x.
          let same : x.0 ≡ b = same_book (file_read all_groups bytes) x.0 b ((law.accepted x.0).1 x.2) e in
          subst (λ (c : PartBook). (W : World) × KeepsBook (rules_of c.rows) (claims_of (facts_of c)) W) same
          (x.1, keeps_into (rules_of x.0.rows) (claims_in x.0) (claims_of (facts_of x.0)) (judged_claims x.0) x.1 x.3)))))
          (report_stands (length b.rows) (length (facts_of b)) w),
    )

    pub book_clash : Allowed b.rows (facts_of b) v w → low w ≡ true → ((k : Found) → v ≡ Clash k → (k.part < 256) × (k.row < 256)) → (p i : ℕ) (u : List ℕ)
        → LastLine (report_text (length b.rows) (length (facts_of b)) v w) (clash_line p i u) → ShortestClash bytes p u i
    book_clash a lw h p i u l =
        let k = clash_only (length b.rows) (length (facts_of b)) v w u p i lw h l in
        let says : Shortest (rules_of b.rows) (claims_of (facts_of b)) k.0.part w k.0.row = subst (λ (z : Verdict). (saying z).says (rules_of b.rows) (claims_of (facts_of b)) w) k.1 a.says in
        let named = renamed (rules_of b.rows) (claims_of (facts_of b)) k.0.part p w u k.0.row i k.2 k.4 k.3 says in
        (b, (law.accepted b).0 e, shortest_same (rules_of b.rows) (claims_of (facts_of b)) (claims_in b) (all_claims b) (judged_claims b) p u i named)

  -- of an input that is refused
  module _ (f : Refused) (e : file_read all_groups bytes ≡ Err f) where
    pub refusal_stands : LastLine (fault_line f) (codes "stands") ↔ Kept bytes
    refusal_stands = (
      λ l. absurd (refusal_has_none f (codes "stands") l),
      λ k. absurd (∥∥₁_elim k ⊥_prop (λ x. never_both (file_read all_groups bytes) x.0 f ((law.accepted x.0).1 x.2) e)),
    )

    pub refusal_clash : (p i : ℕ) (u : List ℕ) → LastLine (fault_line f) (clash_line p i u) → ShortestClash bytes p u i
    refusal_clash p i u l = absurd (refusal_has_none f (clash_line p i u) l)

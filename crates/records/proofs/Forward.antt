-- Reading a file gives the book that the file encodes, or its first record with a no.
use Rattle.std.proofs.Common.{◌≡◌, ℕ, zero, suc, ◌<◌, ◌≤◌, ◌⊎◌, List, ◌++◌, length, drop, Ok, Err, Some, Result, sym, refl, ap, ◌∙◌, subst, inl, inr, append-nil, arith}
use Rattle.std.proofs.lemmas.List.{nil_from_length}
use Rattle.std.proofs.lemmas.Bool.{cases_lt}
use Rattle.terms.specs.Refusals.{asked}
use Rattle.terms.proofs.Asking.{answers}
use Rattle.stores.proofs.Keeping.{means_nothing}
use Rattle.layout.specs.declared.Group.{Group}
use Rattle.layout.specs.declared.Group.TheVariants.{Rule, Factory, Site}
use Rattle.layout.specs.Layout.{layout}
use Rattle.records.specs.Faults.{Refused}
use Rattle.records.specs.Books.{PartBook, no_records, encoded_book, Lawful, InGroups}
use Rattle.records.specs.Reading.{next_questions, with_record, read_after, file_read, Accepted, FirstRefused}
use Rattle.records.proofs.Stepping.{shorter, taken_group, after_nothing, after_refused, after_taken}
use Rattle.records.proofs.Whole.{file_long, file_short}
use Rattle.records.proofs.Taking.{Taken, taken}

-- what a result says of the bytes after a book
abbrev pub Reached : List Group → PartBook → List ℕ → Result PartBook Refused → Type 0
Reached groups b bytes (Ok c) = (encoded_book c ≡ encoded_book b ++ bytes) × Lawful c × InGroups groups c
Reached groups b bytes (Err e) = FirstRefused groups (encoded_book b ++ bytes) e.number_of e.index

-- the same of a longer book and fewer bytes
shifted : (groups : List Group) (b c : PartBook) (bytes rest : List ℕ) → encoded_book c ++ rest ≡ encoded_book b ++ bytes → (r : Result PartBook Refused)
    → Reached groups c rest r → Reached groups b bytes r
shifted groups b c bytes rest e (Ok d) p = (p.0 ∙ e, p.1, p.2)
shifted groups b c bytes rest e (Err f) p = subst (λ (z : List ℕ). FirstRefused groups z f.number_of f.index) e p

module _ (groups : List Group) (b : PartBook) (bytes : List ℕ) (l : Lawful b) (i : InGroups groups b) where
  reached_end : length bytes ≡ 0 → Reached groups b bytes (read_after groups b bytes)
  reached_end none =
      let e = sym (append-nil (encoded_book b)) ∙ ap (λ (z : List ℕ). encoded_book b ++ z) (sym (nil_from_length bytes none)) in
      subst (Reached groups b bytes) (sym (after_nothing groups b bytes none)) (e, l, i)

  -- the next record has a no, or is taken and reading goes on
  reached_by : 0 < length bytes → length (encoded_book b ++ bytes) < 32768 → (a : Result (Unit {0}) ℕ) → asked (next_questions groups b bytes) (tt {0}) ≡ a
      → ((g : Group) → Taken groups b bytes g → Reached groups (with_record (Some g) b bytes) (drop (layout g).size bytes) (read_after groups (with_record (Some g) b bytes) (drop (layout g).size bytes)))
      → Reached groups b bytes (read_after groups b bytes)
  reached_by some short (Err n) e on =
      let qs = next_questions groups b bytes in
      subst (Reached groups b bytes) (sym (after_refused groups b bytes n some e)) (record {
        before = b;
        rest = bytes;
        cut = refl;
        lawful = l;
        groups_of = i;
        place = refl;
        more = some;
        first = ((answers tt qs (asked qs (tt {0})) refl).refused n).0 e;
      })
  reached_by some short (Ok u) e on =
      let g = taken_group groups b bytes u e in
      let t = taken groups b bytes g.0 l i short g.1 e in
      subst (Reached groups b bytes) (sym (after_taken groups b bytes g.0 some g.1 e))
      (shifted groups b (with_record (Some g.0) b bytes) bytes (drop (layout g.0).size bytes) t.encoded _ (on g.0 t))

reached : (groups : List Group) (n : ℕ) (b : PartBook) (bytes : List ℕ) → length bytes ≤ n → Lawful b → InGroups groups b → length (encoded_book b ++ bytes) < 32768
    → Reached groups b bytes (read_after groups b bytes)
reached groups zero b bytes h l i short = reached_end groups b bytes l i (omega arith)
reached groups (suc n) b bytes h l i short =
    elim (cases_lt 0 (length bytes)) [
      | inr none ↦ reached_end groups b bytes l i (omega arith)
      | inl some ↦ reached_by groups b bytes l i some short (asked (next_questions groups b bytes) (tt {0})) refl (λ g t.
          reached groups n (with_record (Some g) b bytes) (drop (layout g).size bytes) (shorter g bytes n some h) t.lawful t.groups_of (rw t.encoded short))
    ]

-- the book with no records
lawful_none : Lawful no_records
lawful_none = record {
  rows = refl;
  four = tt;
  few_rows = omega arith;
  factory = means_nothing 0 (omega arith);
  site = λ f m. absurd (elim m [ ]);
  few_new = omega arith;
}

in_groups_none : (groups : List Group) → InGroups groups no_records
in_groups_none groups Rule = inr refl
in_groups_none groups Factory = inr refl
in_groups_none groups Site = inr refl

module _ (groups : List Group) (bytes : List ℕ) where
  -- what reading a short file gives
  file_reached : length bytes < 32768 → (r : Result PartBook Refused) → file_read groups bytes ≡ r → Reached groups no_records bytes r
  file_reached short r e =
      subst (Reached groups no_records bytes) (sym (file_short groups bytes short) ∙ e)
      (reached groups (length bytes) no_records bytes (omega arith) lawful_none (in_groups_none groups) short)

  not_long : (b : PartBook) (e : Refused) → file_read groups bytes ≡ Err e → file_read groups bytes ≡ Ok b → ⊥
  not_long b e p q = cc

  same_refusal : (e f : Refused) → file_read groups bytes ≡ Err e → file_read groups bytes ≡ Err f → f ≡ e
  same_refusal e f p q = cc

  pub accepted_only : (b : PartBook) → file_read groups bytes ≡ Ok b → Accepted groups bytes b
  accepted_only b e =
      elim (cases_lt (length bytes) 32768) [
        | inr long ↦ absurd (not_long b _ (file_long groups bytes long) e)
        | inl short ↦
            let p = file_reached short (Ok b) e in
            record { short = short; encoded = sym p.0; lawful = p.1; groups_of = p.2 }
      ]

  pub refused_only : (n k : ℕ) → file_read groups bytes ≡ Err (record { number_of = n; index = k })
      → ((32768 ≤ length bytes) × (n ≡ 15) × (k ≡ 0)) ⊎ ((length bytes < 32768) × FirstRefused groups bytes n k)
  refused_only n k e =
      elim (cases_lt (length bytes) 32768) [
        | inr long ↦
            let s = same_refusal _ (record { number_of = n; index = k }) (file_long groups bytes long) e in
            inl (long, ap (λ (f : Refused). f.number_of) s, ap (λ (f : Refused). f.index) s)
        | inl short ↦ inr (short, file_reached short (Err (record { number_of = n; index = k })) e)
      ]

-- The law of the layout.
use Rattle.std.proofs.Common.{◌≡◌, ℕ, ◌<◌, ◌≤◌, List, [], ◌++◌, length, Ok, Err, Result, sym, refl, ap, ◌∙◌, subst, inl, inr, append-nil}
use Rattle.terms.specs.Refusals.{asked}
use Rattle.terms.proofs.Asking.{answers}
use Rattle.layout.specs.declared.Group.{Group}
use Rattle.records.specs.Faults.{Refused}
use Rattle.records.specs.Books.{PartBook, no_records, encoded_book, Lawful, InGroups}
use Rattle.records.specs.Reading.{next_questions, read_after, file_read, Accepted, FirstRefused, LayoutLaw}
use Rattle.records.proofs.Stepping.{after_nothing, after_refused}
use Rattle.records.proofs.Whole.{file_long, file_short}
use Rattle.records.proofs.Past.{past_book}
use Rattle.records.proofs.Forward.{accepted_only, refused_only}

module _ (groups : List Group) (bytes : List ℕ) where
  -- a file that begins with the encoding of a lawful book is read on after it
  read_past : (b : PartBook) (rest : List ℕ) → length bytes < 32768 → bytes ≡ encoded_book b ++ rest → Lawful b → InGroups groups b → file_read groups bytes ≡ read_after groups b rest
  read_past b rest short e l i =
      file_short groups bytes short ∙ ap (read_after groups no_records) e ∙ past_book groups b rest l i (subst (λ (z : List ℕ). length z < 32768) e short)

  encoded_read : (b : PartBook) → Accepted groups bytes b → file_read groups bytes ≡ Ok b
  encoded_read b a = read_past b [] a.short (a.encoded ∙ sym (append-nil (encoded_book b))) a.lawful a.groups_of ∙ after_nothing groups b [] refl

  first_read : (n k : ℕ) → length bytes < 32768 → FirstRefused groups bytes n k → file_read groups bytes ≡ Err (record { number_of = n; index = k })
  first_read n k short f =
      let qs = next_questions groups f.before f.rest in
      read_past f.before f.rest short f.cut f.lawful f.groups_of
      ∙ after_refused groups f.before f.rest n f.more (((answers tt qs (asked qs (tt {0})) refl).refused n).1 f.first)
      ∙ ap (λ (k : ℕ). let z : Result PartBook Refused = Err (record { number_of = n; index = k }) in z) f.place

  long_read : (n k : ℕ) → 32768 ≤ length bytes → n ≡ 15 → k ≡ 0 → file_read groups bytes ≡ Err (record { number_of = n; index = k })
  long_read n k long a b = rw (a, b) (file_long groups bytes long)

pub layout_law : (groups : List Group) (bytes : List ℕ) → LayoutLaw groups bytes
layout_law groups bytes = record {
  accepted = λ b. (accepted_only groups bytes b, encoded_read groups bytes b);
  refused = λ n k. (
    refused_only groups bytes n k,
    λ p. elim p [
      | inl l ↦ long_read groups bytes n k l.0 l.1 l.2
      | inr f ↦ first_read groups bytes n k f.0 f.1
    ],
  );
}

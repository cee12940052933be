-- Taking a record: the book with it is lawful, and its encoding goes on by the record's bytes.
use Rattle.std.proofs.Common.{◌≡◌, ℕ, ◌+◌, ◌<◌, ◌≤◌, Bool, true, false, cond, not, ◌||◌, eqb, ltb, List, [], ◌∷◌, ◌++◌, length, drop, Ok, Some, sym, refl, ap, ◌∙◌, subst, inl, inr, append_assoc, append-nil, arith}
use mathlib.Core.List.Memᴰ
use Rattle.std.proofs.lemmas.List.{length_push, nil_from_length}
use Rattle.std.proofs.lemmas.Bool.{and_parts, not-true, eqb-true, leb-true, ltb-true}
use Rattle.terms.specs.declared.row.Row.{Row}
use Rattle.terms.specs.declared.fact.Fact.{Fact}
use Rattle.terms.specs.Refusals.{Question, ask, asked, AllYes}
use Rattle.terms.specs.Lawful.{fact_questions, lawful_fact}
use Rattle.terms.specs.Worlds.{◌∈◌}
use Rattle.terms.proofs.Asking.{answers, all_yes}
use Rattle.book.specs.Drafts.{rule_questions}
use Rattle.book.proofs.Taking.{yes_lawful, lawful_push}
use Rattle.stores.specs.Meaning.{listed, tell_questions}
use Rattle.stores.proofs.Keeping.{lawful_yes}
use Rattle.layout.specs.declared.Group.{Group}
use Rattle.layout.specs.declared.Group.TheVariants.{Rule, Factory, Site}
use Rattle.layout.specs.Layout.{layout, encoded_row, encoded_rows, encoded_fact, encoded_facts, marked, whole, row_in, fact_in}
use Rattle.layout.proofs.Records.{row_forth, fact_forth, rows_more, facts_more}
use Rattle.records.specs.Books.{PartBook, told, facts_of, places_left, encoded_book, Four, Lawful, InGroups}
use Rattle.records.specs.Reading.{may_follow, next_group, own_questions, next_questions, with_record}
use Rattle.records.proofs.Books.{told_append, few_factory, means_push}
use Rattle.records.proofs.Stepping.{next_is, after_mark, asks}

pub record Taken (groups : List Group) (b : PartBook) (bytes : List ℕ) (g : Group) : Type 0 where
  pub lawful : Lawful (with_record (Some g) b bytes)
  pub groups_of : InGroups groups (with_record (Some g) b bytes)
  pub encoded : encoded_book (with_record (Some g) b bytes) ++ drop (layout g).size bytes ≡ encoded_book b ++ bytes

four_push : (rows : List Row) (r : Row) → Four rows → length r.features ≡ 4 → Four (rows ++ r ∷ [])
four_push [] r f e = (e, tt)
four_push (q ∷ rows) r f e = (f.0, four_push rows r f.1 e)

-- the questions of a fact have yes where they and others after them have
fact_yes : (f : Fact) (more : List Question) → AllYes (fact_questions f ++ more) → asked (fact_questions f) (tt {0}) ≡ Ok tt
fact_yes f more y = all_yes tt (fact_questions f) (y.0, (y.1.0, (y.1.1.0, (y.1.1.1.0, tt))))

module _ (b : PartBook) where
  -- no record of a later group stands before it
  no_later : may_follow b Rule ≡ true → (b.factory ≡ []) × (b.site ≡ [])
  no_later f =
      let p = and_parts (eqb (length b.factory) 0) (eqb (length b.site) 0) f in
      (nil_from_length b.factory (eqb-true (length b.factory) 0 p.0), nil_from_length b.site (eqb-true (length b.site) 0 p.1))

  no_site : may_follow b Factory ≡ true → b.site ≡ []
  no_site f = nil_from_length b.site (eqb-true (length b.site) 0 f)

  module _ (l : Lawful b) where
    -- the book with a row, a factory fact or a site fact more is lawful
    with_row : (r : Row) → AllYes (rule_questions b.rows r) → length r.features ≡ 4
        → Lawful (record { rows = b.rows ++ r ∷ []; factory = b.factory; site = b.site })
    with_row r y e =
        let n = length_push b.rows r in
        let s = ltb-true (length b.rows) 256 y.1.1.1.1.0 in
        record {
          rows = lawful_push b.rows r l.rows (yes_lawful r (y.0, (y.1.0, (y.1.1.0, (y.1.1.1.0, tt)))));
          four = four_push b.rows r l.four e;
          few_rows = omega arith;
          factory = l.factory;
          site = l.site;
          few_new = l.few_new;
        }

    with_factory : (f : Fact) → asked (fact_questions f) (tt {0}) ≡ Ok tt → listed b.factory f ≡ false → b.site ≡ [] → length b.factory < 32768
        → Lawful (record { rows = b.rows; factory = b.factory ++ f ∷ []; site = b.site })
    with_factory f q new none few =
        let e : length (told (b.factory ++ f ∷ []) b.site) ≡ length (b.factory ++ f ∷ []) = ap (λ (s : List Fact). length (told (b.factory ++ f ∷ []) s)) none in
        record {
          rows = l.rows;
          four = l.four;
          few_rows = l.few_rows;
          factory = means_push b.factory f l.factory (omega arith) q new;
          site = l.site;
          few_new = omega arith;
        }

    -- where a place is free, one fact more may be new
    few_with : (f : Fact) (t : Bool) → listed (facts_of b) f ≡ t → (t || ltb 0 (places_left b)) ≡ true → length (told b.factory (b.site ++ f ∷ [])) ≤ length b.factory + 64
    few_with f true e p =
        let m = ap length (told_append b.factory b.site (f ∷ []) ∙ ap (λ (t : Bool). cond t (facts_of b) (facts_of b ++ f ∷ [])) e) in
        omega (arith, l.few_new)
    few_with f false e p =
        let m = ap length (told_append b.factory b.site (f ∷ []) ∙ ap (λ (t : Bool). cond t (facts_of b) (facts_of b ++ f ∷ [])) e) in
        let n = length_push (facts_of b) f in
        let s = ltb-true 0 (places_left b) p in
        omega arith

    with_told : (f : Fact) → AllYes (tell_questions (facts_of b) (places_left b) f)
        → Lawful (record { rows = b.rows; factory = b.factory; site = b.site ++ f ∷ [] })
    with_told f y = record {
      rows = l.rows;
      four = l.four;
      few_rows = l.few_rows;
      factory = l.factory;
      site = λ g m. elim (Memᴰ.append_cases b.site m) [
        | inl i ↦ l.site g i
        | inr i ↦ subst (λ (x : Fact). lawful_fact x ≡ true) (sym (Memᴰ.eq_of_singleton i)) (lawful_yes f (fact_yes f (ask 6 (listed (facts_of b) f || ltb 0 (places_left b)) ∷ []) y))
      ];
      few_new = few_with f (listed (facts_of b) f) refl y.1.1.1.1.0;
    }

in_groups : (groups : List Group) (b : PartBook) (bytes : List ℕ) (g : Group) → g ∈ groups → InGroups groups b → InGroups groups (with_record (Some g) b bytes)
in_groups groups b bytes Rule m i Rule = inl m
in_groups groups b bytes Factory m i Factory = inl m
in_groups groups b bytes Site m i Site = inl m
in_groups groups b bytes g m i h = i h

-- bytes that go on by a record, behind others, and before none
behind : (a x y rest bytes : List ℕ) → x ++ rest ≡ y ++ bytes → (a ++ x) ++ rest ≡ (a ++ y) ++ bytes
behind a x y rest bytes e = append_assoc a x rest ∙ ap (λ (z : List ℕ). a ++ z) e ∙ sym (append_assoc a y bytes)

before_none : (x r none rest bytes : List ℕ) → none ≡ [] → bytes ≡ r ++ rest → ((x ++ r) ++ none) ++ rest ≡ (x ++ none) ++ bytes
before_none x r none rest bytes n e = rw (n, e) (simp (append-nil, append_assoc))

module _ (b : PartBook) (bytes : List ℕ) where
  encoded_rule : may_follow b Rule ≡ true → marked Rule bytes ≡ true → whole Rule bytes ≡ true
      → encoded_book (with_record (Some Rule) b bytes) ++ drop 10 bytes ≡ encoded_book b ++ bytes
  encoded_rule f m w =
      let n = no_later b f in
      let later = encoded_facts Factory b.factory ++ encoded_facts Site b.site in
      let e : later ≡ [] = ap (λ (fs : List Fact). encoded_facts Factory fs ++ encoded_facts Site b.site) n.0 ∙ ap (encoded_facts Site) n.1 in
      ap (λ (z : List ℕ). (z ++ later) ++ drop 10 bytes) (rows_more b.rows (row_in bytes))
      ∙ before_none (encoded_rows b.rows) (encoded_row (row_in bytes)) later (drop 10 bytes) bytes e (row_forth bytes m (leb-true 10 (length bytes) w))

  encoded_factory : may_follow b Factory ≡ true → marked Factory bytes ≡ true → whole Factory bytes ≡ true
      → encoded_book (with_record (Some Factory) b bytes) ++ drop 6 bytes ≡ encoded_book b ++ bytes
  encoded_factory f m w =
      let later = encoded_facts Site b.site in
      behind (encoded_rows b.rows) _ _ (drop 6 bytes) bytes
      (ap (λ (z : List ℕ). (z ++ later) ++ drop 6 bytes) (facts_more Factory b.factory (fact_in bytes))
      ∙ before_none (encoded_facts Factory b.factory) (encoded_fact Factory (fact_in bytes)) later (drop 6 bytes) bytes (ap (encoded_facts Site) (no_site b f)) (fact_forth Factory bytes m (leb-true 6 (length bytes) w)))

  encoded_site : marked Site bytes ≡ true → whole Site bytes ≡ true
      → encoded_book (with_record (Some Site) b bytes) ++ drop 6 bytes ≡ encoded_book b ++ bytes
  encoded_site m w =
      behind (encoded_rows b.rows) _ _ (drop 6 bytes) bytes
      (behind (encoded_facts Factory b.factory) _ _ (drop 6 bytes) bytes
      (ap (λ (z : List ℕ). z ++ drop 6 bytes) (facts_more Site b.site (fact_in bytes))
      ∙ append_assoc (encoded_facts Site b.site) (encoded_fact Site (fact_in bytes)) (drop 6 bytes)
      ∙ ap (λ (z : List ℕ). encoded_facts Site b.site ++ z) (sym (fact_forth Site bytes m (leb-true 6 (length bytes) w)))))

  -- the same of any group
  encoded_on : (g : Group) → may_follow b g ≡ true → marked g bytes ≡ true → whole g bytes ≡ true
      → encoded_book (with_record (Some g) b bytes) ++ drop (layout g).size bytes ≡ encoded_book b ++ bytes
  encoded_on Rule f m w = encoded_rule f m w
  encoded_on Factory f m w = encoded_factory f m w
  encoded_on Site f m w = encoded_site m w

  lawful_on : (g : Group) → Lawful b → length (encoded_book b ++ bytes) < 32768 → may_follow b g ≡ true → AllYes (own_questions g b bytes) → Lawful (with_record (Some g) b bytes)
  lawful_on Rule l h f y = with_row b l (row_in bytes) y refl
  lawful_on Factory l h f y =
      let t = listed b.factory (fact_in bytes) in
      with_factory b l (fact_in bytes) (fact_yes (fact_in bytes) (ask 14 (not t) ∷ []) y) (not-true t y.1.1.1.1.0) (no_site b f) (few_factory b bytes h)
  lawful_on Site l h f y = with_told b l (fact_in bytes) y

pub taken : (groups : List Group) (b : PartBook) (bytes : List ℕ) (g : Group) → Lawful b → InGroups groups b → length (encoded_book b ++ bytes) < 32768
    → next_group groups b bytes ≡ Some g → asked (next_questions groups b bytes) (tt {0}) ≡ Ok tt → Taken groups b bytes g
taken groups b bytes g l i h n a =
    let s = next_is groups b bytes g n in
    let qs = after_mark g b bytes in
    let y = (answers tt qs (asked qs (tt {0})) refl).accepted.0 (sym (asks groups b bytes g s.among s.follows s.marks) ∙ a) in
    record {
      lawful = lawful_on b bytes g l h s.follows y.1;
      groups_of = in_groups groups b bytes g s.among i;
      encoded = encoded_on b bytes g s.follows s.marks y.0;
    }

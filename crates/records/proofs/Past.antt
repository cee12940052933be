-- Reading goes past the encoding of a lawful book.
use Rattle.std.proofs.Common.{◌≡◌, ℕ, ◌+◌, ◌-◌, ◌<◌, ◌≤◌, Bool, true, false, cond, not, ◌||◌, ltb, List, [], ◌∷◌, ◌++◌, length, drop, Ok, Some, sym, refl, ap, ◌∙◌, subst, ◌⊎◌, inl, inr, append_assoc, append-nil, arith}
use mathlib.Core.List.Memᴰ
use Rattle.std.specs.List.{slice_get}
use Rattle.std.proofs.lemmas.List.{length-append, length_push, drop_at, nil_from_length}
use Rattle.std.proofs.lemmas.Bool.{and_parts, cases_Bool, le-leb, lt-ltb, not_from_false, or_left, or_right}
use Rattle.terms.specs.declared.row.Row.{Row}
use Rattle.terms.specs.declared.fact.Fact.{Fact}
use Rattle.terms.specs.Refusals.{Question, ask, asked}
use Rattle.terms.specs.Rows.{row_questions, lawful, all_lawful}
use Rattle.terms.specs.Lawful.{fact_questions, lawful_fact}
use Rattle.terms.specs.Worlds.{◌∈◌}
use Rattle.terms.proofs.Asking.{all_yes, asked_on}
use Rattle.book.proofs.Taking.{lawful_yes}
use Rattle.stores.specs.Meaning.{Meaning, listed}
use Rattle.stores.specs.Piles.{free_over}
use Rattle.stores.proofs.Listing.{listed_in, in_nth, nth_below, nth_lower, nth_upper}
use Rattle.stores.proofs.Keeping.{yes_lawful}
use Rattle.layout.specs.declared.Group.{Group}
use Rattle.layout.specs.declared.Group.TheVariants.{Rule, Factory, Site}
use Rattle.layout.specs.Layout.{layout, encoded_row, encoded_rows, encoded_facts, marked, row_in}
use Rattle.layout.proofs.Records.{row_back}
use Rattle.records.specs.Books.{PartBook, no_records, told, encoded_book, Four, Lawful, InGroups}
use Rattle.records.specs.Reading.{may_follow, own_questions, with_record, read_after}
use Rattle.records.proofs.Books.{told_append, told_longer, few_factory}
use Rattle.records.proofs.Stepping.{marked_turn}

abbrev book_of : List Row → List Fact → List Fact → PartBook
book_of rows factory site = record { rows = rows; factory = factory; site = site }

-- a last question with yes, asked after others that all have yes
asked_last : (qs : List Question) (n : ℕ) (t : Bool) → asked qs (tt {0}) ≡ Ok tt → t ≡ true → asked (qs ++ (ask n t ∷ [])) (tt {0}) ≡ Ok tt
asked_last qs n t e y = asked_on qs (ask n t ∷ []) tt tt e ∙ all_yes tt (ask n t ∷ []) (y, tt)

-- a whole record of the file's groups that may follow is taken if its row or fact is
record_taken : (groups : List Group) (b : PartBook) (bytes : List ℕ) (g : Group) → g ∈ groups → may_follow b g ≡ true → marked g bytes ≡ true → (layout g).size ≤ length bytes
    → asked (own_questions g b bytes) (tt {0}) ≡ Ok tt → read_after groups b bytes ≡ read_after groups (with_record (Some g) b bytes) (drop (layout g).size bytes)
record_taken groups b bytes g i f m w e =
    marked_turn groups b bytes g i f m (Ok tt) (sym (ap (λ (t : Bool). asked (ask 12 t ∷ own_questions g b bytes) (tt {0})) (le-leb (layout g).size (length bytes) w) ∙ e))

-- of different facts none is listed before its place
not_before : (facts more : List Fact) (f : Fact) → Meaning (facts ++ f ∷ more) 0 → listed facts f ≡ false
not_before facts more f m = elim (cases_Bool (listed facts f)) [ inl l ↦ absurd (twice l) | inr l ↦ l ]
  where
    twice : listed facts f ≡ true → ⊥
    twice l =
        let p = in_nth facts f (listed_in facts f l) in
        let k = nth_below facts p.0 f p.1 in
        let z : length facts - length facts ≡ 0 = omega arith in
        let e = m.different p.0 (length facts) f (nth_lower facts (f ∷ more) p.0 k ∙ p.1) (nth_upper facts (f ∷ more) (length facts) (omega arith) ∙ ap (slice_get (f ∷ more)) z) in
        omega arith

-- reading goes past factory records
pub past_factory : (groups : List Group) (rows : List Row) (facts more : List Fact) (rest : List ℕ) → Factory ∈ groups → Meaning (facts ++ more) 0
    → read_after groups (record { rows = rows; factory = facts; site = [] }) (encoded_facts Factory more ++ rest) ≡ read_after groups (record { rows = rows; factory = facts ++ more; site = [] }) rest
past_factory groups rows facts [] rest i m =
    ap (λ (z : List Fact). read_after groups (book_of rows z []) rest) (sym (append-nil facts))
past_factory groups rows facts (f ∷ more) rest i m =
    let l = m.lawful f (Memᴰ.append_right facts (Memᴰ.head refl)) in
    record_taken groups (book_of rows facts []) (encoded_facts Factory (f ∷ more) ++ rest) Factory i refl refl (omega arith)
    (asked_last (fact_questions f) 14 (not (listed facts f)) (yes_lawful f l) (not_from_false (listed facts f) (not_before facts more f m)))
    ∙ past_factory groups rows (facts ++ f ∷ []) more rest i (subst (λ (z : List Fact). Meaning z 0) (sym (append_assoc facts (f ∷ []) more)) m)
    ∙ ap (λ (z : List Fact). read_after groups (book_of rows z []) rest) (append_assoc facts (f ∷ []) more)

-- reading goes past rule records
past_rows : (groups : List Group) (rows more : List Row) (rest : List ℕ) → Rule ∈ groups → all_lawful more ≡ true → Four more → length rows + length more ≤ 256
    → read_after groups (book_of rows [] []) (encoded_rows more ++ rest) ≡ read_after groups (book_of (rows ++ more) [] []) rest
past_rows groups rows [] rest i l f few =
    ap (λ (z : List Row). read_after groups (book_of z [] []) rest) (sym (append-nil rows))
past_rows groups rows (r ∷ more) rest i l f few =
    let p = and_parts (lawful r) (all_lawful more) l in
    let after = encoded_rows more ++ rest in
    let bytes = encoded_row r ++ after in
    let long : 10 ≤ length bytes = omega (arith, length-append (encoded_row r) after, f.0) in
    let push = length_push rows r in
    let y : asked (row_questions (row_in bytes)) (tt {0}) ≡ Ok tt = all_yes tt (row_questions (row_in bytes)) (lawful_yes (row_in bytes) (ap lawful (row_back r after f.0) ∙ p.0)) in
    ap (read_after groups (book_of rows [] [])) (append_assoc (encoded_row r) (encoded_rows more) rest)
    ∙ record_taken groups (book_of rows [] []) bytes Rule i refl refl long
    (asked_last (row_questions (row_in bytes)) 5 (ltb (length rows) 256) y (lt-ltb (length rows) 256 (omega arith)))
    ∙ ap (λ (z : Row). read_after groups (book_of (rows ++ z ∷ []) [] []) (drop 10 bytes)) (row_back r after f.0)
    ∙ ap (read_after groups (book_of (rows ++ r ∷ []) [] [])) (drop_at (encoded_row r) after 10 (omega (arith, f.0)))
    ∙ past_rows groups (rows ++ r ∷ []) more rest i p.1 f.1 (omega arith)
    ∙ ap (λ (z : List Row). read_after groups (book_of z [] []) rest) (append_assoc rows (r ∷ []) more)

-- a fact that is new makes the list longer
new_longer : (facts more : List Fact) (f : Fact) → listed facts f ≡ false → length facts < length (told facts (f ∷ more))
new_longer facts more f l =
    let n = length_push facts f in
    let h = told_longer (facts ++ f ∷ []) more in
    let e : length (told facts (f ∷ more)) ≡ length (told (facts ++ f ∷ []) more) = ap (λ (t : Bool). length (told (cond t facts (facts ++ f ∷ [])) more)) l in
    omega arith

-- each of the site facts is listed already or has a free place
place_there : (facts site more : List Fact) (f : Fact) → length (told facts (site ++ f ∷ more)) ≤ length facts + 64 → length facts < 32768
    → (listed (told facts site) f || ltb 0 (free_over (length (told facts site) - length facts) (length (told facts site)))) ≡ true
place_there facts site more f few short =
    elim (cases_Bool (listed (told facts site) f)) [
      | inl l ↦ or_left (listed (told facts site) f) _ l
      | inr l ↦
          let n = new_longer (told facts site) more f l in
          let e = ap length (told_append facts site (f ∷ more)) in
          or_right (listed (told facts site) f) _ (lt-ltb 0 _ (omega arith))
    ]

-- reading goes past site records
past_site : (groups : List Group) (rows : List Row) (facts site more : List Fact) (rest : List ℕ) → Site ∈ groups → ((f : Fact) → f ∈ more → lawful_fact f ≡ true)
    → length (told facts (site ++ more)) ≤ length facts + 64 → length facts < 32768
    → read_after groups (book_of rows facts site) (encoded_facts Site more ++ rest) ≡ read_after groups (book_of rows facts (site ++ more)) rest
past_site groups rows facts site [] rest i l few short =
    ap (λ (z : List Fact). read_after groups (book_of rows facts z) rest) (sym (append-nil site))
past_site groups rows facts site (f ∷ more) rest i l few short =
    let e = append_assoc site (f ∷ []) more in
    record_taken groups (book_of rows facts site) (encoded_facts Site (f ∷ more) ++ rest) Site i refl refl (omega arith)
    (asked_last (fact_questions f) 6 _ (yes_lawful f (l f (Memᴰ.head refl))) (place_there facts site more f few short))
    ∙ past_site groups rows facts (site ++ f ∷ []) more rest i (λ g m. l g (Memᴰ.tail m)) (rw e few) short
    ∙ ap (λ (z : List Fact). read_after groups (book_of rows facts z) rest) e

-- the records of each group, of which the book may have none
by_part : {A M : Type 0} (P : List A → Type 0) (items : List A) → M ⊎ (length items ≡ 0) → (M → P items) → P [] → P items
by_part P items (inl m) some none = some m
by_part P items (inr e) some none = subst P (sym (nil_from_length items e)) none

module _ (groups : List Group) (b : PartBook) (l : Lawful b) (i : InGroups groups b) where
  rows_past : (rest : List ℕ) → read_after groups no_records (encoded_rows b.rows ++ rest) ≡ read_after groups (book_of b.rows [] []) rest
  rows_past rest =
      by_part (λ z. read_after groups no_records (encoded_rows z ++ rest) ≡ read_after groups (book_of z [] []) rest) b.rows (i Rule)
      (λ m. past_rows groups [] b.rows rest m l.rows l.four (omega (arith, l.few_rows))) refl

  factory_past : (rest : List ℕ) → read_after groups (book_of b.rows [] []) (encoded_facts Factory b.factory ++ rest) ≡ read_after groups (book_of b.rows b.factory []) rest
  factory_past rest =
      by_part (λ z. read_after groups (book_of b.rows [] []) (encoded_facts Factory z ++ rest) ≡ read_after groups (book_of b.rows z []) rest) b.factory (i Factory)
      (λ m. past_factory groups b.rows [] b.factory rest m l.factory) refl

  site_past : (rest : List ℕ) → length b.factory < 32768 → read_after groups (book_of b.rows b.factory []) (encoded_facts Site b.site ++ rest) ≡ read_after groups b rest
  site_past rest short =
      by_part (λ z. read_after groups (book_of b.rows b.factory []) (encoded_facts Site z ++ rest) ≡ read_after groups (book_of b.rows b.factory z) rest) b.site (i Site)
      (λ m. past_site groups b.rows b.factory [] b.site rest m l.site l.few_new short) refl

pub past_book : (groups : List Group) (b : PartBook) (rest : List ℕ) → Lawful b → InGroups groups b → length (encoded_book b ++ rest) < 32768
    → read_after groups no_records (encoded_book b ++ rest) ≡ read_after groups b rest
past_book groups b rest l i h =
    let r = encoded_rows b.rows in
    let f = encoded_facts Factory b.factory in
    let s = encoded_facts Site b.site in
    ap (read_after groups no_records) (append_assoc r (f ++ s) rest ∙ ap (λ (z : List ℕ). r ++ z) (append_assoc f s rest))
    ∙ rows_past groups b l i (f ++ (s ++ rest))
    ∙ factory_past groups b l i (s ++ rest)
    ∙ site_past groups b l i rest (few_factory b rest h)

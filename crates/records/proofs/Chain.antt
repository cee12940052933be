-- Reading a whole book: its groups one after another.
use Rattle.std.proofs.Common.{◌≡◌, ℕ, zero, suc, ◌+◌, ◌-◌, false, ltb, List, [], ◌∷◌, length, Ok, Err, Result, None, sym, ap, ◌∙◌, arith}
use Rattle.std.proofs.Math.Dec.{eqb-suc-zero}
use Rattle.std.proofs.lemmas.List.{length-append}
use Rattle.terms.specs.declared.fact.Fact.{Fact}
use Rattle.terms.specs.declared.row.Row.{Row}
use Rattle.terms.specs.Refusals.{ask, asked}
use Rattle.book.specs.Drafts.{listed}
use Rattle.stores.specs.Piles.{free_over}
use Rattle.layout.specs.declared.Group.TheVariants.{Rule, Factory, Site}
use Rattle.layout.specs.Layout.{marked}
use Rattle.image.specs.Images.{image_facts}
use Rattle.image.specs.SoundParts.{facts_in}
use Rattle.image.specs.declared.store.ImageStore.{ImageStore}
use Rattle.image.proofs.Reading.{facts_count}
use Rattle.records.specs.declared.Fault.{Fault}
use Rattle.records.specs.declared.rules.RuleGroup.{RuleGroup}
use Rattle.records.specs.Faults.{Refused, refused, at_record, onward}
use Rattle.records.specs.Books.{PartBook, facts_of, places_left, records_in}
use Rattle.records.specs.Reading.{next_group, read_after, file_read, all_groups}
use Rattle.records.specs.Groups.{past, RulesRead, FactoryRead, SiteRead, rows_alone, no_site, with_site, end_questions}
use Rattle.records.specs.Opened.{Content, said_by}
use Rattle.records.proofs.Whole.{file_on}
use Rattle.records.proofs.Ending.{ended_as}

-- no group goes on after k site facts: no row and no factory fact may follow a site fact, no row may follow a factory fact, and
-- after the records of each group its mark does not stand
module _ (rows : List Row) (bytes : List ℕ) (no_rule : marked Rule bytes ≡ false) where
  none_left : (facts : List Fact) (k : ℕ) → let site = past Factory (length facts) bytes in marked Factory site ≡ false → marked Site (past Site k site) ≡ false
      → next_group all_groups (with_site (no_site rows facts) k site) (past Site k site) ≡ None
  none_left [] zero f s = rw (no_rule, f, s)
  none_left [] (suc k) f s = rw (facts_count, eqb-suc-zero, s)
  none_left (e ∷ facts) zero f s = rw (eqb-suc-zero, f, s)
  none_left (e ∷ facts) (suc k) f s = simp (facts_count, eqb-suc-zero, s)

-- a file is read up to its site records, of which the first has the number; before them these facts are told and so many places free
pub record AtSite (bytes : List ℕ) (b : PartBook) (site : List ℕ) (first : ℕ) (facts : List Fact) (room : ℕ) : Type 0 where
  reads : file_read all_groups bytes ≡ read_after all_groups b site
  counted : records_in b ≡ first
  facts_before : facts_of b ≡ facts
  places : places_left b ≡ room
  last : (k : ℕ) → marked Site (past Site k site) ≡ false → next_group all_groups (with_site b k site) (past Site k site) ≡ None

-- the rule records and the factory records are read in a file that is short enough
pub at_site : (bytes : List ℕ) → Ok tt ≡ at_record 0 (asked (ask 15 (ltb (length bytes) 32768) ∷ []) (tt {0}))
    → (rules : RuleGroup) → RulesRead bytes (Ok rules)
    → (after : List ℕ) → after ≡ past Rule rules.records bytes → (image : ImageStore) → FactoryRead after rules.records (Ok image)
    → (site : List ℕ) → site ≡ past Factory (length (image_facts image)) after
    → (first : ℕ) → first ≡ rules.records + length (image_facts image)
    → (facts : List Fact) → facts ≡ image_facts image → (room : ℕ) → room ≡ free_over 0 (length (image_facts image))
    → AtSite bytes (no_site (listed rules.draft) (image_facts image)) site first facts room
at_site bytes short rules rows_read after after_is image facts_read site site_is first first_is facts facts_is room room_is =
    let none : length (image_facts image) - length (image_facts image) ≡ 0 = omega arith in
    let unmarked : marked Rule after ≡ false = ap (marked Rule) after_is ∙ rows_read.1.unmarked in
    record {
      reads =
          file_on all_groups bytes short ∙ rows_read.2 (Factory ∷ Site ∷ []) ∙ ap (read_after all_groups (rows_alone (listed rules.draft))) (sym after_is)
          ∙ facts_read.1 (listed rules.draft) ∙ ap (read_after all_groups (no_site (listed rules.draft) (image_facts image))) (sym site_is);
      counted = omega (arith, rows_read.0);
      facts_before = sym facts_is;
      places = ap (λ (n : ℕ). free_over n (length (image_facts image))) none ∙ sym room_is;
      last = rw site_is (λ k. none_left (listed rules.draft) after unmarked (image_facts image) k facts_read.0.unmarked);
    }

module _ {bytes : List ℕ} {b : PartBook} {site : List ℕ} {first : ℕ} {facts : List Fact} {room : ℕ} (here : AtSite bytes b site first facts room) where
  -- a site record is refused
  pub site_refused : (f : Fault) → SiteRead site first facts room facts room (Err f) → Err (refused f) ≡ onward (file_read all_groups bytes) (λ b. Ok (said_by b))
  site_refused f r =
      ap (λ (z : Result PartBook Refused). onward z (λ b. Ok (said_by b))) (sym (here.reads ∙ r b here.facts_before here.places here.counted))

  -- the site records are read, and the end of the file has an answer
  pub book_read : (facts' : List Fact) (room' : ℕ) (k : ℕ) → SiteRead site first facts room facts' room' (Ok k) → (rest : List ℕ) → rest ≡ past Site k site
      → (r : Result (Unit {0}) Refused) → r ≡ at_record (first + k) (asked (end_questions rest) (tt {0}))
      → onward r (λ _. let z : Content = record { rows = b.rows; facts = facts'; places = room' } in Ok z) ≡ onward (file_read all_groups bytes) (λ b. Ok (said_by b))
  book_read facts' room' k s rest rest_is r e =
      let c = with_site b k site in
      let told = s.1 b here.facts_before here.places in
      let l = length-append b.site (facts_in k site) in
      let m = facts_count k site in
      let n : first + k ≡ records_in c = omega (arith, here.counted) in
      let a = e ∙ ap (λ (n : ℕ). at_record n (asked (end_questions rest) (tt {0}))) n ∙ ap (λ (z : List ℕ). at_record (records_in c) (asked (end_questions z) (tt {0}))) rest_is in
      let content : said_by c ≡ record { rows = b.rows; facts = facts'; places = room' } =
      ap (λ (fs : List Fact). let z : Content = record { rows = b.rows; facts = fs; places = places_left c } in z) told.0
      ∙ ap (λ (n : ℕ). let z : Content = record { rows = b.rows; facts = facts'; places = n } in z) told.1 in
      ap (λ (z : Content). onward r (λ _. Ok z)) (sym content) ∙ ended_as said_by all_groups c (past Site k site) (here.last k s.0.unmarked) r a
      ∙ ap (λ (z : Result PartBook Refused). onward z (λ b. Ok (said_by b))) (sym (here.reads ∙ told.2))

-- The facts of part books: telling them in two parts, one factory fact more, and that a short file has few of these.
use Rattle.std.proofs.Common.{◌≡◌, ℕ, ◌<◌, ◌≤◌, Bool, true, false, cond, List, [], ◌∷◌, ◌++◌, length, Ok, refl, arith}
use Rattle.std.proofs.lemmas.List.{length-append, length_push}
use Rattle.terms.specs.declared.fact.Fact.{Fact}
use Rattle.terms.specs.Refusals.{asked}
use Rattle.terms.specs.Lawful.{fact_questions}
use Rattle.stores.specs.Meaning.{Meaning, listed}
use Rattle.stores.proofs.Keeping.{means_more}
use Rattle.layout.specs.declared.Group.TheVariants.{Factory, Site}
use Rattle.layout.specs.Layout.{encoded_rows, encoded_facts}
use Rattle.layout.proofs.Records.{facts_length}
use Rattle.records.specs.Books.{PartBook, told, encoded_book}

-- facts told in two parts; telling makes no list shorter
pub told_append : (facts site more : List Fact) → told facts (site ++ more) ≡ told (told facts site) more
told_append facts [] more = refl
told_append facts (f ∷ site) more = told_append (cond (listed facts f) facts (facts ++ f ∷ [])) site more

pub told_longer : (facts more : List Fact) → length facts ≤ length (told facts more)
told_longer facts [] = omega arith
told_longer facts (f ∷ more) =
    let h = told_longer (cond (listed facts f) facts (facts ++ f ∷ [])) more in
    let one = by (listed facts f) in
    omega arith
  where
    by : (t : Bool) → length facts ≤ length (cond t facts (facts ++ f ∷ []))
    by true = omega arith
    by false = let n = length_push facts f in omega arith

pub few_factory : (b : PartBook) (bytes : List ℕ) → length (encoded_book b ++ bytes) < 32768 → length b.factory < 32768
few_factory b bytes h =
    let f = encoded_facts Factory b.factory in
    let s = encoded_facts Site b.site in
    omega (arith, length-append (encoded_book b) bytes, length-append (encoded_rows b.rows) (f ++ s), length-append f s, facts_length Factory b.factory)

-- a lawful fact that is new
pub means_push : (facts : List Fact) (f : Fact) → Meaning facts 0 → length facts < 65536 → asked (fact_questions f) (tt {0}) ≡ Ok tt → listed facts f ≡ false → Meaning (facts ++ f ∷ []) 0
means_push facts f m few q new =
    let free : Meaning facts 1 = record { lawful = m.lawful; different = m.different; short = m.short; fits = omega arith } in
    means_more facts 1 f free q new (omega arith)

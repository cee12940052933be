use Rattle.std.proofs.Common.{◌≡◌, length, Ok, ℕ, ◌+◌, ◌-◌, ◌*◌, List, drop, take, Err, ap, ◌∙◌}
use Rattle.std.proofs.lemmas.List.{take_rest}
use Rattle.std.proofs.lemmas.Result.{err_from_is_err_and}
use Rattle.layout.specs.declared.Group.TheVariants.{Factory, Site}
use Rattle.book.specs.Drafts.{listed}
use Rattle.stores.specs.Piles.{pile_facts, pile_room}
use Rattle.image.specs.Images.{image_facts}
use Rattle.records.specs.Faults.{refused}
use Rattle.records.specs.Groups.{past, no_site}
use Rattle.records.proofs.Chunks.{slice_past}
use Rattle.records.proofs.Law.{layout_law}
use Rattle.records.proofs.Chain.{AtSite, at_site, site_refused, book_read}
use Rattle.records.proofs.reading.read_book.Goals as goal
use Rattle.records.proofs.reading.read_book.Goals.{After-tell_site}

-- the bytes of a slice from a place on
abbrev from : ℕ → List ℕ → List ℕ
from n bytes = take (length bytes - n) (drop n bytes)

-- what stands after the site records
site_end : (site : List ℕ) (told size : ℕ) → size ≡ 6 → drop (size * told) site ≡ past Site told site
site_end site told size e = ap (λ (n : ℕ). drop (n * told) site) e

-- the file is read up to the site records, when these were told
there : (c : After-tell_site) → let bytes = c.args.bytes.now in let rules = c.in_ok-rules.rules in let image = c.in_ok-image.image in let store = c.over-store.result in
    AtSite bytes (no_site (listed rules.draft) (image_facts image)) (from (c.size.result * c.count.result) (from rules.end bytes))
    (rules.records + c.count-2.result) (pile_facts image_facts store) (pile_room image_facts store)
there c =
    let bytes = c.args.bytes.now in
    let rules = c.in_ok-rules.rules in
    let image = c.in_ok-image.image in
    let after = from rules.end bytes in
    at_site bytes c.in_ok-check_length.ensures rules c.in_ok-rules.ensures.read after (take_rest bytes rules.end ∙ ap (λ (n : ℕ). drop n bytes) c.in_ok-rules.ensures.place)
    image c.in_ok-image.ensures _ (slice_past Factory c.size.result _ _ after c.size.ensures c.count.ensures)
    _ (ap (λ (n : ℕ). rules.records + n) c.count-2.ensures) _ c.over-store.ensures.same _ c.over-store.ensures.room

pub returns-in_err-rules-clause-law : goal.returns-in_err-rules-clause-law
returns-in_err-rules-clause-law c = layout_law _ _

pub returns-in_err-image-clause-law : goal.returns-in_err-image-clause-law
returns-in_err-image-clause-law c = layout_law _ _

pub returns-in_err-told : goal.returns-in_err-told
returns-in_err-told c =
    let p = err_from_is_err_and c.from_residual-in_err-told.result c.from_residual-in_err-told.ensures.1 in
    let a = site_refused (there (goal.at.returns-in_err-told c).After-tell_site) c.in_err-told.field-0.0 c.in_err-told.ensures.told in
    rw (p.1, p.2) (record { answer = a; law = layout_law _ _ })

pub returns-in_err-finish : goal.returns-in_err-finish
returns-in_err-finish c =
    let p = err_from_is_err_and c.from_residual-in_err-finish.result c.from_residual-in_err-finish.ensures.1 in
    let a = book_read (there (goal.at.returns-in_err-finish c).After-tell_site) _ _ c.in_ok-told.told c.in_ok-told.ensures.told
    _ (site_end _ c.in_ok-told.told _ c.size-2.ensures) (Err (refused c.in_err-finish.field-0.0)) c.in_err-finish.ensures in
    rw (p.1, p.2) (record { answer = a; law = layout_law _ _ })

pub returns : goal.returns
returns c =
    let a = book_read (there (goal.at.returns c).After-tell_site) _ _ c.in_ok-told.told c.in_ok-told.ensures.told
    _ (site_end _ c.in_ok-told.told _ c.size-2.ensures) (Ok tt) c.in_ok-finish.ensures in
    record { answer = rw c.seal.ensures a; law = layout_law _ _ }

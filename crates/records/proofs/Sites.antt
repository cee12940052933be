-- Telling the facts of site records, one after another.
use Rattle.std.proofs.Common.{◌≡◌, ℕ, ◌+◌, ◌-◌, ◌/◌, ◌≤◌, min, Bool, true, false, List, [], ◌∷◌, ◌++◌, length, take, drop, OnOk, Ok, Err, Some, Result, sym, refl, ap, ◌∙◌, subst, append-nil, append_assoc, add-one, arith}
use mathlib.Core.List.Memᴰ
use Rattle.std.proofs.lemmas.List.{length-append}
use Rattle.terms.specs.declared.fact.Fact.{Fact}
use Rattle.terms.specs.declared.refusal.Refusal.{Refusal}
use Rattle.terms.specs.Refusals.{ask, asked, number}
use Rattle.terms.proofs.Asking.{answers}
use Rattle.stores.specs.Meaning.{tell_questions}
use Rattle.stores.specs.Piles.{free_over}
use Rattle.layout.specs.declared.Group.TheVariants.{Site}
use Rattle.layout.specs.Layout.{marked, whole, fact_in}
use Rattle.image.specs.SoundParts.{facts_in}
use Rattle.image.proofs.Reading.{facts_count}
use Rattle.records.specs.Faults.{Refused, at_record, onward}
use Rattle.records.specs.declared.Fault.{Fault}
use Rattle.records.specs.Books.{PartBook, told, facts_of, places_left, records_in}
use Rattle.records.specs.Reading.{with_record, read_after, all_groups}
use Rattle.records.specs.Groups.{past, Ends, ReadsOn, RefusedAfter, with_site, SiteRead, SiteTold}
use Rattle.records.proofs.Books.{told_append, told_longer}
use Rattle.records.proofs.Chunks.{front_whole, front_fact, past_more, Chunked, chunked_none, chunked_end, chunk_there, chunk_marked, chunk_ends, chunked_more}
use Rattle.records.proofs.Stepping.{marked_turn}

-- as many places fewer as facts more
fewer_places : (own n m : ℕ) → own ≤ n → n ≤ m → free_over (m - own) m ≡ free_over (n - own) n - (m - n)
fewer_places own n m h k = omega arith

-- the facts of a book with one site record more, and the places that are left
module _ (b : PartBook) (bytes : List ℕ) where
  facts_with : facts_of (with_record (Some Site) b bytes) ≡ told (facts_of b) (fact_in bytes ∷ [])
  facts_with = told_append b.factory b.site (fact_in bytes ∷ [])

  left_with : places_left (with_record (Some Site) b bytes) ≡ places_left b - (length (facts_of (with_record (Some Site) b bytes)) - length (facts_of b))
  left_with =
      let e = ap length facts_with in
      let g = told_longer (facts_of b) (fact_in bytes ∷ []) in
      fewer_places (length b.factory) (length (facts_of b)) (length (facts_of (with_record (Some Site) b bytes))) (told_longer b.factory b.site) (omega arith)

-- k site records more, and one more after them
none_more : (b : PartBook) (bytes : List ℕ) → with_site b 0 bytes ≡ b
none_more b bytes = ap (λ (site : List Fact). let c : PartBook = record { rows = b.rows; factory = b.factory; site = site } in c) (append-nil b.site)

one_more : (b : PartBook) (k : ℕ) (bytes : List ℕ) → with_site b (k + 1) bytes ≡ with_record (Some Site) (with_site b k bytes) (past Site k bytes)
one_more b k bytes =
    ap (λ (n : ℕ). with_site b n bytes) (add-one k)
    ∙ ap (λ (f : Fact). let c : PartBook = record { rows = b.rows; factory = b.factory; site = b.site ++ (facts_in k bytes ++ f ∷ []) } in c) (front_fact (past Site k bytes))
    ∙ ap (λ (site : List Fact). let c : PartBook = record { rows = b.rows; factory = b.factory; site = site } in c) (sym (append_assoc b.site (facts_in k bytes) (fact_in (past Site k bytes) ∷ [])))

-- the book with k site records more has the facts and the free places, and is read on from there
pub record Reached (b : PartBook) (bytes : List ℕ) (k : ℕ) (now : List Fact) (free : ℕ) : Type 0 where
  pub facts : facts_of (with_site b k bytes) ≡ now
  pub left : places_left (with_site b k bytes) ≡ free
  pub onward : ReadsOn all_groups b bytes (with_site b k bytes) (past Site k bytes)

reached_none : (b : PartBook) (bytes : List ℕ) → Reached b bytes 0 (facts_of b) (places_left b)
reached_none b bytes =
    let n = none_more b bytes in
    record { facts = ap facts_of n; left = ap places_left n; onward = sym (ap (λ (c : PartBook). read_after all_groups c bytes) n) }

-- where the mark of a site record stands after the k
module _ {b : PartBook} {bytes : List ℕ} {k : ℕ} {now : List Fact} {free : ℕ} (g : Reached b bytes k now free) (m : marked Site (past Site k bytes) ≡ true) where
  -- reading on, by the answer of the call that tells its fact
  reached_turn : (a : Result (Unit {0}) ℕ) → a ≡ asked (ask 12 (whole Site (past Site k bytes)) ∷ tell_questions now free (fact_in (past Site k bytes))) tt
      → read_after all_groups b bytes
      ≡ onward (at_record (records_in (with_site b k bytes)) a) (λ _. read_after all_groups (with_record (Some Site) (with_site b k bytes) (past Site k bytes)) (drop 6 (past Site k bytes)))
  reached_turn a e =
      let there = past Site k bytes in
      g.onward
      ∙ marked_turn all_groups (with_site b k bytes) there Site (Memᴰ.tail (Memᴰ.tail (Memᴰ.head refl))) refl m a
      (e ∙ ap (λ (n : ℕ). asked (ask 12 (whole Site there) ∷ tell_questions now n (fact_in there)) (tt {0})) (sym g.left)
      ∙ ap (λ (x : List Fact). asked (ask 12 (whole Site there) ∷ tell_questions x (places_left (with_site b k bytes)) (fact_in there)) (tt {0})) (sym g.facts))

  -- its fact is refused
  reached_refused : (first : ℕ) (f : Fault) (facts' : List Fact) (room' : ℕ) → f.index ≡ first + k → records_in b ≡ first
      → SiteTold (past Site k bytes) now free (Err f.refusal) facts' room' → RefusedAfter all_groups b bytes f
  reached_refused first f facts' room' i r t =
      let n : records_in (with_site b k bytes) ≡ f.index = omega (arith, length-append b.site (facts_in k bytes), facts_count k bytes) in
      reached_turn (Err (number f.refusal)) t.answer
      ∙ ap (λ (n : ℕ). let z : Result PartBook Refused = Err (record { number_of = number f.refusal; index = n }) in z) n

  -- its fact is told
  reached_more : (facts' : List Fact) (room' : ℕ) → SiteTold (past Site k bytes) now free (Ok tt) facts' room' → Reached b bytes (k + 1) facts' room'
  reached_more facts' room' t =
      let there = past Site k bytes in
      let c = with_site b k bytes in
      let d = with_record (Some Site) c there in
      let o = one_more b k bytes in
      let f : facts_of d ≡ facts' = facts_with c there ∙ ap (λ (x : List Fact). told x (fact_in there ∷ [])) g.facts ∙ sym t.list in
      record {
        facts = ap facts_of o ∙ f;
        left = (let p = ap places_left o in let w = left_with c there in let x = g.left in let y = g.facts in let z = t.left in cc);
        onward =
            reached_turn (Ok tt) t.answer ∙ ap (λ (x : PartBook). read_after all_groups x (drop 6 there)) (sym o)
            ∙ ap (read_after all_groups (with_site b (k + 1) bytes)) (past_more Site k bytes);
      }

-- k records are told, and each book with the facts and the free places before has now those that are reached
pub record Underway (bytes : List ℕ) (facts : List Fact) (room : ℕ) (size : ℕ) (rest : List ℕ) (k : ℕ) (now : List Fact) (free : ℕ) : Type 0 where
  pub chunks : Chunked Site bytes size rest k
  pub reached : (b : PartBook) → facts_of b ≡ facts → places_left b ≡ room → Reached b bytes k now free

pub underway_none : (bytes : List ℕ) (facts : List Fact) (room size : ℕ) → size ≡ 6 → Underway bytes facts room size bytes 0 facts room
underway_none bytes facts room size e = record {
  chunks = chunked_none Site bytes size e;
  reached = λ b f r. subst (λ (x : List Fact). Reached b bytes 0 x room) f (subst (Reached b bytes 0 (facts_of b)) r (reached_none b bytes));
}

-- what a chunk says of its record, the bytes say
front_told : (bytes : List ℕ) (facts : List Fact) (room : ℕ) (r : Result (Unit {0}) Refusal) (facts' : List Fact) (room' : ℕ)
    → SiteTold (take 6 bytes) facts room r facts' room' → SiteTold bytes facts room r facts' room'
front_told bytes facts room r facts' room' t = record {
  answer =
      t.answer ∙ ap (λ (w : Bool). asked (ask 12 w ∷ tell_questions facts room (fact_in (take 6 bytes))) (tt {0})) (front_whole Site bytes)
      ∙ ap (λ (f : Fact). asked (ask 12 (whole Site bytes) ∷ tell_questions facts room f) (tt {0})) (front_fact bytes);
  list = subst (λ (f : Fact). OnOk r (facts' ≡ told facts (f ∷ []))) (front_fact bytes) t.list;
  left = t.left;
}

module _ {bytes : List ℕ} {facts : List Fact} {room : ℕ} {size : ℕ} {rest : List ℕ} {k : ℕ} {now : List Fact} {free : ℕ}
    (u : Underway bytes facts room size rest k now free) where
  -- no record stands after the k
  ended : (first : ℕ) → Ends Site k bytes → SiteRead bytes first facts room now free (Ok k)
  ended first e = (e, λ b f r. (let g = u.reached b f r in (g.facts, g.left, g.onward)))

  pub turn_none : (first n : ℕ) → n ≡ size → length rest ≡ 0 → SiteRead bytes first facts room now free (Ok (length bytes / n))
  turn_none first n e none =
      let p = chunked_end u.chunks none in
      subst (λ (i : ℕ). SiteRead bytes first facts room now free (Ok i)) (sym (ap (λ (i : ℕ). length bytes / i) e ∙ p.0)) (ended first p.1)

  module _ (chunk after : List ℕ) (cut : rest ≡ chunk ++ after) (long : length chunk ≡ min size (length rest)) where
    pub turn_ends : (first : ℕ) → false ≡ marked Site chunk → SiteRead bytes first facts room now free (Ok k)
    turn_ends first m = ended first (chunk_ends u.chunks chunk after cut long m)

    -- a record stands there, and the call that tells its fact has answered r
    module _ {r : Result (Unit {0}) Refusal} {facts' : List Fact} {room' : ℕ} (m : true ≡ marked Site chunk) (t : SiteTold chunk now free r facts' room') where
      mark : marked Site (past Site k bytes) ≡ true
      mark = sym (m ∙ chunk_marked u.chunks chunk after cut long)

      told_there : (x : Result (Unit {0}) Refusal) → r ≡ x → SiteTold (past Site k bytes) now free x facts' room'
      told_there x e =
          let c = chunk_there u.chunks chunk after cut long in
          subst (λ (y : Result (Unit {0}) Refusal). SiteTold (past Site k bytes) now free y facts' room') e
          (front_told (past Site k bytes) now free r facts' room' (subst (λ (z : List ℕ). SiteTold z now free r facts' room') c t))

      pub turn_refused : (first : ℕ) (f : Fault) → f.index ≡ first + k → r ≡ Err f.refusal → SiteRead bytes first facts room facts' room' (Err f)
      turn_refused first f i e b o p n = reached_refused (u.reached b o p) mark first f facts' room' i n (told_there (Err f.refusal) e)

      -- the fact is told, and the next record stands six bytes on
      pub turn_told : r ≡ Ok (tt {0}) → Underway bytes facts room size after (k + 1) facts' room'
      turn_told e =
          let there = past Site k bytes in
          let t = told_there (Ok tt) e in
          let y = (answers tt (ask 12 (whole Site there) ∷ tell_questions now free (fact_in there)) (Ok tt) t.answer).accepted.0 refl in
          record {
            chunks = chunked_more u.chunks chunk after cut long y.0;
            reached = λ b o p. reached_more (u.reached b o p) mark facts' room' t;
          }

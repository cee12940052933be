-- A row store that is told facts one after another, and the table below it.
use Rattle.std.proofs.Common.{◌≡◌, ℕ, ◌+◌, ◌-◌, Bool, true, not, ◌&&◌, ltb, List, [], ◌∷◌, ◌++◌, length, replicate, drop, Result, sym, refl, ap, ◌∙◌, subst, inl, inr, arith}
use Rattle.std.proofs.lemmas.List.{length-take-le, length-append, length-replicate}
use Rattle.std.proofs.lemmas.Bool.{and_parts, and_from, cond-true, cond-false, ltb-true, lt-ltb, both_ways, not-true, not_from_false, false_from_ne_true}
use Rattle.std.proofs.lemmas.Slice.{drop-append-drop}
use Rattle.terms.specs.declared.fact.Fact.{Fact}
use Rattle.terms.specs.declared.refusal.Refusal.{Refusal}
use Rattle.terms.specs.Lawful.{lawful_fact}
use Rattle.stores.specs.declared.told.Told.{Told}
use Rattle.stores.specs.Meaning.{Meaning, listed, places_used, Tells, TellLaw}
use Rattle.stores.specs.declared.row.RowStore.{RowStore}
use Rattle.stores.specs.Rows.{row_facts, row_room}
use Rattle.stores.proofs.Law.{tell_law, place_word, word_place, place_or_none}
use Rattle.stores.proofs.Listing.{listed_in, in_listed}
use Rattle.piles.specs.Tables.{places_of, told, rows_with}

longer : (facts : List Fact) (f : Fact) (n : ℕ) (facts' : List Fact) → facts' ≡ facts ++ replicate n f → length facts' ≡ length facts + n
longer facts f n facts' e = ap length e ∙ length-append facts (replicate n f) ∙ ap (λ (k : ℕ). length facts + k) (length-replicate n f)

-- a store with so many places in all: telling it a fact leaves the list that the definition gives
module _ (places : ℕ) (facts : List Fact) (free : ℕ) (f : Fact) (r : Result Told Refusal) (facts' : List Fact) (free' : ℕ)
    (m : Meaning facts free) (t : Tells facts free f r facts' free') (left : free ≡ places - length facts) where
  law : TellLaw facts free f r facts' free'
  law = tell_law facts free f r facts' free' m t

  -- the fact is lawful and new, and a place is free
  taken : Bool
  taken = lawful_fact f && (not (listed facts f) && ltb (length facts) places)

  uses_place : taken ≡ true → places_used r ≡ 1
  unfolding taken
  uses_place y =
      let p = and_parts (lawful_fact f) (not (listed facts f) && ltb (length facts) places) y in
      let q = and_parts (not (listed facts f)) (ltb (length facts) places) p.1 in
      let room = ltb-true (length facts) places q.1 in
      word_place r (law.added.1 (p.0, (λ i. both_ways (listed facts f) (not-true (listed facts f) q.0) (in_listed facts f i)), omega arith))

  was_taken : places_used r ≡ 1 → taken ≡ true
  unfolding taken
  was_taken u =
      let a = law.added.0 (place_word r u) in
      and_from (lawful_fact f) _ a.0 (and_from (not (listed facts f)) _
      (not_from_false (listed facts f) (false_from_ne_true (listed facts f) (λ l. a.1 (listed_in facts f l)))) (lt-ltb (length facts) places (let l = a.2 in omega arith)))

  pub told_list : facts' ≡ told places facts f
  unfolding taken
  told_list =
      elim (place_or_none r) [
        | inl u ↦ (law.grown u).0 ∙ sym (cond-true taken (facts ++ f ∷ []) facts (was_taken u))
        | inr u ↦ (law.same u).0 ∙ sym (cond-false taken (facts ++ f ∷ []) facts (false_from_ne_true taken (λ y. (let e = uses_place y in omega arith))))
      ]

  pub told_left : free' ≡ places - length facts'
  told_left =
      let l = t.left in
      let n = longer facts f (places_used r) facts' t.list in
      omega arith

-- a row store over the table that lists the facts
pub record Filled (rows facts : List Fact) (s : RowStore) : Type 0 where
  pub list : row_facts s ≡ facts
  pub room : row_room s ≡ places_of rows - length facts
  pub table : s.rows.now ≡ rows_with facts rows

-- it is told one fact more
pub filled_more : (rows facts : List Fact) (s s' : RowStore) (f : Fact) (r : Result Told Refusal) → Filled rows facts s → Tells (row_facts s) (row_room s) f r (row_facts s') (row_room s')
    → s'.rows.now ≡ row_facts s' ++ drop s'.used s.rows.now → Filled rows (told (places_of rows) facts f) s'
filled_more rows facts s s' f r h t table =
    let room = row_room s in
    let facts' = row_facts s' in
    let m : Meaning facts room = subst (λ (l : List Fact). Meaning l room) h.list s.valid.means in
    let u : Tells facts room f r facts' (row_room s') = subst (λ (l : List Fact). Tells l room f r facts' (row_room s')) h.list t in
    let l = told_list (places_of rows) facts room f r facts' (row_room s') m u h.room in
    let n : s'.used ≡ length facts' = sym (length-take-le s'.used s'.rows.now s'.valid.within) in
    let k = longer facts f (places_used r) facts' u.list in
    record {
      list = l;
      room = told_left (places_of rows) facts room f r facts' (row_room s') m u h.room ∙ ap (λ (x : List Fact). places_of rows - length x) l;
      table =
          table ∙ ap (λ (x : List Fact). facts' ++ drop s'.used x) h.table
          ∙ ap (λ (x : List Fact). facts' ++ x) (drop-append-drop (length facts) rows facts s'.used (omega arith) refl)
          ∙ ap (λ (j : ℕ). facts' ++ drop j rows) n
          ∙ ap (λ (x : List Fact). rows_with x rows) l;
    }

-- Reading on by one record.
use Rattle.std.proofs.Common.{◌≡◌, ℕ, zero, suc, ◌<◌, ◌≤◌, Bool, true, false, cond, not, ◌&&◌, eqb, List, [], ◌∷◌, length, drop, Ok, Err, Some, None, Option, Result, sym, refl, ap, ◌∙◌, subst, inl, inr, arith}
use Rattle.std.proofs.lemmas.List.{length-drop}
use mathlib.Core.List.Memᴰ
use Rattle.std.proofs.lemmas.Bool.{and_parts, cases_lt, ne_eqb}
use Rattle.terms.specs.Refusals.{Question, ask, asked}
use Rattle.terms.specs.Worlds.{◌∈◌}
use Rattle.layout.specs.declared.Group.{Group}
use Rattle.layout.specs.declared.Group.TheVariants.{Rule, Factory, Site}
use Rattle.layout.specs.Layout.{layout, marked, whole}
use Rattle.layout.proofs.Records.{mark_two, one_mark}
use Rattle.records.specs.Faults.{Refused, at_record, onward}
use Rattle.records.specs.Books.{PartBook, records_in}
use Rattle.records.specs.Reading.{may_follow, next_group, own_questions, mark_questions, next_questions, with_record, after_record, read_on, read_after}

-- the bytes end: the book is read
on_nothing : (groups : List Group) (n : ℕ) (b : PartBook) (bytes : List ℕ) → length bytes ≡ 0 → read_on groups n b bytes ≡ Ok b
unfolding read_on
on_nothing groups zero b bytes e = refl
on_nothing groups (suc n) b bytes e =
    ap (λ (k : ℕ). cond (eqb k 0) (Ok b) (onward (at_record (records_in b) (asked (next_questions groups b bytes) (tt {0})))
    (λ _. read_on groups n (with_record (next_group groups b bytes) b bytes) (after_record (next_group groups b bytes) bytes)))) e

-- the turn of a record
turn : (groups : List Group) (n : ℕ) (b : PartBook) (bytes : List ℕ) → 0 < length bytes → read_on groups (suc n) b bytes
    ≡ onward (at_record (records_in b) (asked (next_questions groups b bytes) (tt {0}))) (λ _. read_on groups n (with_record (next_group groups b bytes) b bytes) (after_record (next_group groups b bytes) bytes))
unfolding read_on
turn groups n b bytes some =
    ap (λ (t : Bool). cond t (Ok b) (onward (at_record (records_in b) (asked (next_questions groups b bytes) (tt {0})))
    (λ _. read_on groups n (with_record (next_group groups b bytes) b bytes) (after_record (next_group groups b bytes) bytes)))) (ne_eqb (length bytes) 0 (λ e. omega arith))

-- a record of a group that has none of the listed marks is refused
none_no : (b : PartBook) (bytes : List ℕ) (t : Bool) (u : Unit {0}) → asked (ask 12 t ∷ mark_questions None b bytes) (tt {0}) ≡ Ok u → ⊥
none_no b bytes true u e = cc
none_no b bytes false u e = cc

pub asked_by : (groups : List Group) (b : PartBook) (bytes : List ℕ) (o : Option Group) → next_group groups b bytes ≡ o
    → asked (next_questions groups b bytes) (tt {0}) ≡ asked (ask 12 (not (eqb (length bytes) 1)) ∷ mark_questions o b bytes) tt
asked_by groups b bytes o e = ap (λ (p : Option Group). asked (ask 12 (not (eqb (length bytes) 1)) ∷ mark_questions p b bytes) (tt {0})) e

pub taken_group : (groups : List Group) (b : PartBook) (bytes : List ℕ) (u : Unit {0}) → asked (next_questions groups b bytes) (tt {0}) ≡ Ok u
    → (g : Group) × (next_group groups b bytes ≡ Some g)
taken_group groups b bytes u e = by (next_group groups b bytes) refl
  where
    by : (o : Option Group) → next_group groups b bytes ≡ o → (g : Group) × (next_group groups b bytes ≡ Some g)
    by None n =
        absurd (none_no b bytes (not (eqb (length bytes) 1)) u (sym (asked_by groups b bytes None n) ∙ e))
    by (Some g) n = (g, n)

pub some_size : (g : Group) → 0 < (layout g).size
some_size Rule = omega arith
some_size Factory = omega arith
some_size Site = omega arith

pub shorter : (g : Group) (bytes : List ℕ) (n : ℕ) → 0 < length bytes → length bytes ≤ suc n → length (drop (layout g).size bytes) ≤ n
shorter g bytes n some h = omega (arith, some_size g, length-drop (layout g).size bytes)

-- what follows a record by its group
abbrev follow : List Group → ℕ → PartBook → List ℕ → Option Group → Result PartBook Refused
follow groups n b bytes o = read_on groups n (with_record o b bytes) (after_record o bytes)

follow_same : (groups : List Group) (n m : ℕ) (b : PartBook) (bytes : List ℕ) → ((g : Group) → next_group groups b bytes ≡ Some g → follow groups n b bytes (Some g) ≡ follow groups m b bytes (Some g))
    → (r : Result (Unit {0}) ℕ) → asked (next_questions groups b bytes) (tt {0}) ≡ r
    → onward (at_record (records_in b) r) (λ _. follow groups n b bytes (next_group groups b bytes)) ≡ onward (at_record (records_in b) r) (λ _. follow groups m b bytes (next_group groups b bytes))
follow_same groups n m b bytes h (Err e) a = refl
follow_same groups n m b bytes h (Ok u) a =
    let t = taken_group groups b bytes u a in
    ap (follow groups n b bytes) t.1 ∙ h t.0 t.1 ∙ ap (follow groups m b bytes) (sym t.1)

-- any number of turns that is no smaller than the bytes gives the same
enough : (groups : List Group) (n m : ℕ) (b : PartBook) (bytes : List ℕ) → length bytes ≤ n → length bytes ≤ m → read_on groups n b bytes ≡ read_on groups m b bytes
enough groups zero m b bytes h k = on_nothing groups zero b bytes (omega arith) ∙ sym (on_nothing groups m b bytes (omega arith))
enough groups (suc n) zero b bytes h k = on_nothing groups (suc n) b bytes (omega arith) ∙ sym (on_nothing groups zero b bytes (omega arith))
enough groups (suc n) (suc m) b bytes h k =
    elim (cases_lt 0 (length bytes)) [
      | inr none ↦ on_nothing groups (suc n) b bytes (omega arith) ∙ sym (on_nothing groups (suc m) b bytes (omega arith))
      | inl some ↦
          turn groups n b bytes some
          ∙ follow_same groups n m b bytes (λ g e. enough groups n m (with_record (Some g) b bytes) (drop (layout g).size bytes) (shorter g bytes n some h) (shorter g bytes m some k))
          (asked (next_questions groups b bytes) (tt {0})) refl
          ∙ sym (turn groups m b bytes some)
    ]

module _ (groups : List Group) (b : PartBook) (bytes : List ℕ) where
  pub after_nothing : length bytes ≡ 0 → read_after groups b bytes ≡ Ok b
  after_nothing e = on_nothing groups (length bytes) b bytes e

  -- the questions of the next record have an answer
  one_turn : (r : Result (Unit {0}) ℕ) → 0 < length bytes → asked (next_questions groups b bytes) (tt {0}) ≡ r
      → read_after groups b bytes ≡ onward (at_record (records_in b) r) (λ _. follow groups (length bytes) b bytes (next_group groups b bytes))
  one_turn r some e =
      enough groups (length bytes) (suc (length bytes)) b bytes (omega arith) (omega arith) ∙ turn groups (length bytes) b bytes some
      ∙ ap (λ (r : Result (Unit {0}) ℕ). onward (at_record (records_in b) r) (λ _. follow groups (length bytes) b bytes (next_group groups b bytes))) e

  pub after_refused : (n : ℕ) → 0 < length bytes → asked (next_questions groups b bytes) (tt {0}) ≡ Err n → read_after groups b bytes ≡ Err (record { number_of = n; index = records_in b })
  after_refused n some e = one_turn (Err n) some e

  pub after_taken : (g : Group) → 0 < length bytes → next_group groups b bytes ≡ Some g → asked (next_questions groups b bytes) (tt {0}) ≡ Ok tt
      → read_after groups b bytes ≡ read_after groups (with_record (Some g) b bytes) (drop (layout g).size bytes)
  after_taken g some n e =
      one_turn (Ok tt) some e ∙ ap (follow groups (length bytes) b bytes) n
      ∙ enough groups (length bytes) (length (drop (layout g).size bytes)) (with_record (Some g) b bytes) (drop (layout g).size bytes) (shorter g bytes (length bytes) some (omega arith)) (omega arith)

-- the group of the next record is one of those listed, it may follow, and its mark stands there
pub record NextIs (groups : List Group) (b : PartBook) (bytes : List ℕ) (g : Group) : Type 0 where
  pub among : g ∈ groups
  pub follows : may_follow b g ≡ true
  pub marks : marked g bytes ≡ true

pub next_is : (groups : List Group) (b : PartBook) (bytes : List ℕ) (g : Group) → next_group groups b bytes ≡ Some g → NextIs groups b bytes g
next_is [] b bytes g e = absurd cc
next_is (h ∷ more) b bytes g e = by (may_follow b h && marked h bytes) refl (next_is more b bytes g) e
  where
    some_equal : ◌≡◌ {A = Option Group} (Some h) (Some g) → h ≡ g
    some_equal e = cc

    by : (t : Bool) → may_follow b h && marked h bytes ≡ t → (next_group more b bytes ≡ Some g → NextIs more b bytes g) → cond t (Some h) (next_group more b bytes) ≡ Some g → NextIs (h ∷ more) b bytes g
    by true p on e =
        let q = and_parts (may_follow b h) (marked h bytes) p in
        subst (NextIs (h ∷ more) b bytes) (some_equal e) (record { among = Memᴰ.head refl; follows = q.0; marks = q.1 })
    by false p on e = let n = on e in record { among = Memᴰ.tail n.among; follows = n.follows; marks = n.marks }

-- where its mark stands and it may follow, a group of the file is that of the next record
next_in : (groups : List Group) (b : PartBook) (bytes : List ℕ) (g : Group) → g ∈ groups → may_follow b g ≡ true → marked g bytes ≡ true
    → next_group groups b bytes ≡ Some g
next_in [] b bytes g i f m = elim i [ ]
next_in (h ∷ more) b bytes g (Memᴰ.head e) f m = rw e (there (subst (λ (k : Group). may_follow b k ≡ true) e f) (subst (λ (k : Group). marked k bytes ≡ true) e m))
  where
    there : may_follow b h ≡ true → marked h bytes ≡ true → next_group (h ∷ more) b bytes ≡ Some h
    there f m =
        let t : may_follow b h && marked h bytes ≡ true = rw (f, m) refl in
        ap (λ (t : Bool). cond t (Some h) (next_group more b bytes)) t
next_in (h ∷ more) b bytes g (Memᴰ.tail i) f m = by (may_follow b h && marked h bytes) refl (next_in more b bytes g i f m)
  where
    by : (t : Bool) → may_follow b h && marked h bytes ≡ t → next_group more b bytes ≡ Some g → next_group (h ∷ more) b bytes ≡ Some g
    by true p e =
        let q = and_parts (may_follow b h) (marked h bytes) p in
        ap (λ (t : Bool). cond t (Some h) (next_group more b bytes)) p ∙ ap Some (one_mark h g bytes q.1 m)
    by false p e = ap (λ (t : Bool). cond t (Some h) (next_group more b bytes)) p ∙ e

-- is a record whose mark stands there whole, and then its own questions
abbrev pub after_mark : Group → PartBook → List ℕ → List Question
after_mark g b bytes = ask 12 (whole g bytes) ∷ own_questions g b bytes

-- where the mark of a group of the file stands that may follow
module _ (groups : List Group) (b : PartBook) (bytes : List ℕ) (g : Group) (among : g ∈ groups) (follows : may_follow b g ≡ true) (mark : marked g bytes ≡ true) where
  next : next_group groups b bytes ≡ Some g
  next = next_in groups b bytes g among follows mark

  some : 1 < length bytes
  some = mark_two g bytes mark

  pub asks : asked (next_questions groups b bytes) (tt {0}) ≡ asked (after_mark g b bytes) (tt {0})
  asks =
      asked_by groups b bytes (Some g) next
      ∙ ap (λ (t : Bool). asked (ask 12 (not t) ∷ mark_questions (Some g) b bytes) (tt {0})) (ne_eqb (length bytes) 1 (λ e. omega (arith, some)))

  -- reading on, by the answer of these questions
  pub marked_turn : (a : Result (Unit {0}) ℕ) → a ≡ asked (after_mark g b bytes) (tt {0})
      → read_after groups b bytes ≡ onward (at_record (records_in b) a) (λ _. read_after groups (with_record (Some g) b bytes) (drop (layout g).size bytes))
  marked_turn (Ok u) e = after_taken groups b bytes g (omega (arith, some)) next (asks ∙ sym e)
  marked_turn (Err n) e = after_refused groups b bytes n (omega (arith, some)) (asks ∙ sym e)

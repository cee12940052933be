-- Setting out: every two classes of one part are met.
use Rattle.std.proofs.Common.{◌≡◌, ℕ, ◌+◌, ◌<◌, ◌≤◌, true, List, [], length, is_none, Option, sym, refl, subst, inl, inr, arith}
use Rattle.std.proofs.lemmas.List.{get_or_past}
use Rattle.std.proofs.lemmas.List.Sums.{count_by-le-length}
use Rattle.classes.specs.declared.ClassSet.{ClassSet}
use Rattle.classes.specs.Sets.{has, none, Took}
use Rattle.classes.proofs.Members.{not_in_none}
use Rattle.book.specs.declared.sealed.Book.{Book}
use Rattle.book.specs.Tables.{set_at, At}
use Rattle.search.specs.declared.ClassPair.{ClassPair}
use Rattle.search.specs.declared.trail.Trace.{Trace}
use Rattle.search.specs.declared.trail.Origin.TheVariants.{Part}
use Rattle.search.specs.Pairs.{ordered, mark_of, unmarked}
use Rattle.search.specs.Search.{Met, Nothing, Sources}
use Rattle.search.proofs.Pairs.{ordered_both}
use Rattle.search.proofs.Marking.{new_entry}
use Rattle.search.proofs.Turns.{Done, From, Fresh, Turn}

-- two classes of part p
abbrev pub Sown : List ClassSet → ℕ → ℕ → ℕ → Type 0
Sown P p a b = At P p a × At P p b

pub met_first : (P : List ClassSet) (b : Book) (W : List ClassPair) (T : List (Option Trace)) → ((q : ClassPair) → mark_of T q ≡ 0) → W ≡ [] → Met P b Nothing W T 1
met_first P b W T z w =
    let never : (q : ClassPair) → 0 < mark_of T q → ⊥ = λ q k. omega (arith, z q) in
    record {
      low = λ q f k. absurd (never q k);
      linked = λ q f k. absurd (never q k);
      clear = λ q f k. absurd (never q k);
      deep = omega arith;
      top = λ q f k. absurd (never q k);
      near = [];
      far = [];
      split = w;
      nears = λ q k. elim k [ ];
      fars = λ q k. elim k [ ];
      closed = λ q f k. absurd (never q k);
    }

-- at depth 1 there is always room for one pair more
shallow : (T : List (Option Trace)) → length T ≡ 2080 → 1 + unmarked T ≤ 2081
shallow T s = omega (arith, count_by-le-length (λ (e : Option Trace). is_none e) T)

pub sown_all : (P : List ClassSet) (T : List (Option Trace)) (k : ℕ) → length P ≤ k → Done (Sown P) (From k) T 1 → Sources P T
sown_all P T k l d p a c x y = elim (d p a c (x, y)) [
  | inl h ↦ not_in_none a (subst (λ (s : ClassSet). has s a ≡ true) (get_or_past P p none (omega arith)) x)
  | inr n ↦ n
]

abbrev sown_entry : ℕ → Trace
sown_entry p = record { depth = 0; origin = Part p }

-- partner d of class a is taken, and their pair q is to be met
pub sown : {P : List ClassSet} {b : Book} {W : List ClassPair} {T : List (Option Trace)} → Met P b Nothing W T 1 → length T ≡ 2080 → (p : ℕ) {a : ℕ} {r r' : ClassSet} {d : ℕ} {q : ClassPair}
    → a < 64 → At P p a → Fresh T (set_at P p) a r → Took r d r' → q ≡ ordered a d → Turn P b Nothing W T 1 (set_at P p) a r r' d q (sown_entry p)
sown {P = P} {T = T} m size p {a = a} {d = d} {q = q} la ia fr w is = record {
  met = m;
  room = shallow T size;
  size = size;
  fresh = fr;
  low = la;
  took = w;
  is = is;
  deep = refl;
  link = λ fit _.
      let both = subst (λ (y : ClassPair). At P p y.left × At P p y.right) (sym is) (ordered_both (λ x. At P p x) a d ia (fr.inside d w.was)) in
      inl (record { part = p; entry = new_entry T size q (sown_entry p) fit; left = both.0; right = both.1 });
}

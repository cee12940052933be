-- Reading the word of a path back, from its last pair to its source.
use Rattle.std.proofs.Common.{◌≡◌, ℕ, ◌+◌, ◌<◌, List, [], ◌∷◌, length, reverse, take, set, Some, Option, sym, ap, ◌∙◌, subst, inl, inr, arith}
use Rattle.std.proofs.lemmas.List.{reverse-append, take_more_set}
use Rattle.std.proofs.lemmas.Bool.{cases_lt}
use Rattle.classes.specs.declared.ClassSet.{ClassSet}
use Rattle.book.specs.declared.sealed.Book.{Book}
use Rattle.book.specs.Tables.{At}
use Rattle.search.specs.declared.ClassPair.{ClassPair}
use Rattle.search.specs.declared.trail.Trace.{Trace}
use Rattle.search.specs.Graph.{Way, stay, go, Reaches}
use Rattle.search.specs.declared.trail.Origin.TheVariants.{Part, Step}
use Rattle.search.specs.Pairs.{Proper, ordered, entry_of, mark, mark_of}
use Rattle.search.specs.Search.{Source, Stepped, Edge, Shown}
use Rattle.search.proofs.Pairs.{pair, ordered_up, ordered_down, ordered_sym, ordered_self, ordered_cases}

-- from the pair q the word w leads to the pair last
pub record Tail (b : Book) (q : ClassPair) (w : List ℕ) (last : ClassPair) : Type 0 where
  pub c : ℕ
  pub d : ℕ
  pub left : Way b q.left w c
  pub right : Way b q.right w d
  pub ends : ordered c d ≡ last

pub tail_none : (b : Book) (q : ClassPair) → Proper q → Tail b q [] q
tail_none b q h = record { c = q.left; d = q.right; left = stay; right = stay; ends = ordered_self q h }

tail_more : (b : Book) (p q last : ClassPair) (f : ℕ) (w : List ℕ) → Edge b p f q → Tail b q w last → Tail b p (f ∷ w) last
tail_more b p q last f w e t = elim (cases_lt e.d e.c) [
  | inl lt ↦
      let i : q ≡ pair e.d e.c = sym e.ends ∙ ordered_down e.c e.d lt in record {
        c = t.d;
        d = t.c;
        left = go e.left (subst (λ (y : ClassPair). Way b y.right w t.d) i t.right);
        right = go e.right (subst (λ (y : ClassPair). Way b y.left w t.c) i t.left);
        ends = ordered_sym t.d t.c ∙ t.ends;
      }
  | inr ge ↦
      let i : q ≡ pair e.c e.d = sym e.ends ∙ ordered_up e.c e.d ge in record {
        c = t.c;
        d = t.d;
        left = go e.left (subst (λ (y : ClassPair). Way b y.left w t.c) i t.left);
        right = go e.right (subst (λ (y : ClassPair). Way b y.right w t.d) i t.right);
        ends = t.ends;
      }
]

-- one letter more is written behind the others, and comes before them in the word
pub word_more : (ls : List ℕ) (k f : ℕ) → k < length ls → reverse (take (k + 1) (set ls k f)) ≡ f ∷ reverse (take k ls)
word_more ls k f h = ap reverse (take_more_set ls k f h) ∙ reverse-append (take k ls) (f ∷ [])

module _ (P : List ClassSet) (b : Book) (T : List (Option Trace)) (last : ClassPair) (row : ℕ) (shown : Shown P b T last row) where
  -- past the first pair of the way a pair comes by a step
  stepped : (q : ClassPair) → Proper q → 1 < mark_of T q → Stepped b T q
  stepped q fit m = elim (shown.linked q fit (omega arith)) [
    | inl x ↦ absurd (omega (arith, m, ap mark x.entry))
    | inr x ↦ x
  ]

  -- the pair that q comes from, with its letter before the word
  pub before : (q : ClassPair) (k : ℕ) (w : List ℕ) (t : Trace) (from : ClassPair) (letter : ℕ) → Proper q → mark_of T q ≡ k + 1 → 0 < k → entry_of T q ≡ Some t → t.origin ≡ Step from letter → Tail b q w last
      → Proper from × (mark_of T from ≡ k) × Tail b from (letter ∷ w) last
  before q k w t from letter fit m s e o x =
      let y = stepped q fit (omega arith) in
      let d : k ≡ y.depth = omega (arith, m, ap mark y.entry) in
      let h : t ≡ record { depth = y.depth; origin = Step y.from y.letter } = cc in
      let g : Step y.from y.letter ≡ Step from letter = sym (ap (λ (z : Trace). z.origin) h) ∙ o in
      let a : y.from ≡ from = cc in
      let c : y.letter ≡ letter = cc in
      subst (λ (z : ClassPair). Proper z × (mark_of T z ≡ k) × Tail b z (letter ∷ w) last) a
      (y.proper, y.before ∙ sym d, subst (λ n. Tail b y.from (n ∷ w) last) c (tail_more b y.from q last y.letter w y.edge x))

  -- it does not come from a part
  pub not_part : (q : ClassPair) (k : ℕ) (t : Trace) (p : ℕ) → Proper q → mark_of T q ≡ k + 1 → 0 < k → entry_of T q ≡ Some t → t.origin ≡ Part p → ⊥
  not_part q k t p fit m s e o =
      let y = stepped q fit (omega arith) in
      let h : t ≡ record { depth = y.depth; origin = Step y.from y.letter } = cc in
      let g : Step y.from y.letter ≡ Part p = sym (ap (λ (z : Trace). z.origin) h) ∙ o in
      cc

  -- the first pair of the way
  source : (q : ClassPair) → Proper q → mark_of T q ≡ 1 → Source P T q
  source q fit m = elim (shown.linked q fit (omega arith)) [
    | inl x ↦ x
    | inr x ↦ absurd (omega (arith, m, ap mark x.entry, x.deep))
  ]

  pub not_step : (q : ClassPair) (t : Trace) (from : ClassPair) (letter : ℕ) → Proper q → mark_of T q ≡ 1 → entry_of T q ≡ Some t → t.origin ≡ Step from letter → ⊥
  not_step q t from letter fit m e o =
      let y = source q fit m in
      let h : t ≡ record { depth = 0; origin = Part y.part } = cc in
      let g : Part y.part ≡ Step from letter = sym (ap (λ (z : Trace). z.origin) h) ∙ o in
      cc

  pub reached : (q : ClassPair) (w : List ℕ) (e : Trace) (p : ℕ) → Proper q → mark_of T q ≡ 1 → entry_of T q ≡ Some e → e.origin ≡ Part p → Tail b q w last → Reaches P b p w row
  reached q w e p fit m i o t =
      let x = shown.row in
      let y = source q fit m in
      let h : e ≡ record { depth = 0; origin = Part y.part } = cc in
      let g : Part y.part ≡ Part p = sym (ap (λ (z : Trace). z.origin) h) ∙ o in
      let a : y.part ≡ p = cc in
      let in_left = subst (λ n. At P n q.left) a y.left in
      let in_right = subst (λ n. At P n q.right) a y.right in
      elim (ordered_cases x.left x.right t.c t.d (x.both ∙ sym t.ends)) [
        | inl s ↦ record {
          left = x.left;
          right = x.right;
          from_left = q.left;
          from_right = q.right;
          in_left = in_left;
          in_right = in_right;
          way_left = subst (Way b q.left w) s.0 t.left;
          way_right = subst (Way b q.right w) s.1 t.right;
          row = x.rule;
        }
        | inr s ↦ record {
          left = x.left;
          right = x.right;
          from_left = q.right;
          from_right = q.left;
          in_left = in_right;
          in_right = in_left;
          way_left = subst (Way b q.right w) s.0 t.right;
          way_right = subst (Way b q.left w) s.1 t.left;
          row = x.rule;
        }
      ]

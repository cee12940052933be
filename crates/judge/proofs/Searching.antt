-- What the search finds in the completed facts: that the book stands, or a shortest clash.
use Rattle.std.proofs.Common.{◌≡◌, ℕ, ◌<◌, ◌≤◌, true, ◌&&◌, ltb, List, length, take, None, Some, Option, sym, refl, ap, ◌∙◌, subst, inl, inr, arith}
use mathlib.Core.Option.{some, some-injective}
use Rattle.std.proofs.Math.ListN.{get_elem?}
use mathlib.Core.Bool.{Bool-set}
use mathlib.Core.HLevel.{⊥_prop}
use mathlib.Core.Logic.{∥∥₁_elim}
use native.Mathlib.Bridge.{le_prop}
use Rattle.std.proofs.lemmas.List.{get_or_past, length-take-le}
use Rattle.std.proofs.lemmas.Bool.{and_from, and_parts, lt-ltb, ltb-true, cases_lt, cases_Bool, cond-false}
use Rattle.classes.specs.declared.ClassSet.{ClassSet}
use Rattle.classes.specs.Sets.{has, none}
use Rattle.terms.specs.Worlds.{Rule, disjoint, rules_of, World, In, reach}
use Rattle.terms.specs.Facts.{Claim, in_class, NearlyKeeps}
use Rattle.terms.specs.Completed.{Known}
use Rattle.terms.specs.Verdicts as verdicts
use Rattle.theory.specs.Tables.{Exact, extended}
use Rattle.theory.specs.Paths as paths
use Rattle.theory.proofs.Places.{at_mem}
use Rattle.theory.proofs.Clashes.{path_clash, least_path, no_path}
use Rattle.book.specs.declared.sealed.Book.{Book}
use Rattle.book.specs.Books.{rows_of, steps_of}
use Rattle.book.specs.Tables.{At, Steps, set_at}
use Rattle.classes.proofs.Members.{not_in_none}
use Rattle.search.specs.declared.Found.{Found}
use Rattle.search.specs.Graph.{Answer, Lead, Reaches, Way, stay, go}
use Rattle.search.proofs.Ways.{legal, way_to, way_from}
use Rattle.completion.specs.declared.record.PartRecord.{PartRecord}
use Rattle.completion.specs.Records.{part_at}
use Rattle.completion.specs.Whole.{Complete, tables_of}
use Rattle.judge.specs.declared.verdict.Verdict.{Verdict}
use Rattle.judge.specs.declared.verdict.Verdict.TheVariants.{Stands, Clash}
use Rattle.judge.specs.Verdicts.{low, saying, word}

-- the classes of a clash are those of its row
clash_rows : {R : List Rule} {F : List Claim} {p i l r : ℕ} {w : List ℕ} → get_elem? R i ≡ some (disjoint l r) → verdicts.Clash R F p w i
    → (W : World) → NearlyKeeps R F W → In W l (reach W p w) × In W r (reach W p w)
clash_rows {p = p} {l = l} {r = r} {w = w} e c W n =
    let d = some-injective _ _ (sym c.row ∙ e) in
    (subst (λ A. In W A (reach W p w)) (left_same c.left c.right l r d) (c.both W n).0, subst (λ A. In W A (reach W p w)) (right_same c.left c.right l r d) (c.both W n).1)
  where
    left_same : (a b c d : ℕ) → disjoint a b ≡ disjoint c d → a ≡ c
    left_same a b c d e = cc

    right_same : (a b c d : ℕ) → disjoint a b ≡ disjoint c d → b ≡ d
    right_same a b c d e = cc

-- what a verdict says of what the search answers, with the letters
pub record Answered (b : Book) (F : List Claim) (letters : List ℕ) (v : Verdict) : Type 0 where
  pub short : (saying v).size ≤ 2079
  pub low : low (word v letters) ≡ true
  pub size : length (word v letters) ≡ (saying v).size
  pub says : (saying v).says (rules_of (rows_of b)) F (word v letters)

module _ (b : Book) (F : List Claim) (ps : List PartRecord) (P : List ClassSet)
    (same : (p : ℕ) → p < 256 → set_at P p ≡ (part_at ps p).classes) (long : length P ≡ 256) where
  -- a way goes by features from class to class
  lead_low : (A f C : ℕ) → Lead b A f C → (A < 64) × (f < 16)
  lead_low A f C h = elim (cases_Bool (ltb A 64 && ltb f 16)) [
    | inl e ↦ let r = and_parts _ _ e in (ltb-true A 64 r.0, ltb-true f 16 r.1)
    | inr e ↦ not_in_none C (ap (λ (s : ClassSet). has s C) (sym (cond-false _ _ none e)) ∙ h)
  ]

  way_low : {A B : ℕ} {w : List ℕ} → Way b A w B → low w ≡ true
  way_low stay = refl
  way_low (go {f = f} l s) = and_from _ _ (lt-ltb f 16 (lead_low _ f _ l).1) (way_low s)

  way_class : {A B : ℕ} {w : List ℕ} → Way b A w B → B < 64 → A < 64
  way_class stay h = h
  way_class (go l s) h = (lead_low _ _ _ l).0

  row_classes : (i l r : ℕ) → get_elem? (rules_of (rows_of b)) i ≡ some (disjoint l r) → (l < 64) × (r < 64)
  row_classes i l r e = legal b (disjoint l r) (at_mem _ i _ e)

  module _ (t : Steps (rules_of (rows_of b)) b.tables.within b.tables.leads) (x : Exact (rules_of (rows_of b)) F (tables_of ps (steps_of b))) where
    known_at : (p A : ℕ) → Known (rules_of (rows_of b)) F (in_class p A) → At P p A
    unfolding extended
    known_at p A k =
        let h = (x.has_is p A).1 k in
        let r = and_parts _ _ h in
        ap (λ (s : ClassSet). has s A) (same p (ltb-true p 256 (and_parts (ltb p 256) (ltb A 64) r.0).0)) ∙ r.1

    at_known : (p A : ℕ) → A < 64 → At P p A → Known (rules_of (rows_of b)) F (in_class p A)
    unfolding extended
    at_known p A m h = elim (cases_lt p 256) [
      | inl l ↦ (x.has_is p A).0 (and_from _ _ (and_from _ _ (lt-ltb p 256 l) (lt-ltb A 64 m)) (ap (λ (s : ClassSet). has s A) (sym (same p l)) ∙ h))
      | inr g ↦ not_in_none A (ap (λ (s : ClassSet). has s A) (sym (get_or_past P p none (omega arith))) ∙ h)
    ]

    path_from : {p i : ℕ} {w : List ℕ} → Reaches P b p w i → paths.Reaches (rules_of (rows_of b)) F p w i
    path_from {p} r = record {
      left = r.left;
      right = r.right;
      row = r.row;
      path = record {
        from_a = r.from_left;
        from_b = r.from_right;
        in_a = at_known p r.from_left (way_class r.way_left (row_classes _ _ _ r.row).0) r.in_left;
        in_b = at_known p r.from_right (way_class r.way_right (row_classes _ _ _ r.row).1) r.in_right;
        way_a = way_from b t r.way_left;
        way_b = way_from b t r.way_right;
      };
    }

    path_to : {p i : ℕ} {w : List ℕ} → paths.Reaches (rules_of (rows_of b)) F p w i → Reaches P b p w i
    path_to {p} r = record {
      left = r.left;
      right = r.right;
      from_left = r.path.from_a;
      from_right = r.path.from_b;
      in_left = known_at p r.path.from_a r.path.in_a;
      in_right = known_at p r.path.from_b r.path.in_b;
      way_left = way_to b t r.path.way_a;
      way_right = way_to b t r.path.way_b;
      row = r.row;
    }

  -- no path: the book stands
  pub none_stands : Complete b F ps → ((p : ℕ) (w : List ℕ) (i : ℕ) → Reaches P b p w i → ⊥) → verdicts.Stands (rules_of (rows_of b)) F
  none_stands e n p w i c =
      ∥∥₁_elim b.steps ⊥_prop (λ t. ∥∥₁_elim e ⊥_prop (λ x. no_path (legal b) x (λ q v j r. n q v j (path_to t x r)) p w i c))

  pub low_answer : (k : Found) (letters : List ℕ) → Answer P b letters (Some k) → low (take k.length letters) ≡ true
  low_answer k letters a = way_low a.0.way_left

  -- a least path: a shortest clash
  pub least_shortest : Complete b F ps → (k : Found) (letters : List ℕ) → k.length ≤ length letters → Answer P b letters (Some k)
      → verdicts.Shortest (rules_of (rows_of b)) F k.part (take k.length letters) k.row
  least_shortest e k letters fit a =
      let r = a.0 in
      record {
        clash = record {
          left = r.left;
          right = r.right;
          row = r.row;
          both = λ W n. (
            ∥∥₁_elim b.steps (Bool-set _ _) (λ t. ∥∥₁_elim e (Bool-set _ _) (λ x. (clash_rows r.row (path_clash k.part (take k.length letters) k.row (path_from t x r)) W n).0)),
            ∥∥₁_elim b.steps (Bool-set _ _) (λ t. ∥∥₁_elim e (Bool-set _ _) (λ x. (clash_rows r.row (path_clash k.part (take k.length letters) k.row (path_from t x r)) W n).1)),
          );
        };
        least = λ q v j c.
            ∥∥₁_elim b.steps le_prop
            (λ t. ∥∥₁_elim e le_prop
            (λ x. (least_path (legal b) x k.part (take k.length letters) k.row (path_from t x r)
            (λ o u i s. let m = a.1 o u i (path_to t x s) in let n = length-take-le k.length letters fit in omega arith)).least q v j c));
      }

  pub answered : Complete b F ps → (letters : List ℕ) → length letters ≡ 2079 → (v : Verdict) (o : Option Found) → Answer P b letters o
      → (o ≡ None → v ≡ Stands) → ((k : Found) → o ≡ Some k → v ≡ Clash k) → Answered b F letters v
  answered e letters long v None a n s =
      subst (Answered b F letters) (sym (n refl)) (record { short = omega arith; low = refl; size = refl; says = none_stands e a })
  answered e letters long v (Some k) a n s =
      let fit : k.length ≤ length letters = let l = a.2 in omega arith in
      subst (Answered b F letters) (sym (s k refl))
      (record { short = a.2; low = low_answer k letters a; size = length-take-le k.length letters fit; says = least_shortest e k letters fit a })

-- The paths from one part in one class are the ways by which a class is undone.
use Rattle.std.proofs.Common.{◌≡◌, ℕ, zero, suc, ◌<◌, ◌&&◌, ltb, List, sym, ap, ◌∙◌, inl, inr}
use mathlib.Core.HLevel.{⊥_prop}
use mathlib.Core.Logic.{∥∥₁_elim, ∥∥₁_prop}
use Rattle.std.proofs.lemmas.Bool.{and_from, and_parts, lt-ltb, ltb-true, cases_Bool, cond-true, cond-false}
use Rattle.classes.specs.declared.ClassSet.{ClassSet}
use Rattle.classes.specs.Sets.{has, none}
use Rattle.terms.specs.Worlds.{rules_of}
use Rattle.terms.specs.Steps.{Within, Leads}
use Rattle.terms.specs.Verdicts.{Possible}
use Rattle.theory.specs.Legal.{RulesLegal}
use Rattle.theory.specs.Paths as paths
use Rattle.theory.specs.Theorems.{Undone}
use Rattle.theory.proofs.Range.{leads_range}
use Rattle.theory.proofs.Alone.{possible_by_search}
use Rattle.book.specs.declared.sealed.Book.{Book}
use Rattle.book.specs.Books.{rows_of, within_set}
use Rattle.book.specs.Tables.{set_at, At, Steps}
use Rattle.book.proofs.Legal.{rules_legal}
use Rattle.book.proofs.Reading.{legal_rules, decided}
use Rattle.search.specs.Graph.{Reaches}
use Rattle.search.proofs.Ways.{legal, way_to, way_from}
use Rattle.classes.proofs.Members.{not_in_none}
use Rattle.possible.specs.Questions.{Lone}

module _ (b : Book) where
  module _ (t : Steps (rules_of (rows_of b)) b.tables.within b.tables.leads) where
    module _ (A : ℕ) (low : A < 64) (P : List ClassSet) (lone : Lone (within_set b A) P) where
      its : within_set b A ≡ set_at b.tables.within A
      its = cond-true _ (set_at b.tables.within A) none (lt-ltb _ _ low)

      in_to : {B : ℕ} → Within (rules_of (rows_of b)) A B → At P 0 B
      in_to {B} w = ap (λ (s : ClassSet). has s B) (lone.here ∙ its) ∙ (t.within_is A B low).1 w

      in_from : (p : ℕ) {B : ℕ} → At P p B → Within (rules_of (rows_of b)) A B
      in_from zero {B} h = (t.within_is A B low).0 (ap (λ (s : ClassSet). has s B) (sym its ∙ sym lone.here) ∙ h)
      in_from (suc p) {B} h = not_in_none B (ap (λ (s : ClassSet). has s B) (sym (lone.others p)) ∙ h)

      undone_reaches : (u : Undone (rules_of (rows_of b)) A) → Reaches P b 0 u.word u.rule
      undone_reaches u = record {
        left = u.left;
        right = u.right;
        from_left = u.first;
        from_right = u.second;
        in_left = in_to u.in_first;
        in_right = in_to u.in_second;
        way_left = way_to b t u.way_left;
        way_right = way_to b t u.way_right;
        row = u.row;
      }

      reaches_undone : {p : ℕ} {w : List ℕ} {i : ℕ} → Reaches P b p w i → Undone (rules_of (rows_of b)) A
      reaches_undone {p} {w} {i} r = record {
        first = r.from_left;
        second = r.from_right;
        word = w;
        rule = i;
        left = r.left;
        right = r.right;
        in_first = in_from p r.in_left;
        in_second = in_from p r.in_right;
        way_left = way_from b t r.way_left;
        way_right = way_from b t r.way_right;
        row = r.row;
      }

  module _ (A : ℕ) (low : A < 64) (P : List ClassSet) (lone : Lone (within_set b A) P) where
    pub no_path_possible : ((p : ℕ) (w : List ℕ) (i : ℕ) → Reaches P b p w i → ⊥) → Possible (rules_of (rows_of b)) A
    no_path_possible n =
        ∥∥₁_elim b.steps ∥∥₁_prop
        (λ t. (possible_by_search _ _ _ (legal_rules (legal b)) (decided (legal b) t) A).1 (λ u. n 0 u.word u.rule (undone_reaches t A low P lone u)))

    pub path_impossible : {p : ℕ} {w : List ℕ} {i : ℕ} → Reaches P b p w i → Possible (rules_of (rows_of b)) A → ⊥
    path_impossible r k =
        ∥∥₁_elim b.steps ⊥_prop
        (λ t. (possible_by_search _ _ _ (legal_rules (legal b)) (decided (legal b) t) A).0 k (reaches_undone t A low P lone r))

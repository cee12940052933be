-- The ways of the graph of a book are those of its rules.
use Rattle.std.proofs.Common.{◌≡◌, ℕ, ◌<◌, ◌&&◌, ltb, List, sym, ap, ◌∙◌, inl, inr}
use Rattle.std.proofs.lemmas.Bool.{and_from, and_parts, lt-ltb, ltb-true, cases_Bool, cond-true, cond-false}
use Rattle.classes.specs.declared.ClassSet.{ClassSet}
use Rattle.classes.specs.Sets.{has, none}
use Rattle.terms.specs.Worlds.{rules_of}
use Rattle.terms.specs.Steps.{Leads}
use Rattle.theory.specs.Legal.{RulesLegal}
use Rattle.theory.specs.Paths as paths
use Rattle.theory.proofs.Range.{leads_range}
use Rattle.book.specs.declared.sealed.Book.{Book}
use Rattle.book.specs.Books.{rows_of}
use Rattle.book.specs.Tables.{Steps}
use Rattle.book.proofs.Legal.{rules_legal}
use Rattle.classes.proofs.Members.{not_in_none}
use Rattle.search.specs.Graph.{Lead, Way, stay, go}

module _ (b : Book) where
  pub legal : RulesLegal (rules_of (rows_of b))
  legal = rules_legal (rows_of b) b.lawful

  module _ (t : Steps (rules_of (rows_of b)) b.tables.within b.tables.leads) where
    pub lead_to : {A f B : ℕ} → Leads (rules_of (rows_of b)) A f B → Lead b A f B
    lead_to {A} {f} {B} l =
        let r = leads_range legal l in
        ap (λ (s : ClassSet). has s B) (cond-true _ _ none (and_from _ _ (lt-ltb _ _ r.0) (lt-ltb _ _ r.1)))
        ∙ (t.leads_is A f B r.0 r.1).1 l

    pub lead_from : {A f B : ℕ} → Lead b A f B → Leads (rules_of (rows_of b)) A f B
    lead_from {A} {f} {B} h =
        elim (cases_Bool (ltb A 64 && ltb f 16)) [
          | inl e ↦
              let p = and_parts _ _ e in
              (t.leads_is A f B (ltb-true _ _ p.0) (ltb-true _ _ p.1)).0
              (ap (λ (s : ClassSet). has s B) (sym (cond-true _ _ none e)) ∙ h)
          | inr e ↦ not_in_none B (ap (λ (s : ClassSet). has s B) (sym (cond-false _ _ none e)) ∙ h)
        ]

    pub way_to : {A B : ℕ} {w : List ℕ} → paths.Way (rules_of (rows_of b)) A w B → Way b A w B
    way_to paths.stay = stay
    way_to (paths.go l s) = go (lead_to l) (way_to s)

    pub way_from : {A B : ℕ} {w : List ℕ} → Way b A w B → paths.Way (rules_of (rows_of b)) A w B
    way_from stay = paths.stay
    way_from (go l s) = paths.go (lead_from l) (way_from s)

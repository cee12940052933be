-- Unions of the sets of a table.
use Rattle.std.proofs.Common.{◌≡◌, true, List, subst, inl, inr}
use Rattle.classes.specs.declared.ClassSet.{ClassSet}
use Rattle.classes.specs.Sets.{has, none}
use Rattle.classes.proofs.Members.{not_in_none}
use Rattle.book.specs.Sealing.{Gathering, Gathered}

pub gather_none : (table : List ClassSet) (s : ClassSet) → Gathering table s s none
gather_none table s = record { from = λ B h. not_in_none B h; all = λ k B h _. inl h; part = λ k h. h }

pub gather_all : (table : List ClassSet) (s rest r : ClassSet) → rest ≡ none → Gathering table s rest r → Gathered table s r
gather_all table s rest r e g = record {
  from = g.from;
  all = λ k B h a. elim (g.all k B h a) [ inl x ↦ not_in_none k (subst (λ (t : ClassSet). has t k ≡ true) e x) | inr x ↦ x ];
}

use Rattle.std.proofs.Common.{◌≡◌, ℕ, ◌+◌, ◌*◌, true, ◌⊎◌, refl, sym, ◌∙◌, subst, inl, inr}
use Rattle.std.proofs.lemmas.Bool.{cases_eq, ne_eqb}
use Rattle.classes.specs.declared.ClassSet.{ClassSet}
use Rattle.classes.specs.Sets.{has}
use Rattle.classes.proofs.Members.{not_in_none}
use Rattle.completion.specs.Closed.{Keyed}
use Rattle.completion.proofs.Going.{still, went_then}
use Rattle.completion.proofs.growth.Growth.key_block.Goals as goal

pub loop-place-preserved : goal.loop-place-preserved
loop-place-preserved c =
    let i = c.loop-place.invariant in
    let a = c.key.ensures in
    let t = c.in-Some.ensures.steps in
    let rest = c.loop-place.place-iterator.rest in
    record {
      went = went_then i.went a.went;
      closed = λ e k h.
          elim (cases_eq k c.in-Some.place) [
            | inl s ↦ inr (subst (λ (n : ℕ). Keyed c.args.row c.key.new.self.parts c.args.p (64 * c.args.block + n)) (sym s) (a.closed e))
            | inr ne ↦
                elim (still (λ ps. (has rest k ≡ true) ⊎ Keyed c.args.row ps c.args.p (64 * c.args.block + k)) a.went (λ f. i.closed f k h) e) [
                  | inl r ↦ inl (t.rest k ∙ rw (r, ne_eqb k c.in-Some.place ne) refl)
                  | inr y ↦ inr y
                ]
          ];
      right = λ R F k t. a.right R F k (i.right R F k t);
    }

pub returns-clause-closed : goal.returns-clause-closed
returns-clause-closed c e k h =
    elim (c.loop-place.invariant.closed e k h) [
      | inl r ↦ not_in_none k (subst (λ (s : ClassSet). has s k ≡ true) c.in-None.ensures.steps.0 r)
      | inr y ↦ y
    ]

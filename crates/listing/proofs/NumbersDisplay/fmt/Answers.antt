use Rattle.std.proofs.Common.{[], List, ◌∷◌, ◌++◌, ℕ, decimal, ap, sym, refl, ◌∙◌, append-nil, append_assoc}
use Rattle.std.proofs.Output.{has_written_append, has_written_of_eq}
use Rattle.classes.specs.declared.ClassSet.{ClassSet}
use Rattle.classes.specs.Sets.{has}
use Rattle.listing.specs.Lines.{numbers}
use Rattle.listing.proofs.Joining.{first_number, numbers_of_none}
use Rattle.listing.proofs.NumbersDisplay.fmt.Goals as goal

pub loop-class-init : goal.loop-class-init
loop-class-init g c = λ p.
    ([], record { wrote = record { parts = []; calls = refl; whole = refl }; plain = p }, ap (λ (s : ClassSet). numbers (has s)) c.into_iter-class-iterator.ensures.into_iter_gives)

pub loop-class-preserved : goal.loop-class-preserved
loop-class-preserved g c = λ p.
    let before = c.loop-class.invariant p in
    let number = 32 ∷ decimal c.in-Some.class in
    let wrote = has_written_append _ _ _ _ number _ before.1 (c.in_ok-write.ensures.writes before.1.plain refl) in
    let split = first_number _ _ _ c.in-Some.ensures.steps in (
      before.0 ++ number,
      wrote,
      append_assoc before.0 number (numbers (has c.next.new.self.rest)) ∙ ap (λ (xs : List ℕ). before.0 ++ xs) (sym split) ∙ before.2,
    )

pub returns-clause-writes : goal.returns-clause-writes
returns-clause-writes g c = λ p _.
    let all = c.loop-class.invariant p in
    let left = ap (λ (s : ClassSet). numbers (has s)) c.in-None.ensures.steps.0 ∙ numbers_of_none in
    has_written_of_eq _ _ _ _ _ (sym (append-nil all.0) ∙ ap (λ (xs : List ℕ). all.0 ++ xs) (sym left) ∙ all.2) all.1

-- The facts that were accepted are held.
use Rattle.std.proofs.Common.{◌≡◌, Bool, true, false, cond, List, [], ◌∷◌, ◌++◌, replicate, ℕ, Ok, sym, refl, ◌∙◌, subst, append-nil}
use Rattle.std.specs.Prelude.{codes}
use mathlib.Core.List.Memᴰ
use Rattle.terms.specs.declared.fact.Fact.{Fact}
use Rattle.terms.specs.Worlds.{◌∈◌}
use Rattle.stores.specs.declared.told.Told.{Told}
use Rattle.stores.specs.declared.told.Told.TheVariants.{Added, Already}
use Rattle.stores.specs.Meaning.{Tells, listed, tell_questions, accepted_as, places_used}
use Rattle.stores.proofs.Listing.{listed_in}
use Rattle.runs.specs.Events.{Event, tell, judge, member, same, word, held_after, held}
use Rattle.runs.proofs.Asking.{done_yes}

-- a fact that was accepted stands in the list
pub told_held : (facts after : List Fact) (free free' : ℕ) (f : Fact) (t : Told) → Tells facts free f (Ok t) after free' → f ∈ after
told_held facts after free free' f Added h = subst (λ (fs : List Fact). f ∈ fs) (sym h.list) (Memᴰ.append_right facts (Memᴰ.head refl))
told_held facts after free free' f Already h =
    subst (λ (fs : List Fact). f ∈ fs) (sym (h.list ∙ append-nil facts))
    (by (listed facts f) refl (done_yes (tell_questions facts free f) (accepted_as facts f) (codes "already") h.answer).1)
  where
    by : (b : Bool) → listed facts f ≡ b → codes "already" ≡ cond b (codes "already") (codes "added") → f ∈ facts
    by true l e = listed_in facts f l
    by false l e = cc

-- what is held stays held
held_more : (facts : List Fact) (e : Event) (f : Fact) → f ∈ facts → f ∈ held_after facts e
held_more facts (tell g r) f m = Memᴰ.append_left (replicate (places_used r) g) m
held_more facts (judge n k r) f m = m
held_more facts (member p w A r) f m = m
held_more facts (same p q r) f m = m
held_more facts (word k o n r) f m = m

pub held_on : (facts : List Fact) (es : List Event) (f : Fact) → f ∈ facts → f ∈ held facts es
held_on facts [] f m = m
held_on facts (e ∷ es) f m = held_on (held_after facts e) es f (held_more facts e f m)

pub held_append : (facts : List Fact) (es more : List Event) → held facts (es ++ more) ≡ held (held facts es) more
held_append facts [] more = refl
held_append facts (e ∷ es) more = held_append (held_after facts e) es more

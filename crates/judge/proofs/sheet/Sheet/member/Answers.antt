use Rattle.std.proofs.Common.{◌≡◌, ℕ, true, false, ◌&&◌, nat_lt, List, refl, sym, ◌∙◌, rules, tests, arith}
use Rattle.std.specs.List.{list_all}
use Rattle.std.proofs.lemmas.Grind.{common_steps}
use Rattle.std.proofs.lemmas.List.Recursion.{same_from_clauses}
use Rattle.std.proofs.lemmas.Iterator.{YieldsList-from_slice}
use Rattle.std.proofs.lemmas.Iterator.Search.{all_from_yields_List}
use Rattle.judge.specs.Verdicts.{low}
use Rattle.judge.proofs.sheet.Sheet.member.Goals.{After-all}
use Rattle.judge.proofs.sheet.Sheet.member.Goals as goal

low_all : (w : List ℕ) → list_all (λ f. nat_lt f 16) w ≡ low w
low_all = same_from_clauses (list_all (λ f. nat_lt f 16)) low (λ f b. nat_lt f 16 && b) refl (λ _ _. refl) (λ _ _. refl)

all_low : (c : After-all) → c.all.result ≡ low c.args.word.now
all_low c = all_from_yields_List (λ f. nat_lt f 16) _ _ _ c.all.ensures.ran (YieldsList-from_slice c.args.word.now cc) (λ x b q k. search (rules, tests)) ∙ low_all c.args.word.now

pub returns-then-not-all : goal.returns-then-not-all
returns-then-not-all c =
    let letters : low c.args.word.now ≡ false = sym (all_low (goal.at.returns-then-not-all c).After-all) ∙ c.if-not-all.true in
    grind (arith, common_steps, letters)

pub member-requires-clause-letters : goal.member-requires-clause-letters
member-requires-clause-letters c = sym (all_low (goal.at.member-requires-clause-letters c).After-all) ∙ c.if-not-all.false

pub returns : goal.returns
returns c =
    let letters : low c.args.word.now ≡ true = sym (all_low (goal.at.returns c).After-all) ∙ c.if-not-all.false in
    grind (arith, common_steps, letters)

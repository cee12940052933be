-- The worked cases hold: each by a derivation, and by a world.
use Rattle.std.proofs.Common.{◌≡◌, ℕ, zero, suc, ◌≤◌, Bool, true, false, cond, ◌&&◌, ◌||◌, eqb, List, [], ◌∷◌, length, sym, refl, ap, ◌∙◌, subst, ap₂, true≢false, arith}
use mathlib.Core.Bool.{false≢true}
use mathlib.Core.Logic.{∥∥₁_elim}
use mathlib.Core.HLevel.{⊥_prop}
use mathlib.Core.List.{nil≢cons, tail-eq_of_cons-eq}
use mathlib.Core.Option.{some}
use lib.ListN.{get_elem?}
use Rattle.std.proofs.lemmas.Bool.{and_parts, eqb-true}
use Rattle.terms.specs.Worlds.{Rule, disjoint, rules_of, Obj, World, In, Keeps, exclusion, KeepsButExclusions, along, reach}
use Rattle.terms.specs.Steps.{Within, itself, by_rule, pulled, by_value, widened}
use Rattle.terms.specs.Facts.{Claim, claims_of, Holds, KeepsBook, NearlyKeeps}
use Rattle.terms.specs.Completed.{told, same, keyed, on_none, on_one_more}
use Rattle.terms.specs.Verdicts.{Clash, Stands, Possible}
use Rattle.theory.specs.Cases.{chain_rows, fork_rows, key_rows, Sole, lone_fact, told_value, two_classes, both_told, one_untold, WorkedCases}
use Rattle.terms.specs.Examples.{example_rows}
use Rattle.theory.proofs.Places.{at_mem, Each, each, is_first, is_second, is_third, is_fourth}
use Rattle.theory.proofs.Sound.{but_exclusions, nearly, within_sound, leads_sound, known_sound}

make : (R : List Rule) (F : List Claim) (W : World) → Each (Keeps W) R → Each (Holds W) F → KeepsBook R F W
make R F W r f = record { rules = each (Keeps W) R r; facts = each (Holds W) F f }

make_nearly : (R : List Rule) (F : List Claim) (W : World) → Each (λ r. exclusion r ≡ false → Keeps W r) R → Each (Holds W) F → NearlyKeeps R F W
make_nearly R F W r f = record { rules = each (λ r. exclusion r ≡ false → Keeps W r) R r; facts = each (Holds W) F f }

stands : {R : List Rule} {F : List Claim} {W : World} → KeepsBook R F W → Stands R F
stands {R} {W = W} k p w i c = let b = c.both W (nearly k) in k.rules _ (at_mem R i _ c.row) _ b.0 b.1

-- a test for equal lists
abbrev is : List ℕ → List ℕ → Bool
is [] [] = true
is [] (b ∷ v) = false
is (a ∷ u) [] = false
is (a ∷ u) (b ∷ v) = eqb a b && is u v

-- the rules of the books
abbrev example_rules : List Rule
example_rules = rules_of example_rows

abbrev chain_rules : List Rule
chain_rules = rules_of chain_rows

abbrev fork_rules : List Rule
fork_rules = rules_of fork_rows

abbrev key_rules : List Rule
key_rules = rules_of key_rows

-- the small example: class 0 lies within 3 and cannot have an object, class 1 can
implied_is : Within example_rules 0 3
implied_is = pulled (widened itself (by_value is_first) (by_rule is_second)) is_third

impossible_is : ¬ Possible example_rules 0
impossible_is p = ∥∥₁_elim p ⊥_prop (λ r. r.2 (disjoint 0 3) is_fourth r.1 r.3 (within_sound r.0 (but_exclusions r.0 r.2) implied_is r.1 r.3))

classes_123 : World
classes_123 = record { part = λ p. []; feature = λ f x. x; class = λ A x. eqb A 1 || eqb A 2 || eqb A 3 }

possible_is : Possible example_rules 1
unfolding classes_123
possible_is = ∣ (classes_123, [], each (Keeps classes_123) example_rules (λ x h. absurd (false≢true h), (λ x h. refl, (λ x h. refl, (λ x h h'. false≢true h, tt)))), refl) ∣₁

-- worlds of words: the value by f of x is f ∷ x, the newest letter first
abbrev words : (ℕ → Obj) → (ℕ → Obj → Bool) → World
words part class = record { part = part; feature = λ f x. f ∷ x; class = class }

-- class k is the one object u k, for each k in the list; other classes are empty
abbrev classes : List (ℕ × Obj) → ℕ → Obj → Bool
classes [] A x = false
classes (c ∷ l) A x = cond (eqb A c.0) (is x c.1) (classes l A x)

-- part n is the empty list, any other is 7 ∷ []
abbrev root : ℕ → ℕ → Obj
root n p = cond (eqb p n) [] (7 ∷ [])

root_is : (n q : ℕ) → is (root n q) [] ≡ true → q ≡ n
root_is n q h = on (eqb q n) refl h
  where
    on : (b : Bool) → eqb q n ≡ b → is (cond b [] (7 ∷ [])) [] ≡ true → q ≡ n
    on true e h = eqb-true q n e
    on false e h = absurd (false≢true h)

root_not : (n q a : ℕ) (u : List ℕ) → eqb 7 a ≡ false → is (root n q) (a ∷ u) ≡ true → ⊥
root_not n q a u e h = on (eqb q n) h
  where
    on : (b : Bool) → is (cond b [] (7 ∷ [])) (a ∷ u) ≡ true → ⊥
    on true h = false≢true h
    on false h = true≢false (sym (and_parts (eqb 7 a) (is [] u) h).0 ∙ e)

-- which rule excludes
example_excludes : (j l r : ℕ) → get_elem? example_rules j ≡ some (disjoint l r) → (j ≡ 3) × (l ≡ 0)
example_excludes zero l r e = let z : ◌≡◌ {A = ℕ} 0 1 = cc in omega arith
example_excludes (suc zero) l r e = let z : ◌≡◌ {A = ℕ} 0 1 = cc in omega arith
example_excludes (suc (suc zero)) l r e = let z : ◌≡◌ {A = ℕ} 0 1 = cc in omega arith
example_excludes (suc (suc (suc zero))) l r e = (refl, cc)
example_excludes (suc (suc (suc (suc j)))) l r e = let z : ◌≡◌ {A = ℕ} 0 1 = cc in omega arith

chain_excludes : (j l r : ℕ) → get_elem? chain_rules j ≡ some (disjoint l r) → (j ≡ 2) × (l ≡ 2)
chain_excludes zero l r e = let z : ◌≡◌ {A = ℕ} 0 1 = cc in omega arith
chain_excludes (suc zero) l r e = let z : ◌≡◌ {A = ℕ} 0 1 = cc in omega arith
chain_excludes (suc (suc zero)) l r e = (refl, cc)
chain_excludes (suc (suc (suc j))) l r e = let z : ◌≡◌ {A = ℕ} 0 1 = cc in omega arith

fork_excludes : (j l r : ℕ) → get_elem? fork_rules j ≡ some (disjoint l r) → (j ≡ 2) × (l ≡ 2)
fork_excludes zero l r e = let z : ◌≡◌ {A = ℕ} 0 1 = cc in omega arith
fork_excludes (suc zero) l r e = let z : ◌≡◌ {A = ℕ} 0 1 = cc in omega arith
fork_excludes (suc (suc zero)) l r e = (refl, cc)
fork_excludes (suc (suc (suc j))) l r e = let z : ◌≡◌ {A = ℕ} 0 1 = cc in omega arith

-- the first class of a clash, at a world
at_left : {R : List Rule} {F : List Claim} {q : ℕ} {v : List ℕ} {j : ℕ} (W : World) → NearlyKeeps R F W → (c : Clash R F q v j) (A : ℕ) → c.left ≡ A → In W A (reach W q v)
at_left {q = q} {v = v} W k c A e = subst (λ A. In W A (reach W q v)) e (c.both W k).0

-- the clash at the part itself
part_world : World
part_world = words (root 7) (classes ((0, []) ∷ (1, 0 ∷ []) ∷ (2, 0 ∷ []) ∷ (3, []) ∷ []))

part_world_nearly : NearlyKeeps example_rules (claims_of (lone_fact 7 0)) part_world
unfolding part_world
part_world_nearly = make_nearly _ _ part_world (λ e x h. h, (λ e x h. h, (λ e x h. h, (λ e. absurd (true≢false e), tt)))) (refl, tt)

at_part : Sole example_rows (lone_fact 7 0) 7 3 []
unfolding part_world
at_part =
    record {
      clash = record { left = 0; right = 3; row = refl; both = λ W k. (k.facts _ is_first, within_sound W k.rules implied_is _ (k.facts _ is_first)) };
      only = λ q v j c n. only q v j c n;
    }
  where
    only : (q : ℕ) (v : List ℕ) (j : ℕ) → Clash example_rules (claims_of (lone_fact 7 0)) q v j → length v ≤ 0 → (q ≡ 7) × (v ≡ []) × (j ≡ 3)
    only q [] j c n = let r = example_excludes j c.left c.right c.row in (root_is 7 q (at_left part_world part_world_nearly c 0 r.1), refl, r.0)
    only q (f ∷ v) j c n = absurd (omega arith)

-- the clash along a word
word_world : World
word_world = words (root 0) (classes ((0, []) ∷ (1, 0 ∷ []) ∷ (2, 1 ∷ 0 ∷ []) ∷ []))

word_world_nearly : NearlyKeeps chain_rules (claims_of (lone_fact 0 0)) word_world
unfolding word_world
word_world_nearly = make_nearly _ _ word_world (λ e x h. h, (λ e x h. h, (λ e. absurd (true≢false e), tt))) (refl, tt)

-- in every world the word 0 1 takes class 0 into class 2
chain_word : (W : World) → KeepsButExclusions chain_rules W → (x : Obj) → In W 0 x → In W 2 (along W (0 ∷ 1 ∷ []) x)
chain_word W k x h = leads_sound W k (by_value is_second) _ (leads_sound W k (by_value is_first) x h)

along_word : Sole chain_rows (lone_fact 0 0) 0 2 (0 ∷ 1 ∷ [])
unfolding word_world
along_word =
    record {
      clash = record { left = 2; right = 2; row = refl; both = λ W k. let h = chain_word W k.rules _ (k.facts _ is_first) in (h, h) };
      only = λ q v j c n. let r = chain_excludes j c.left c.right c.row in only q v j r.0 (at_left word_world word_world_nearly c 2 r.1) n;
    }
  where
    only : (q : ℕ) (v : List ℕ) (j : ℕ) → j ≡ 2 → is (along word_world v (root 0 q)) (1 ∷ 0 ∷ []) ≡ true → length v ≤ 2 → (q ≡ 0) × (v ≡ 0 ∷ 1 ∷ []) × (j ≡ 2)
    only q [] j e h n = absurd (root_not 0 q 1 (0 ∷ []) refl h)
    only q (f ∷ []) j e h n = absurd (root_not 0 q 0 [] refl (and_parts (eqb f 1) (is (root 0 q) (0 ∷ [])) h).1)
    only q (f ∷ g ∷ []) j e h n =
        let r = and_parts (eqb g 1) (eqb f 0 && is (root 0 q) []) h in
        let s = and_parts (eqb f 0) (is (root 0 q) []) r.1 in
        (root_is 0 q s.1, ap₂ (λ f g. f ∷ g ∷ []) (eqb-true f 0 s.0) (eqb-true g 1 r.0), e)
    only q (f ∷ g ∷ i ∷ v) j e h n = absurd (omega arith)

-- the clash after a told value
value_world : World
value_world = words (λ p. cond (eqb p 5) (0 ∷ []) (root 0 p)) (classes ((0, []) ∷ (1, 0 ∷ []) ∷ (2, 1 ∷ 0 ∷ []) ∷ []))

value_world_nearly : NearlyKeeps chain_rules (claims_of told_value) value_world
unfolding value_world
value_world_nearly = make_nearly _ _ value_world (λ e x h. h, (λ e x h. h, (λ e. absurd (true≢false e), tt))) (refl, (refl, tt))

after_value : Sole chain_rows told_value 5 2 (1 ∷ [])
unfolding value_world
after_value =
    record {
      clash = record { left = 2; right = 2; row = refl; both = λ W k. let h = subst (λ x. In W 2 (along W (1 ∷ []) x)) (k.facts _ is_second) (chain_word W k.rules _ (k.facts _ is_first)) in (h, h) };
      only = λ q v j c n. let r = chain_excludes j c.left c.right c.row in only q v j r.0 (at_left value_world value_world_nearly c 2 r.1) n;
    }
  where
    on : (q : ℕ) (b : Bool) → eqb q 5 ≡ b → is (cond b (0 ∷ []) (root 0 q)) (0 ∷ []) ≡ true → q ≡ 5
    on q true e h = eqb-true q 5 e
    on q false e h = absurd (root_not 0 q 0 [] refl h)

    off : (q : ℕ) (b : Bool) → is (cond b (0 ∷ []) (root 0 q)) (1 ∷ 0 ∷ []) ≡ true → ⊥
    off q true h = false≢true h
    off q false h = root_not 0 q 1 (0 ∷ []) refl h

    only : (q : ℕ) (v : List ℕ) (j : ℕ) → j ≡ 2 → is (along value_world v (value_world.part q)) (1 ∷ 0 ∷ []) ≡ true → length v ≤ 1 → (q ≡ 5) × (v ≡ 1 ∷ []) × (j ≡ 2)
    only q [] j e h n = absurd (off q (eqb q 5) h)
    only q (f ∷ []) j e h n =
        let r = and_parts (eqb f 1) (is (value_world.part q) (0 ∷ [])) h in
        (on q (eqb q 5) refl r.1, ap (λ f. f ∷ []) (eqb-true f 1 r.0), e)
    only q (f ∷ g ∷ v) j e h n = absurd (omega arith)

-- the clash of two classes
two_world : World
two_world = words (root 4) (classes ((0, []) ∷ (1, []) ∷ (2, 0 ∷ []) ∷ (3, 0 ∷ []) ∷ []))

two_world_nearly : NearlyKeeps fork_rules (claims_of two_classes) two_world
unfolding two_world
two_world_nearly = make_nearly _ _ two_world (λ e x h. h, (λ e x h. h, (λ e. absurd (true≢false e), tt))) (refl, (refl, tt))

of_two : Sole fork_rows two_classes 4 2 (0 ∷ [])
unfolding two_world
of_two =
    record {
      clash = record { left = 2; right = 3; row = refl; both = λ W k. (k.rules _ is_first refl _ (k.facts _ is_first), k.rules _ is_second refl _ (k.facts _ is_second)) };
      only = λ q v j c n. let r = fork_excludes j c.left c.right c.row in only q v j r.0 (at_left two_world two_world_nearly c 2 r.1) n;
    }
  where
    only : (q : ℕ) (v : List ℕ) (j : ℕ) → j ≡ 2 → is (along two_world v (root 4 q)) (0 ∷ []) ≡ true → length v ≤ 1 → (q ≡ 4) × (v ≡ 0 ∷ []) × (j ≡ 2)
    only q [] j e h n = absurd (root_not 4 q 0 [] refl h)
    only q (f ∷ []) j e h n =
        let r = and_parts (eqb f 0) (is (root 4 q) []) h in
        (root_is 4 q r.1, ap (λ f. f ∷ []) (eqb-true f 0 r.0), e)
    only q (f ∷ g ∷ v) j e h n = absurd (omega arith)

-- one class alone
one_world : World
one_world = record { part = λ p. []; feature = λ f x. x; class = λ A x. eqb A 0 || eqb A 2 }

one_world_keeps : KeepsBook fork_rules (claims_of (lone_fact 4 0)) one_world
unfolding one_world
one_world_keeps = make _ _ one_world (λ x h. refl, (λ x h. absurd (false≢true h), (λ x h h'. false≢true h', tt))) (refl, tt)

-- a key whose values are told at both parts
agreed_world : World
agreed_world = record { part = λ p. []; feature = λ f x. x; class = λ A x. true }

agreed_world_keeps : KeepsBook key_rules (claims_of both_told) agreed_world
unfolding agreed_world
agreed_world_keeps = make _ _ agreed_world (λ x y h h' e. e 0 is_first, tt) (refl, (refl, (refl, (refl, tt))))

-- a key whose value is told at one part alone
untold_world : World
untold_world = record { part = λ p. cond (eqb p 1) [] (p ∷ []); feature = λ f x. 9 ∷ x; class = λ A x. true }

untold_world_keeps : KeepsBook key_rules (claims_of one_untold) untold_world
unfolding untold_world
untold_world_keeps = make _ _ untold_world (λ x y h h' e. tail-eq_of_cons-eq (e 0 is_first), tt) (refl, (refl, (refl, tt)))

pub worked_cases : WorkedCases
unfolding one_world untold_world
worked_cases = record {
  implied = implied_is;
  impossible = impossible_is;
  possible = possible_is;
  clash_at_part = at_part;
  clash_along_word = along_word;
  clash_after_value = after_value;
  clash_of_two = of_two;
  one_class_stands = stands one_world_keeps;
  one_class_in_2 = λ W k. k.rules _ is_first _ (k.facts _ is_first);
  one_class_not_in_3 = λ h. false≢true (h one_world one_world_keeps);
  agreed_stands = stands agreed_world_keeps;
  agreed_is_one = λ W k. known_sound (nearly k) (keyed is_first (told is_first) (told is_second) (on_one_more (told is_third) (told is_fourth) same on_none));
  untold_stands = stands untold_world_keeps;
  untold_is_not_one = λ h. nil≢cons (h untold_world untold_world_keeps);
}

-- Facts: the questions that make a fact lawful, and when two facts are the same.
use Rattle.std.specs.Prelude.{Bool, not, ◌&&◌, ◌||◌, List, [], ◌∷◌, ◌==◌, nat_le, nat_lt}
use Rattle.terms.specs.declared.fact.Fact.{Fact}
use Rattle.terms.specs.Refusals.{Question, ask}

-- 1: is the kind known?
abbrev pub fact_kind_known : Fact → Bool
fact_kind_known f = nat_le 1 f.kind && nat_le f.kind 3

-- 2: is the class, where the fact has one, below 64?
abbrev pub fact_class_low : Fact → Bool
fact_class_low f = not (f.kind == 1) || nat_lt f.second 64

-- 3: is the feature, where the fact has one, below 16?
abbrev pub fact_feature_low : Fact → Bool
fact_feature_low f = not (f.kind == 2) || nat_lt f.second 16

-- 4: is the third number, where it is not used, 0?
abbrev pub fact_unused_zero : Fact → Bool
fact_unused_zero f = f.kind == 2 || f.third == 0

-- the questions of a fact, in their order
abbrev pub fact_questions : Fact → List Question
fact_questions f =
    ask 1 (fact_kind_known f) ∷ ask 2 (fact_class_low f) ∷ ask 3 (fact_feature_low f) ∷ ask 4 (fact_unused_zero f) ∷ []

-- a fact is lawful when its questions have yes
abbrev pub lawful_fact : Fact → Bool
lawful_fact f = fact_kind_known f && (fact_class_low f && (fact_feature_low f && fact_unused_zero f))

-- two facts are the same when their kinds and numbers are equal
abbrev pub same_fact : Fact → Fact → Bool
same_fact f g = f.kind == g.kind && (f.first == g.first && (f.second == g.second && f.third == g.third))

use Rattle.std.proofs.Common.{◌≡◌, ℕ, zero, suc, List, get_or, Some, None, sym, subst}
use Rattle.std.proofs.Math.ListN.{replicate}
use mathlib.Core.Logic.{∥∥₁_map}
use Rattle.terms.specs.Worlds.{◌∈◌, Rule, rules_of}
use Rattle.terms.specs.Facts.{Claim, claims_of}
use Rattle.terms.specs.Completed.{told, same}
use Rattle.theory.specs.Tables.{Exact}
use Rattle.book.specs.declared.sealed.Book.{Book}
use Rattle.book.specs.Books.{rows_of, steps_of}
use Rattle.classes.proofs.Members.{not_in_none}
use Rattle.completion.specs.declared.record.PartRecord.{PartRecord}
use Rattle.completion.specs.declared.growth.Growth.{Growth}
use Rattle.completion.specs.Records.{Right, RightOf, Says}
use Rattle.completion.specs.Growths.{Fresh}
use Rattle.completion.specs.Closed.{Meant, rules_in}
use Rattle.completion.specs.Whole.{tables_of}
use Rattle.completion.proofs.Exactly.{exactly}
use Rattle.completion.proofs.complete.complete.Goals as goal

-- records that say nothing say nothing that is not known
no_value : (n f v : ℕ) → get_or (replicate n None) f None ≡ Some v → ⊥
no_value zero f v h = cc
no_value (suc n) zero v h = cc
no_value (suc n) (suc f) v h = no_value n f v h

fresh_right : (R : List Rule) (F : List Claim) (g : Growth) → Fresh g → Right R F g.parts
fresh_right R F g f p l =
    subst (λ (s : PartRecord). RightOf R F p s) (sym (f.each p l))
    record { classes = λ A h. not_in_none A h; leader = same; values = λ k v h. absurd (no_value 16 k v h) }

pub returns-clause-whole : goal.returns-clause-whole
returns-clause-whole g c = ∥∥₁_map c.of-rules.ensures.meant whole
  where
    F : List Claim
    F = claims_of (g.S.Store.facts c.args.store.now)

    right : Meant c.of-rules.result → Right (rules_in c.of-rules.result) F c.run.new.self.parts
    right m =
        c.run.ensures.right F m
        (c.tell_all.ensures.right (rules_in c.of-rules.result) F (λ d i. told i) (fresh_right _ F c.new-growth.result c.new-growth.ensures))

    said : (d : Claim) → d ∈ F → Says c.run.new.self.parts d
    said d i = c.run.ensures.kept d (c.tell_all.ensures.legal d i) (c.tell_all.ensures.given d i)

    whole : Meant c.of-rules.result → Exact (rules_of (rows_of c.args.book.now)) F (tables_of c.records.result (steps_of c.args.book.now))
    whole m =
        subst (λ (b : Book). Exact (rules_of (rows_of b)) F (tables_of c.records.result (steps_of b))) c.of-rules.ensures.book
        (exactly _ F _ c.records.result m c.tell_all.ensures.legal c.run.new.self.shape c.run.ensures.settled (right m) said c.records.ensures)

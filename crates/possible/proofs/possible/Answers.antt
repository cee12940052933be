use Rattle.std.proofs.Common.{◌≡◌, ◌<◌, Bool, true, not, ◌↔◌, List, is_some, Some, None, Option, sym, subst}
use Rattle.std.proofs.lemmas.Bool.{not-false, not-true, both_ways}
use Rattle.classes.specs.declared.ClassSet.{ClassSet}
use Rattle.terms.specs.Worlds.{rules_of}
use Rattle.terms.specs.Verdicts.{Possible}
use Rattle.book.specs.declared.sealed.Book.{Book}
use Rattle.book.specs.Books.{rows_of, within_set}
use Rattle.search.specs.declared.Found.{Found}
use Rattle.search.specs.Graph.{Answer}
use Rattle.possible.specs.Questions.{Lone}
use Rattle.possible.proofs.Undoing.{no_path_possible, path_impossible}
use Rattle.possible.proofs.possible.Goals as goal

-- what the search found tells whether the class is possible
told : (b : Book) (A : _) (low : A < 64) (P : List ClassSet) (lone : Lone (within_set b A) P) (letters : _) (o : Option Found) (v : Bool)
    → is_some o ≡ not v → Answer P b letters o → (v ≡ true) ↔ Possible (rules_of (rows_of b)) A
told b A low P lone letters None v e a =
    ((λ _. no_path_possible b A low P lone a), (λ _. not-false v (sym e)))
told b A low P lone letters (Some k) v e a =
    ((λ h. absurd (both_ways v (not-true v (sym e)) h)), (λ p. absurd (path_impossible b A low P lone a.0 p)))

pub returns-clause-truth : goal.returns-clause-truth
returns-clause-truth c =
    let lone : Lone (within_set c.args.book.now c.args.class) c.lone_part.result =
    subst (λ (s : ClassSet). Lone s c.lone_part.result) c.within.ensures.value c.lone_part.ensures in
    told c.args.book.now c.args.class c.if-class-ge64.false c.lone_part.result lone c.search.new.letters c.in_ok-found.found c.is_none.result c.is_none.ensures c.in_ok-found.ensures.searched.1

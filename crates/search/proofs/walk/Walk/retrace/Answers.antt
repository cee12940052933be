-- The letters stand at the front, and the way is a shortest one.
use Rattle.std.proofs.Common.{◌≡◌, ℕ, List, ◌++◌, length, take, sym, ap, ◌∙◌, subst, arith}
use Rattle.std.proofs.lemmas.List.{length-take-le}
use Rattle.std.proofs.Math.Seq.{take-append_seam}
use Rattle.search.specs.Graph.{Reaches}
use Rattle.search.specs.Pairs.{mark}
use Rattle.search.proofs.walk.Walk.retrace.Goals as goal

at_front : (n : ℕ) (xs ys : List ℕ) → length xs ≡ n → take n (xs ++ ys) ≡ xs
at_front n xs ys l = ap (λ k. take k (xs ++ ys)) (sym l) ∙ take-append_seam xs ys

pub returns : goal.returns
returns c =
    let v = c.args.self.now in
    let n = c.entry-length.result.depth in
    let ls = c.write_way-part.new.letters in
    let m = ap mark c.entry-length.ensures in
    let l : length ls ≡ n = c.write_way-part.auto.letters ∙ length-take-le c.from.result c.args.letters.now (omega (arith, m, c.requires.low)) ∙ c.from.ensures in (
      subst (λ (w : List ℕ). Reaches v.parts.now v.book.now c.write_way-part.result w c.args.end.row) (sym (at_front n ls _ l)) c.write_way-part.ensures,
      (λ p w i r. omega (arith, m, c.requires.least p w i r)),
      omega (arith, m, c.requires.low),
    )

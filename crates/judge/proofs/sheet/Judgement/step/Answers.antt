use Rattle.std.proofs.Common.{◌≡◌, arith, ◌∙◌, sym, ap, ◌<◌, ◌^◌, ◌∷◌, Some, None}
use Rattle.classes.specs.Sets.{weight}
use Rattle.completion.specs.Records.{part_at, value_by}
use Rattle.judge.specs.declared.reach.Reached.{Reached}
use Rattle.judge.specs.declared.reach.Reached.TheVariants.{Unnamed}
use Rattle.judge.specs.Sheets.{along}
use Rattle.judge.proofs.Reaching.{along_told, along_untold, along_unnamed}
use Rattle.judge.proofs.sheet.Judgement.step.Goals.{in-Part+in_default, in-Unnamed}
use Rattle.judge.proofs.sheet.Judgement.step.Goals as goal

pub returns-in-Some : goal.returns-in-Some
returns-in-Some c = λ w A l.
    let j = c.args.self.now in
    let f = c.args.letter in
    let p = c.in-Part.part in
    let low : p < 256 = omega arith in
    let e : value_by (part_at j.parts p) f ≡ Some c.in-Some.value = rw c.from.ensures at (sym c.value.ensures ∙ c.in-Some.is) in
    along_told j p f c.in-Some.value w A low c.requires e ∙ ap (λ (r : Reached). along j r (f ∷ w) A) (sym c.in-Part.is)

pub returns : goal.returns
returns c = λ w A l.
    let j = c.args.self.now in
    let f = c.args.letter in
    let fit : weight c.gather.result < 2 ^ 64 = omega (arith, c.gather.type_inv) in
    let gathered = rw c.from-by.ensures at c.gather.ensures in
    elim c.match-from.branch [
      | in-Part+in_default k ↦
          let p = k.in-Part.part in
          let low : p < 256 = omega arith in
          let e : value_by (part_at j.parts p) f ≡ None = rw k.from.ensures at (sym k.value.ensures ∙ k.in_default.is) in
          along_untold j p f c.match-from.classes c.gather.result w A low c.requires e (rw k.from.ensures at k.classes-is) fit gathered
          ∙ ap (λ (r : Reached). along j r (f ∷ w) A) (sym k.in-Part.is)
      | in-Unnamed k ↦
          along_unnamed j c.match-from.classes c.gather.result f w A c.requires fit gathered
          ∙ ap (λ (r : Reached). along j r (f ∷ w) A) (ap Unnamed k.classes-is ∙ sym k.in-Unnamed.is)
    ]

use Rattle.std.proofs.Common.{◌≡◌, ℕ, ◌≤◌, true, arith, length, take, subst, length-append, length-take}
use Rattle.search.specs.declared.Found.{Found}
use Rattle.judge.specs.declared.verdict.Verdict.{Verdict}
use Rattle.judge.specs.declared.verdict.Verdict.TheVariants.{Clash}
use Rattle.judge.specs.declared.sheet.Judgement.{Judgement}
use Rattle.judge.specs.Verdicts.{low, numbers, saying, word}
use Rattle.judge.proofs.Letters.{short_byte, short_numbers}
use Rattle.judge.proofs.sheet.Judgement.write_verdict.Goals.{in-Stands, in-Clash}
use Rattle.judge.proofs.sheet.Judgement.write_verdict.Goals as goal

-- the letters of a clash
short_letters : (j : Judgement) (clash : Found) → j.verdict ≡ Clash clash → (n : ℕ) → n ≡ clash.length → length (numbers (take n j.letters)) ≤ 6237
short_letters j clash e n same =
    let letters_low : low (take n j.letters) ≡ true = rw same (subst (λ (v : Verdict). low (word v j.letters) ≡ true) e j.low) in
    let few : clash.length ≤ 2079 = subst (λ (v : Verdict). (saying v).size ≤ 2079) e j.short in
    omega (arith, short_numbers (take n j.letters) letters_low, length-take n j.letters)

pub number-requires : goal.number-requires
number-requires c = rw c.words-in-Clash.ensures (simp length-append (omega (arith, short_byte)))

pub words-requires-in-Clash-2 : goal.words-requires-in-Clash-2
words-requires-in-Clash-2 c = rw (c.number.ensures, c.words-in-Clash.ensures) (simp length-append (omega (arith, short_byte)))

pub number-requires-in-Clash : goal.number-requires-in-Clash
number-requires-in-Clash c = rw (c.words-in-Clash-2.ensures, c.number.ensures, c.words-in-Clash.ensures) (simp length-append (omega (arith, short_byte)))

pub words-requires-in-Clash-3 : goal.words-requires-in-Clash-3
words-requires-in-Clash-3 c =
    rw (c.number-in-Clash.ensures, c.words-in-Clash-2.ensures, c.number.ensures, c.words-in-Clash.ensures) (simp length-append (omega (arith, short_byte)))

pub write_letters-requires-clause-room : goal.write_letters-requires-clause-room
write_letters-requires-clause-room c =
    rw (c.words-in-Clash-3.ensures, c.number-in-Clash.ensures, c.words-in-Clash-2.ensures, c.number.ensures, c.words-in-Clash.ensures)
    (simp length-append (omega (arith, short_byte)))

pub words-requires-2 : goal.words-requires-2
words-requires-2 c = elim c.match-verdict.branch [
  | in-Stands w ↦ rw (w.text-is, w.words.ensures) (simp length-append (omega arith))
  | in-Clash w ↦
      rw (w.text-is, w.write_letters.ensures, w.words-in-Clash-3.ensures, w.number-in-Clash.ensures, w.words-in-Clash-2.ensures, w.number.ensures, w.words-in-Clash.ensures)
      (simp length-append (omega (arith, short_byte, short_letters c.args.self.now w.in-Clash.clash w.in-Clash.is w.from-in-Clash-2.result w.from-in-Clash-2.ensures)))
]

use Rattle.std.proofs.Common.{◌≤◌, ◌∙◌, arith, length, length-append}
use Rattle.std.specs.Fmt.{decimal}
use Rattle.judge.specs.Texts.{said}
use Rattle.judge.proofs.Letters.{letter_low, short_letter, numbers_cut}
use Rattle.judge.proofs.writing.write_letters.Goals.{After-from}
use Rattle.judge.proofs.writing.write_letters.Goals as goal

-- a letter has at most two digits
digits : (c : After-from) → length (decimal c.from.result) ≤ 2
digits c = let letter = letter_low c.args.letters.now c.loop-letter.letter-index c.requires.low c.loop-letter-test.true in short_letter c.from.result (omega (arith, letter))

pub number-requires : goal.number-requires
number-requires c = omega (arith, digits c)

pub loop-letter-preserved : goal.loop-letter-preserved
loop-letter-preserved c = record {
  left = rw c.number.ensures (rw c.from.ensures (numbers_cut (said c.loop-letter.text) c.args.letters.now c.loop-letter.letter-index c.loop-letter-test.true ∙ c.loop-letter.invariant.left));
  short = let two = digits (goal.at.loop-letter-preserved c).After-from in rw c.number.ensures (simp length-append (omega (arith, two)));
}

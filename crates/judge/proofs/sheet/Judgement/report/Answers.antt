use Rattle.std.proofs.Common.{arith, length-append}
use Rattle.judge.proofs.Letters.{short_count}
use Rattle.judge.proofs.sheet.Judgement.report.Goals as goal

pub number-requires : goal.number-requires
number-requires c = rw (c.words.ensures, c.new-text.ensures) (omega (arith, short_count))

pub words-requires-2 : goal.words-requires-2
words-requires-2 c = rw (c.number.ensures, c.words.ensures, c.new-text.ensures) (simp length-append (omega (arith, short_count)))

pub number-requires-2 : goal.number-requires-2
number-requires-2 c = rw (c.words-2.ensures, c.number.ensures, c.words.ensures, c.new-text.ensures) (simp length-append (omega (arith, short_count)))

pub words-requires-3 : goal.words-requires-3
words-requires-3 c = rw (c.number-2.ensures, c.words-2.ensures, c.number.ensures, c.words.ensures, c.new-text.ensures) (simp length-append (omega (arith, short_count)))

pub write_verdict-requires : goal.write_verdict-requires
write_verdict-requires c =
    rw (c.words-3.ensures, c.number-2.ensures, c.words-2.ensures, c.number.ensures, c.words.ensures, c.new-text.ensures) (simp length-append (omega (arith, short_count)))

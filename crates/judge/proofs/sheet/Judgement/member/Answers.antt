use Rattle.std.proofs.Common.{◌+◌, drop, sym, ◌∙◌, arith}
use Rattle.std.proofs.lemmas.List.{drop_all, at_drop_more}
use Rattle.judge.specs.Sheets.{along}
use Rattle.judge.proofs.Letters.{letter_low}
use Rattle.judge.proofs.Reaching.{along_start, along_end, along_over}
use Rattle.judge.proofs.sheet.Judgement.member.Goals as goal

pub loop-letter-init : goal.loop-letter-init
loop-letter-init c = λ A l. rw c.from.ensures (along_start c.args.self.now c.args.part c.args.word.now A (omega arith))

pub step-here-requires : goal.step-here-requires
step-here-requires c = letter_low c.args.word.now c.loop-letter.letter-index c.requires.letters c.loop-letter-test.true

pub loop-letter-preserved : goal.loop-letter-preserved
loop-letter-preserved c = λ A l.
    let w = c.args.word.now in
    let i = c.loop-letter.letter-index in
    c.step-here.ensures (drop (i + 1) w) A l ∙ sym (at_drop_more (λ v. along c.args.self.now c.loop-letter.here v A) w i 0 c.loop-letter-test.true) ∙ c.loop-letter.invariant A l

pub returns-in-Part : goal.returns-in-Part
returns-in-Part c =
    let A = c.args.class in
    let end = along_over c.args.self.now _ _ _ A _ c.in-Part.is (drop_all _ c.args.word.now (omega arith)) (c.loop-letter.invariant A c.requires.class) in
    rw c.from-in-Part.ensures at c.has.ensures ∙ along_end c.args.self.now c.in-Part.part A (omega arith) c.requires.class ∙ end

pub returns-in-Unnamed : goal.returns-in-Unnamed
returns-in-Unnamed c =
    let A = c.args.class in
    c.has-in-Unnamed.ensures
    ∙ along_over c.args.self.now _ _ _ A _ c.in-Unnamed.is (drop_all _ c.args.word.now (omega arith)) (c.loop-letter.invariant A c.requires.class)

use Rattle.std.proofs.Common.{rules}
use Rattle.script.proofs.Decimals.{at_place, one_more}
use Rattle.script.proofs.reading.numbers.Goals as goal

pub returns-in_default : goal.returns-in_default
returns-in_default c = λ ns low e. let here = at_place c.args.words.now ns c.loop-word.word-index _ e c.loop-word-test.true in c.in_default.ensures _ (low c.loop-word.word-index 0 here.0) here.1

pub loop-word-preserved : goal.loop-word-preserved
loop-word-preserved c = record {
  bytes = search rules;
  read = rw c.in_ok-push.ensures.items (one_more c.args.words.now c.loop-word.numbers.items c.loop-word.word-index c.in-Some.number _ c.loop-word-test.true c.loop-word.invariant.read c.in-Some.ensures);
}

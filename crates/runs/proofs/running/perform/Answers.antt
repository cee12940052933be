use Rattle.std.proofs.Common.{length, refl}
use Rattle.runs.specs.Events.{tell, judge, member, same, word}
use Rattle.runs.proofs.running.perform.Goals as goal

pub returns-in-Tell-clause-performed : goal.returns-in-Tell-clause-performed
returns-in-Tell-clause-performed g c = record {
  event = tell c.in-Tell.fact c.tell.result;
  made = rw c.in-Tell.is (c.tell.result, refl, refl, refl);
  step = (c.tell.ensures.tells, refl);
}

pub returns-in-Judge-clause-performed : goal.returns-in-Judge-clause-performed
returns-in-Judge-clause-performed g c = record {
  event = judge (length c.in-Judge.pairs.now) (length c.in-Judge.parts.now) c.judge.result;
  made = rw c.in-Judge.is (c.judge.result, refl, (_, _, refl, record { pairs_back = (refl, c.judge.auto.pairs); parts_back = (refl, c.judge.auto.parts); unchanged = c.judge.ensures.unchanged }), refl);
  step = (c.judge.ensures.judges, refl);
}

pub returns-in-Member-clause-performed : goal.returns-in-Member-clause-performed
returns-in-Member-clause-performed g c = record {
  event = member c.in-Member.part c.in-Member.word.now c.in-Member.class c.member.result;
  made = rw c.in-Member.is (c.member.result, refl, refl, refl);
  step = (c.member.ensures, refl, refl);
}

pub returns-in-Same-clause-performed : goal.returns-in-Same-clause-performed
returns-in-Same-clause-performed g c = record {
  event = same c.in-Same.p c.in-Same.q c.same.result;
  made = rw c.in-Same.is (c.same.result, refl, refl, refl);
  step = (c.same.ensures, refl, refl);
}

pub returns-in-Word-clause-performed : goal.returns-in-Word-clause-performed
returns-in-Word-clause-performed g c = record {
  event = word c.in-Word.place c.in-Word.out.now c.word.new.out c.word.result;
  made = rw c.in-Word.is (c.word.result, _, refl, refl, (refl, c.word.auto.out), refl);
  step = (c.word.ensures, refl, refl);
}

use Rattle.std.proofs.Common.{◌≡◌}
use Rattle.bookask.proofs.replies.word_line.Goals as goal

pub returns : goal.returns
returns c =
    let p = c.made-answer.ensures.performed in
    let same : p.made.1.now ≡ c.in-Word.out.now = cc in
    record {
      event = p.event;
      answer = c.made-answer.result;
      out = c.in-Word.out.now;
      calls = (p.made.0, rw same at p.made.2, p.made.5);
      step = p.step;
      book = c.made-answer.ensures.book;
      line = c.line_of.ensures;
    }

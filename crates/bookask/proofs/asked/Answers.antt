use Rattle.std.proofs.lemmas.Result.{IfOk-weaker}
use Rattle.bookask.proofs.asked.Goals as goal

pub returns-in-Ok : goal.returns-in-Ok
returns-in-Ok c =
    let text = c.in-Ok.ensures.cases in
    IfOk-weaker c.read.result _ _ (λ ask read m. rw (← c.text_of.ensures, ← text.0) ((λ h. (rw text.0 text.1, (read m).0 h)), λ h. (read m).1 h.1)) c.read.ensures

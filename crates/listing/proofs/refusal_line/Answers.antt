use Rattle.std.proofs.Common.{◌≡◌, [], ◌∷◌, ◌++◌, string_bytes, ◌∙◌, append_assoc}
use Rattle.std.proofs.lemmas.Result.{IfOk-weaker}
use Rattle.records.specs.Faults.{fault_text}
use Rattle.listing.specs.Lines.{refusal_line}
use Rattle.listing.proofs.refusal_line.Goals as goal

pub returns : goal.returns
returns c =
    let f = c.args.fault in
    IfOk-weaker c.format.result (λ s. string_bytes s ≡ fault_text f ++ (10 ∷ [])) (λ s. string_bytes s ≡ refusal_line f.refusal f.index)
    (λ _ wrote. wrote ∙ simp append_assoc) c.format.ensures.ok

use Rattle.std.proofs.Common.{List, sym, subst}
use Rattle.terms.specs.declared.fact.Fact.{Fact}
use Rattle.image.specs.SoundParts.{Sound, LongestSound}
use Rattle.image.proofs.Encoding.{part_facts}
use Rattle.image.proofs.store.ImageStore.open.Goals as goal

pub invariant_of-result : goal.invariant_of-result
invariant_of-result c =
    let part = c.sound.result.now in
    record { valid = subst (Sound part) (sym (part_facts c.args.bytes.now part c.sound.ensures.part)) c.sound.ensures.law.sound }

pub returns-clause-list : goal.returns-clause-list
returns-clause-list c = part_facts c.args.bytes.now c.sound.result.now c.sound.ensures.part

pub returns-clause-law : goal.returns-clause-law
returns-clause-law c =
    let bytes = c.args.bytes.now in
    let part = c.sound.result.now in
    subst (λ (x : List Fact). LongestSound bytes part x) (sym (part_facts bytes part c.sound.ensures.part)) c.sound.ensures.law

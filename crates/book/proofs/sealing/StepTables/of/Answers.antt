use Rattle.book.proofs.Whole.{alone_sound, alone_ordered, exact}
use Rattle.book.proofs.sealing.StepTables.of.Goals as goal

pub returns : goal.returns
returns c R d =
    let start = c.reflexive.result in
    let ready = c.climb.ensures R d (alone_sound start c.reflexive.ensures R) (alone_ordered start c.reflexive.ensures) in
    exact R d.legal c.settle.new.within (c.settle.ensures R d ready) c.args.links.now c.lead.new.tables d c.lead.ensures

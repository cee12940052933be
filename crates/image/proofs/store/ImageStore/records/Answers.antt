use Rattle.std.proofs.Common.{map, ap, ◌∙◌}
use Rattle.layout.specs.Layout.{fact_in}
use Rattle.image.proofs.Reading.{chunks_facts}
use Rattle.image.proofs.store.ImageStore.records.Goals as goal

pub returns : goal.returns
returns c = ap (map fact_in) c.as_chunks.ensures.front ∙ chunks_facts _ _

-- The image store: the facts of the records that it reads in the caller's bytes.
use Rattle.std.specs.Prelude.{ℕ, ◌/◌, List, length}
use Rattle.terms.specs.declared.fact.Fact.{Fact}
use Rattle.layout.specs.declared.Group.TheVariants.{Factory}
use Rattle.layout.specs.Layout.{layout}
use Rattle.image.specs.declared.store.ImageStore.{ImageStore}
use Rattle.image.specs.SoundParts.{facts_in}

abbrev pub image_facts : ImageStore → List Fact
image_facts s = facts_in (length s.bytes.now / (layout Factory).size) s.bytes.now

-- an image has no free place
abbrev pub image_room : ImageStore → ℕ
image_room s = 0

-- The set still has each part of the class that agrees on all features of the key.
use Rattle.std.proofs.Common.{◌≡◌, ℕ, ◌<◌, List}
use Rattle.completion.specs.declared.record.PartRecord.{PartRecord}
use Rattle.completion.specs.Records.{Agree, Has, key_features, leader_of, part_at}
use Rattle.completion.specs.PartSets.{In, Lists}
use Rattle.completion.proofs.index.Index.candidates.Given as goal

abbrev pub invariant-loop-place : goal.invariant-loop-place
invariant-loop-place l = (ps : List PartRecord) → Lists ps l.self → (q : ℕ) → q < 256 → leader_of ps q ≡ q → Has (part_at ps q) l.class → Agree (key_features l.key) l.one (part_at ps q) → In l.set q

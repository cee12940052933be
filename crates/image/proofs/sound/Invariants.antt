use Rattle.std.proofs.Common.{◌≡◌, ◌-◌, length}
use Rattle.image.specs.SoundParts.{good_to, sound_count}
use Rattle.image.proofs.sound.Given as goal

abbrev pub invariant-loop-place : goal.invariant-loop-place
invariant-loop-place l = good_to (length l.records - l.place) l.place l.bytes ≡ sound_count l.bytes

use Rattle.std.proofs.Common.{◌≡◌, ℕ, ◌*◌, List, [], length, take, sym, ap, ◌∙◌, subst, arith}
use Rattle.layout.specs.declared.Group.TheVariants.{Factory}
use Rattle.layout.specs.Layout.{layout}
use Rattle.image.specs.SoundParts.{good_to, sound_count, sound_part, sound_facts, LongestSound}
use Rattle.image.proofs.Counting.{good_on, good_stops, good_ends}
use Rattle.image.proofs.Encoding.{longest_sound}
use Rattle.image.proofs.Reading.{looked_at, looked_length, good_there}
use Rattle.image.proofs.sound.Goals as goal

-- what a front part with as many records as are good is
found : (bytes : List ℕ) (s n : ℕ) → s ≡ (layout Factory).size → n ≡ sound_count bytes → (take (s * n) bytes ≡ sound_part bytes) × LongestSound bytes (take (s * n) bytes) (sound_facts bytes)
found bytes s n d e =
    let p : take (s * n) bytes ≡ sound_part bytes = ap (λ (k : ℕ). take (k * n) bytes) d ∙ ap (λ (k : ℕ). take ((layout Factory).size * k) bytes) e in
    (p, subst (λ (x : List ℕ). LongestSound bytes x (sound_facts bytes)) (sym p) (longest_sound bytes))

pub loop-place-init : goal.loop-place-init
loop-place-init c =
    let bytes = c.args.bytes.now in
    let l = looked_length bytes _ _ (looked_at bytes _ _ c.as_chunks.ensures.front c.min.ensures) in
    ap (λ (k : ℕ). good_to k 0 bytes) (omega (arith, l))

pub returns-then-not-is_good : goal.returns-then-not-is_good
returns-then-not-is_good c =
    let bytes = c.args.bytes.now in
    let place = c.loop-place.place in
    let there = good_there bytes _ _ (looked_at bytes _ _ c.as_chunks.ensures.front c.min.ensures) place [] c.loop-place-test.true in
    let f = found bytes _ place c.size.ensures (sym (good_stops _ place bytes c.loop-place-test.true (c.if-not-is_good.ensures ∙ there)) ∙ c.loop-place.invariant) in
    record { part = f.0; law = f.1 }

pub loop-place-preserved : goal.loop-place-preserved
loop-place-preserved c =
    let bytes = c.args.bytes.now in
    let place = c.loop-place.place in
    let there = good_there bytes _ _ (looked_at bytes _ _ c.as_chunks.ensures.front c.min.ensures) place [] c.loop-place-test.true in
    sym (good_on _ place bytes c.loop-place-test.true (c.if-not-is_good.ensures ∙ there)) ∙ c.loop-place.invariant

pub returns : goal.returns
returns c =
    let bytes = c.args.bytes.now in
    let n = length (take c.min.result c.as_chunks.result.0.now) in
    let e : n ≡ c.loop-place.place = omega arith in
    let f = found bytes _ n c.size-2.ensures (e ∙ sym (good_ends n c.loop-place.place bytes c.loop-place-test.false) ∙ c.loop-place.invariant) in
    record { part = f.0; law = f.1 }

-- What each call closes stays closed while the flag is down.
use Rattle.std.proofs.Common.{ℕ, ◌<◌, below_more, arith}
use Rattle.completion.specs.Closed.{Handed, Climbed, Followed}
use Rattle.completion.proofs.Going.{went_then, still}
use Rattle.completion.proofs.growth.Growth.visit.Goals as goal

pub loop-feature-init : goal.loop-feature-init
loop-feature-init c = record {
  went = went_then c.hand_over.ensures.went c.climb.ensures.went;
  handed = still (λ ps. Handed ps c.args.part) c.climb.ensures.went c.hand_over.ensures.closed;
  climbed = c.climb.ensures.closed;
  followed = λ e f h. absurd (omega arith);
  right = λ F meant right. c.climb.ensures.right F meant (c.hand_over.ensures.right _ F right);
}

pub loop-feature-preserved : goal.loop-feature-preserved
loop-feature-preserved c =
    let r = c.args.rules.now in
    let p = c.args.part in
    let n = c.loop-feature.feature in
    let i = c.loop-feature.invariant in
    let more = c.follow.ensures in record {
      went = went_then i.went more.went;
      handed = still (λ ps. Handed ps p) more.went i.handed;
      climbed = still (λ ps. Climbed r ps p) more.went i.climbed;
      followed = λ e. below_more (Followed r c.follow.new.self.parts p) n (still (λ ps. (f : ℕ) → f < n → Followed r ps p f) more.went i.followed e) (more.closed e);
      right = λ F meant right. more.right F meant (i.right F meant right);
    }

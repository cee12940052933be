use Rattle.std.proofs.Common.{◌<◌, arith}
use Rattle.completion.proofs.Going.{moved_aside, moved_then}
use Rattle.completion.proofs.Renaming.{renamed_shape, renamed_kept, renamed_right}
use Rattle.completion.proofs.growth.Growth.join.Goals as goal

pub invariant_of-self : goal.invariant_of-self
invariant_of-self c =
    let g = c.args.self.now in
    let low : c.args.from < 256 = omega arith in
    record { shape = renamed_shape c.args.from c.args.to g.parts c.rename_all.new.parts c.requires.lower low g.shape c.requires.leads c.rename_all.ensures.named }

pub returns-clause-went : goal.returns-clause-went
returns-clause-went c =
    let g = c.args.self.now in
    let low : c.args.from < 256 = omega arith in
    record {
      kept = renamed_kept c.args.from c.args.to g.parts c.rename_all.new.parts c.requires.lower low g.shape c.requires.leads c.rename_all.ensures.named;
      moved = moved_then (moved_aside g.parts g.waiting c.merged.new.self c.merged.ensures.grown c.merged.ensures.line) c.rename_all.ensures.moved;
    }

pub returns-clause-right : goal.returns-clause-right
returns-clause-right c =
    let g = c.args.self.now in
    let low : c.args.from < 256 = omega arith in
    renamed_right c.args.from c.args.to g.parts c.rename_all.new.parts c.requires.lower low g.shape c.requires.leads c.rename_all.ensures.named

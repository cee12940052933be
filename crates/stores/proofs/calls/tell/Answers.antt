use Rattle.stores.proofs.Law.{tell_law}
use Rattle.stores.proofs.calls.tell.Goals as goal

pub returns : goal.returns
returns g c =
    let m = g.S.Store in
    let e = c.tell.ensures in
    record {
      stays = e.stays;
      tells = e.tells;
      unchanged = e.unchanged;
      law = tell_law (m.facts c.args.store.now) (m.room c.args.store.now) c.args.fact c.tell.result
          (m.facts c.tell.new.self) (m.room c.tell.new.self) (m.means c.args.store.now c.requires) e.tells;
    }

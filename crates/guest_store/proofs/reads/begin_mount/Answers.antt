use Rattle.sqlite.specs.Held.{state}
use Rattle.guest_store.proofs.Ending.{ends_outside}
use Rattle.guest_store.proofs.Rests.{mounted}
use Rattle.guest_store.proofs.reads.begin_mount.Goals as goal

pub returns-clause-serves : goal.returns-clause-serves
returns-clause-serves g c = λ t.
    mounted g.G.Guested.GUEST (state g.S.Store c.args.conn.now) (state g.S.Store c.begin_mount.new.conn) t c.begin_mount.result c.begin_mount.ensures.fit
    c.begin_mount.ensures.open c.begin_mount.ensures.outside

pub returns-clause-ends : goal.returns-clause-ends
returns-clause-ends g c =
    ends_outside (state g.S.Store c.args.conn.now) (state g.S.Store c.begin_mount.new.conn) c.begin_mount.result c.begin_mount.ensures.ended c.begin_mount.ensures.outside
    c.begin_mount.ensures.undone c.begin_mount.ensures.once

use Rattle.std.proofs.Common.{◌∙◌, sym, ap}
use Rattle.sqlite.specs.Held.{state}
use Rattle.fuse_data.specs.State.{state_in}
use Rattle.fuse_store_tree.specs.StoreState.{store_in}
use Rattle.fuse_rows.specs.Rows.{Rows}
use Rattle.fuse_tree.specs.Rowed.{rowed}
use Rattle.fuse_store.proofs.Peeking.{held_rests}
use Rattle.fuse_store.proofs.TablesAlone.{looked_well, looked_wrong}
use Rattle.fuse_store.proofs.table_keeper.TableKeeper.room.Goals as goal

pub returns-in-Ok-clause-looked : goal.returns-in-Ok-clause-looked
returns-in-Ok-clause-looked g c =
    looked_well g.P.Profiled.PROFILE c.one_holding.ensures c.lots_are_read.ensures.same c.args.self.now.look.known (state g.S.Store c.args.self.now.look.conn) (state g.S.Store c.room_at_rest.new.conn) (state_in g.D.Disk c.args.self.now.look.contents.file)
    (g.met.S.Store.settled c.args.self.now.look.conn.store) (g.met.S.Store.stays c.args.self.now.look.conn.store) c.in-Ok.room (c.in-Ok.ensures.serves (state_in g.D.Disk c.args.self.now.look.contents.file).seen) c.in-Ok.ensures.reads
    c.in-Ok.ensures.open c.args.self.now.lot.number c.args.self.now.failed

pub returns-in-Err-clause-looked : goal.returns-in-Err-clause-looked
returns-in-Err-clause-looked g c =
    looked_wrong g.P.Profiled.PROFILE c.one_holding.ensures c.lots_are_read.ensures.same c.args.self.now.look.known (state g.S.Store c.args.self.now.look.conn) (state g.S.Store c.room_at_rest.new.conn) (state_in g.D.Disk c.args.self.now.look.contents.file)
    (g.met.S.Store.settled c.args.self.now.look.conn.store) (g.met.S.Store.stays c.args.self.now.look.conn.store) c.in-Err.fault (c.in-Err.ensures.serves (state_in g.D.Disk c.args.self.now.look.contents.file).seen) c.in-Err.ensures.reads
    c.in-Err.ensures.open (c.in-Err.ensures.fault (state_in g.D.Disk c.args.self.now.look.contents.file).seen) c.args.self.now.lot.number c.args.self.now.failed

pub returns-in-Ok-clause-ok : goal.returns-in-Ok-clause-ok
unfolding rowed
returns-in-Ok-clause-ok g c = λ clean rows records at rowed.
    c.in-Ok.ensures.value (state_in g.D.Disk c.args.self.now.look.contents.file).seen clean.0 at.holding (held_rests c.args.self.now.look.known at.holding (store_in g.S.Store g.D.Disk c.args.self.now.look.conn c.args.self.now.look.contents.file) at.rests) ∙ sym (ap (λ (r : Rows). r.counters.room) at.is_of.rows_are)

pub returns-in-Err-clause-fault : goal.returns-in-Err-clause-fault
returns-in-Err-clause-fault g c = c.in-Err.ensures.fault (state_in g.D.Disk c.args.self.now.look.contents.file).seen

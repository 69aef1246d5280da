use Rattle.std.proofs.Common.{sym, ap, length, ◌∙◌}
use Rattle.sqlite.specs.Held.{state}
use Rattle.fuse_data.specs.State.{state_in}
use Rattle.fuse_store_tree.specs.StoreState.{store_in}
use Rattle.fuse_store.proofs.Peeking.{held_rests}
use Rattle.fuse_store.proofs.TablesAlone.{looked_well, looked_wrong}
use Rattle.fuse_store.proofs.Numbering.{counts_records}
use Rattle.fuse_store.proofs.keeping.TableKeeperKeeper.counts.Goals as goal

pub returns-in-Ok-clause-looked : goal.returns-in-Ok-clause-looked
returns-in-Ok-clause-looked g c =
    looked_well g.P.Profiled.PROFILE c.one_holding.ensures c.lots_are_read.ensures.same c.args.self.now.look.known (state g.S.Store c.args.self.now.look.conn) (state g.S.Store c.counts_at_rest.new.conn) (state_in g.D.Disk c.args.self.now.look.contents.file)
    (g.met.S.Store.settled c.args.self.now.look.conn.store) (g.met.S.Store.stays c.args.self.now.look.conn.store) c.in-Ok.counts (c.in-Ok.ensures.serves (state_in g.D.Disk c.args.self.now.look.contents.file).seen) c.in-Ok.ensures.reads
    c.in-Ok.ensures.open c.args.self.now.lot.number c.args.self.now.failed

pub returns-in-Err-clause-looked : goal.returns-in-Err-clause-looked
returns-in-Err-clause-looked g c =
    looked_wrong g.P.Profiled.PROFILE c.one_holding.ensures c.lots_are_read.ensures.same c.args.self.now.look.known (state g.S.Store c.args.self.now.look.conn) (state g.S.Store c.counts_at_rest.new.conn) (state_in g.D.Disk c.args.self.now.look.contents.file)
    (g.met.S.Store.settled c.args.self.now.look.conn.store) (g.met.S.Store.stays c.args.self.now.look.conn.store) c.in-Err.fault (c.in-Err.ensures.serves (state_in g.D.Disk c.args.self.now.look.contents.file).seen) c.in-Err.ensures.reads
    c.in-Err.ensures.open (c.in-Err.ensures.fault (state_in g.D.Disk c.args.self.now.look.contents.file).seen) c.args.self.now.lot.number c.args.self.now.failed

pub returns-in-Ok-clause-nodes : goal.returns-in-Ok-clause-nodes
returns-in-Ok-clause-nodes g c = λ clean rows records at rowed.
    c.in-Ok.ensures.nodes (state_in g.D.Disk c.args.self.now.look.contents.file).seen clean.0 at.holding (held_rests c.args.self.now.look.known at.holding (store_in g.S.Store g.D.Disk c.args.self.now.look.conn c.args.self.now.look.contents.file) at.rests) ∙ sym (ap (λ r. r.counters.nodes) at.is_of.rows_are)

pub returns-in-Ok-clause-handles : goal.returns-in-Ok-clause-handles
returns-in-Ok-clause-handles g c = λ clean rows records at rowed.
    c.in-Ok.ensures.handles (state_in g.D.Disk c.args.self.now.look.contents.file).seen clean.0 at.holding (held_rests c.args.self.now.look.known at.holding (store_in g.S.Store g.D.Disk c.args.self.now.look.conn c.args.self.now.look.contents.file) at.rests) ∙ sym (ap (λ r. r.counters.handles) at.is_of.rows_are)

pub returns-in-Ok-clause-records : goal.returns-in-Ok-clause-records
returns-in-Ok-clause-records g c = λ clean rows records at rowed.
    counts_records (state_in g.D.Disk c.args.self.now.look.contents.file).seen at.holding rows records (state g.S.Store c.args.self.now.look.conn).now at.rests.rests.holds.0 at.is_of _
    (c.in-Ok.ensures.records (state_in g.D.Disk c.args.self.now.look.contents.file).seen clean.0 at.holding (held_rests c.args.self.now.look.known at.holding (store_in g.S.Store g.D.Disk c.args.self.now.look.conn c.args.self.now.look.contents.file) at.rests))

pub returns-in-Ok-clause-lots : goal.returns-in-Ok-clause-lots
returns-in-Ok-clause-lots g c = λ clean rows records at rowed.
    c.in-Ok.ensures.lots (state_in g.D.Disk c.args.self.now.look.contents.file).seen clean.0 at.holding (held_rests c.args.self.now.look.known at.holding (store_in g.S.Store g.D.Disk c.args.self.now.look.conn c.args.self.now.look.contents.file) at.rests)
    ∙ sym (ap length (c.lots_are_read.ensures.same c.args.self.now.lot.number (state_in g.D.Disk c.args.self.now.look.contents.file).seen at.holding (state g.S.Store c.args.self.now.look.conn).now at.rests.rests.holds.0).numbers)

pub returns-in-Err-clause-fault : goal.returns-in-Err-clause-fault
returns-in-Err-clause-fault g c = c.in-Err.ensures.fault (state_in g.D.Disk c.args.self.now.look.contents.file).seen

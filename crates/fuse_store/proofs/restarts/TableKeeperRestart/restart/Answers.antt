use Rattle.std.proofs.Common.{Some}
use Rattle.fuse_store.specs.TableKeeper.{parts_state}
use Rattle.fuse_store_tree.specs.StoreState.{store_in}
use Rattle.fuse_store.proofs.Restarting.{reopened, reparted, refused_from, may_stay, was_parted}
use Rattle.fuse_store.proofs.restarts.TableKeeperRestart.restart.Goals as goal

pub returns-in-Ok-clause-reopened : goal.returns-in-Ok-clause-reopened
returns-in-Ok-clause-reopened g c =
    let k = c.args.self in
    let b = store_in g.S.Store g.D.Disk c.in-Ok.keeper.look.conn c.in-Ok.keeper.look.contents.file in
    reopened g.P.Profiled.PROFILE c.one_holding.ensures c.lots_are_read.ensures.same k.look.known c.in-Ok.keeper.look.known
    (store_in g.S.Store g.D.Disk k.look.conn k.look.contents.file) b (g.met.S.Store.settled c.in-Ok.keeper.look.conn.store) (g.met.S.Store.stays k.look.conn.store)
    (may_stay g.D.Disk g.met.D.Disk.seen_may_stay k.look.contents.file) k.lot.number c.in-Ok.keeper.lot.number k.failed c.in-Ok.keeper.failed
    (reparted g.S.Store g.D.Disk g.P.Profiled.PROFILE c.in-Ok.keeper.look.known k.look.conn b c.in-Ok.keeper.lot.number k.look.contents.file c.into_parts.result.conn
    c.into_parts.result.disk c.into_parts.ensures.conn c.into_parts.ensures.disk (record {
      holds = c.in-Ok.ensures.holds;
      was = c.in-Ok.ensures.was;
      honest = c.in-Ok.ensures.honest;
      lots = c.in-Ok.ensures.lots;
    })) c.in-Ok.ensures.going

pub returns-in-Err-clause-refused : goal.returns-in-Err-clause-refused
returns-in-Err-clause-refused g c =
    let k = c.args.self in
    refused_from g.S.Store g.D.Disk k.look.conn (parts_state g.S.Store g.D.Disk c.in-Err.left.1) c.in-Err.left.0 (Some g.P.Profiled.PROFILE) k.look.contents.file
    c.into_parts.result.conn c.into_parts.result.disk c.into_parts.ensures.conn c.into_parts.ensures.disk c.in-Err.ensures.refused

pub returns-in-Ok-clause-held : goal.returns-in-Ok-clause-held
returns-in-Ok-clause-held g c = λ clean z was.
    let k = c.args.self in
    c.in-Ok.ensures.held clean z (was_parted g.S.Store g.D.Disk g.P.Profiled.PROFILE c.in-Ok.keeper.look.known k.look.conn
    (store_in g.S.Store g.D.Disk c.in-Ok.keeper.look.conn c.in-Ok.keeper.look.contents.file) c.in-Ok.keeper.lot.number k.look.contents.file c.into_parts.result.conn
    c.into_parts.result.disk c.into_parts.ensures.conn c.into_parts.ensures.disk z was)

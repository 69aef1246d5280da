use Rattle.std.proofs.Common.{true, None, Ok, Err, inl, inr, refl}
use Rattle.sqlite.specs.Held.{state}
use Rattle.fuse_data.specs.State.{state_in}
use Rattle.fuse_store_tree.specs.StoreState.{store_in}
use Rattle.fuse_store.specs.Mounting.{cleared_for}
use Rattle.fuse_store.proofs.Serving.{firm}
use Rattle.fuse_store.proofs.Beginning.{clears_all, begins_mount, drops_lots, leaves_mount}
use Rattle.fuse_store.proofs.Peeking.{held_rests, went_well, went_wrong, may_where, begun_may, failed_may}
use Rattle.fuse_store.proofs.TablesAlone.{stays_usable, turns_serve}
use Rattle.fuse_store.proofs.keeping.TableKeeperKeeper.begin_mount.Goals as goal

pub returns-in-Ok-clause-held : goal.returns-in-Ok-clause-held
returns-in-Ok-clause-held g c =
    let m = c.args.self.now.look.known in
    let d = state_in g.D.Disk c.args.self.now.look.contents.file in
    let a = state g.S.Store c.args.self.now.look.conn in
    let b = state g.S.Store c.begin_mount.new.conn in
    turns_serve m cleared_for a b d (g.met.S.Store.settled c.args.self.now.look.conn.store) (Ok tt) (c.in-Ok.ensures.serves d.seen)
    (λ y at now clean. c.in-Ok.ensures.lists clean d.seen y d.gaps (held_rests m y (store_in g.S.Store g.D.Disk c.args.self.now.look.conn c.args.self.now.look.contents.file) at) at.in_use) tt

pub returns-in-Err-clause-held : goal.returns-in-Err-clause-held
returns-in-Err-clause-held g c =
    let m = c.args.self.now.look.known in
    let d = state_in g.D.Disk c.args.self.now.look.contents.file in
    let a = state g.S.Store c.args.self.now.look.conn in
    let b = state g.S.Store c.begin_mount.new.conn in
    turns_serve m cleared_for a b d (g.met.S.Store.settled c.args.self.now.look.conn.store) (Err c.in-Err.fault) (c.in-Err.ensures.serves d.seen)
    (λ y at now clean. tt) c.in-Err.ensures.undone

pub returns-in-Ok-clause-called : goal.returns-in-Ok-clause-called
returns-in-Ok-clause-called g c =
    let d = state_in g.D.Disk c.args.self.now.look.contents.file in
    let a = store_in g.S.Store g.D.Disk c.args.self.now.look.conn c.args.self.now.look.contents.file in
    let b = store_in g.S.Store g.D.Disk c.begin_mount.new.conn c.args.self.now.look.contents.file in
    went_well g.P.Profiled.PROFILE c.args.self.now.look.known None cleared_for a b tt tt (returns-in-Ok-clause-held g c)
    (stays_usable a.tables b.tables d (Ok tt) c.in-Ok.ensures.open) c.args.self.now.lot.number None c.args.self.now.failed

pub returns-in-Ok-clause-may : goal.returns-in-Ok-clause-may
returns-in-Ok-clause-may g c = λ unlotted.
    let d = state_in g.D.Disk c.args.self.now.look.contents.file in
    let a = store_in g.S.Store g.D.Disk c.args.self.now.look.conn c.args.self.now.look.contents.file in
    let b = store_in g.S.Store g.D.Disk c.begin_mount.new.conn c.args.self.now.look.contents.file in
    elim unlotted [
      | inl failed ↦ absurd (let e = failed in cc)
      | inr none ↦ begun_may g.P.Profiled.PROFILE c.args.self.now.look.known None cleared_for a b tt (λ y. refl) (returns-in-Ok-clause-held g c)
          (stays_usable a.tables b.tables d (Ok tt) c.in-Ok.ensures.open) c.args.self.now.lot.number None c.args.self.now.failed c.args.self.now.failed none
    ]

pub returns-in-Ok-clause-ok : goal.returns-in-Ok-clause-ok
returns-in-Ok-clause-ok g c =
    let a = store_in g.S.Store g.D.Disk c.args.self.now.look.conn c.args.self.now.look.contents.file in
    let b = store_in g.S.Store g.D.Disk c.begin_mount.new.conn c.args.self.now.look.contents.file in
    begins_mount g.P.Profiled.PROFILE c.rows_tell_state.ensures c.tree_is_sound.ensures.clears cleared_for clears_all c.one_holding.ensures c.args.self.now.look.known a b
    tt (returns-in-Ok-clause-held g c) c.args.self.now.lot.number None c.args.self.now.failed c.args.self.now.failed

pub returns-in-Ok-clause-lots : goal.returns-in-Ok-clause-lots
returns-in-Ok-clause-lots g c =
    let a = store_in g.S.Store g.D.Disk c.args.self.now.look.conn c.args.self.now.look.contents.file in
    let b = store_in g.S.Store g.D.Disk c.begin_mount.new.conn c.args.self.now.look.contents.file in
    drops_lots g.P.Profiled.PROFILE c.rows_tell_state.ensures c.tree_is_sound.ensures.clears cleared_for clears_all c.one_holding.ensures c.args.self.now.look.known a b
    tt (returns-in-Ok-clause-held g c) c.lots_are_read.ensures.same c.args.self.now.lot.number c.args.self.now.failed c.args.self.now.failed

pub returns-in-Ok-clause-crash : goal.returns-in-Ok-clause-crash
returns-in-Ok-clause-crash g c =
    let a = store_in g.S.Store g.D.Disk c.args.self.now.look.conn c.args.self.now.look.contents.file in
    let b = store_in g.S.Store g.D.Disk c.begin_mount.new.conn c.args.self.now.look.contents.file in
    leaves_mount g.P.Profiled.PROFILE c.rows_tell_state.ensures c.tree_is_sound.ensures.clears cleared_for clears_all c.one_holding.ensures c.args.self.now.look.known a b
    (Ok tt) (returns-in-Ok-clause-held g c) c.args.self.now.lot.number None c.args.self.now.failed c.args.self.now.failed

pub returns-in-Ok-clause-firm : goal.returns-in-Ok-clause-firm
returns-in-Ok-clause-firm g c = λ clean.
    firm g.P.Profiled.PROFILE c.one_holding.ensures None (store_in g.S.Store g.D.Disk c.begin_mount.new.conn c.args.self.now.look.contents.file) None c.args.self.now.failed
    (g.met.S.Store.settled c.begin_mount.new.conn.store)

pub returns-in-Ok-clause-fault : goal.returns-in-Ok-clause-fault
returns-in-Ok-clause-fault g c = c.in-Ok.ensures.fault (state_in g.D.Disk c.args.self.now.look.contents.file).seen

pub returns-in-Err-clause-fault : goal.returns-in-Err-clause-fault
returns-in-Err-clause-fault g c = c.in-Err.ensures.fault (state_in g.D.Disk c.args.self.now.look.contents.file).seen

pub returns-in-Err-clause-called : goal.returns-in-Err-clause-called
returns-in-Err-clause-called g c =
    let d = state_in g.D.Disk c.args.self.now.look.contents.file in
    let a = store_in g.S.Store g.D.Disk c.args.self.now.look.conn c.args.self.now.look.contents.file in
    let b = store_in g.S.Store g.D.Disk c.begin_mount.new.conn c.args.self.now.look.contents.file in
    went_wrong g.P.Profiled.PROFILE c.one_holding.ensures c.lots_are_read.ensures.same c.args.self.now.look.known None cleared_for a b c.in-Err.fault (λ y k. tt)
    (returns-in-Err-clause-held g c) c.args.self.now.lot.number
    (may_where c.args.self.now.look.known c.args.self.now.lot.number a b c.in-Err.fault (c.in-Err.ensures.fault d.seen)) c.args.self.now.failed

pub returns-in-Err-clause-may : goal.returns-in-Err-clause-may
returns-in-Err-clause-may g c = λ unlotted.
    let d = state_in g.D.Disk c.args.self.now.look.contents.file in
    let a = store_in g.S.Store g.D.Disk c.args.self.now.look.conn c.args.self.now.look.contents.file in
    let b = store_in g.S.Store g.D.Disk c.begin_mount.new.conn c.args.self.now.look.contents.file in
    failed_may g.P.Profiled.PROFILE c.args.self.now.look.known None cleared_for a b c.in-Err.fault (λ y k. tt) (returns-in-Err-clause-held g c)
    (stays_usable a.tables b.tables d (Err c.in-Err.fault) c.in-Err.ensures.open) c.args.self.now.lot.number c.args.self.now.failed true

pub returns-in-Err-clause-crash : goal.returns-in-Err-clause-crash
returns-in-Err-clause-crash g c =
    let a = store_in g.S.Store g.D.Disk c.args.self.now.look.conn c.args.self.now.look.contents.file in
    let b = store_in g.S.Store g.D.Disk c.begin_mount.new.conn c.args.self.now.look.contents.file in
    leaves_mount g.P.Profiled.PROFILE c.rows_tell_state.ensures c.tree_is_sound.ensures.clears cleared_for clears_all c.one_holding.ensures c.args.self.now.look.known a b
    (Err c.in-Err.fault) (returns-in-Err-clause-held g c) c.args.self.now.lot.number c.args.self.now.lot.number c.args.self.now.failed true

pub returns-in-Err-clause-undone : goal.returns-in-Err-clause-undone
returns-in-Err-clause-undone g c = c.in-Err.ensures.undone

-- ---- whatever the rows are

pub returns-in-Ok-clause-rows : goal.returns-in-Ok-clause-rows
returns-in-Ok-clause-rows g c = c.in-Ok.ensures.rows

pub returns-in-Err-clause-rows : goal.returns-in-Err-clause-rows
returns-in-Err-clause-rows g c = c.in-Err.ensures.rows

pub returns-in-Ok-clause-once : goal.returns-in-Ok-clause-once
returns-in-Ok-clause-once g c = c.in-Ok.ensures.once

pub returns-in-Err-clause-once : goal.returns-in-Err-clause-once
returns-in-Err-clause-once g c = c.in-Err.ensures.once

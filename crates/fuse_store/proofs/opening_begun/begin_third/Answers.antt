use Rattle.std.proofs.Common.{◌≡◌, None, Some, Ok, ℕ, sym, subst, ap, ◌∙◌}
use Rattle.sqlite.specs.Held.{Held, state}
use Rattle.sqlite.specs.State.{HasCleanDisk}
use Rattle.fuse_data.specs.State.{state_in}
use Rattle.fuse_init.specs.declared.profile.Profile.{Profile}
use Rattle.fuse_init.specs.declared.profile.Profile.TheVariants.{Everyday}
use Rattle.fuse_store_tables.specs.Moves.{LeavesAlone}
use Rattle.fuse_store_tables.specs.inner.Following.{earlier}
use Rattle.fuse_store_tree.specs.declared.meta.Meta.{Meta}
use Rattle.fuse_store_tree.specs.StoreState.{store_in}
use Rattle.fuse_store.specs.Opening.{opened_for}
use Rattle.fuse_store.specs.Starting.{begun_for}
use Rattle.fuse_store.specs.TableKeeper.{disk_in, parts_state}
use Rattle.fuse_store.specs.inner.Opened.{Finds, Opens}
use Rattle.fuse_store.specs.declared.parts.StoreParts.{StoreParts}
use Rattle.fuse_store.proofs.StoresFound.{not_to_migrate}
use Rattle.fuse_store.proofs.ThirdMounts.{handed_leaves, handed_seen, mount_failed, mount_opens, mount_rows, opening_failed, opening_left}
use Rattle.fuse_store.proofs.opening_begun.begin_third.Goals as goal

pub returns-in-Ok-begin_mount-clause-opens : goal.returns-in-Ok-begin_mount-clause-opens
returns-in-Ok-begin_mount-clause-opens g c =
    let a = state g.S.Store c.args.parts.conn in
    let b = state g.S.Store c.in-Ok.opened.look.conn in
    let d = state g.S.Store c.begin_mount.new.conn in
    let old = disk_in g.D.Disk c.args.parts.disk in
    let new = state_in g.D.Disk c.in-Ok.opened.look.contents.file in
    let p = c.in-Ok.opened.profile in
    let it = c.in-Ok-begin_mount.ensures in
    let first = subst (λ m. Opens p opened_for m (parts_state g.S.Store g.D.Disk c.args.parts) (store_in g.S.Store g.D.Disk c.in-Ok.opened.look.conn c.in-Ok.opened.look.contents.file))
    c.in-Ok.ensures.known c.in-Ok.ensures.opens in
    subst (λ m. Opens p begun_for m (parts_state g.S.Store g.D.Disk c.args.parts) (store_in g.S.Store g.D.Disk c.begin_mount.new.conn c.in-Ok.opened.look.contents.file))
    (sym c.in-Ok.ensures.known)
    (mount_opens p a b d old new first (earlier b d _ it.once.survives) (it.serves new.seen).done
    (λ clean y at lists. it.lists clean new.seen y new.gaps at lists))

pub returns-in-Ok-begin_mount-clause-rows : goal.returns-in-Ok-begin_mount-clause-rows
returns-in-Ok-begin_mount-clause-rows g c = λ number.
    let it = c.in-Ok-begin_mount.ensures in
    mount_rows number (state g.S.Store c.args.parts.conn) (state g.S.Store c.in-Ok.opened.look.conn) (state g.S.Store c.begin_mount.new.conn) _
    (c.in-Ok.ensures.rows number) c.requires.nine it.fit it.ended it.once

pub returns-in-Err-clause-refused : goal.returns-in-Err-clause-refused
returns-in-Err-clause-refused g c =
    let a = state g.S.Store c.args.parts.conn in
    let old = disk_in g.D.Disk c.args.parts.disk in
    let rests = c.law_of_rest.ensures.rests in
    let left = c.in-Err.left in
    opening_failed a old c.requires.nine rests (parts_state g.S.Store g.D.Disk left.1) left.0 c.in-Err.ensures.refused
    (opening_left a old c.requires.nine rests (parts_state g.S.Store g.D.Disk left.1) left.0 c.in-Err.ensures.refused
    (λ busy db may. subst (λ (parts : StoreParts _ _). (state g.S.Store parts.conn).may_leave db) (c.in-Err.ensures.busy busy) may))

pub returns-in-Err-begin_mount-clause-refused : goal.returns-in-Err-begin_mount-clause-refused
returns-in-Err-begin_mount-clause-refused g c =
    let a = state g.S.Store c.args.parts.conn in
    let b = state g.S.Store c.in-Ok.opened.look.conn in
    let d = state g.S.Store c.begin_mount.new.conn in
    let old = disk_in g.D.Disk c.args.parts.disk in
    let new = state_in g.D.Disk c.in-Ok.opened.look.contents.file in
    let left = disk_in g.D.Disk c.disk_of.result in
    let it = c.in-Err-begin_mount.ensures in
    let found = subst (λ (p : Profile). Finds p (parts_state g.S.Store g.D.Disk c.args.parts) (store_in g.S.Store g.D.Disk c.in-Ok.opened.look.conn c.in-Ok.opened.look.contents.file))
    c.in-Ok.ensures.wanted c.in-Ok.ensures.found in
    mount_failed a old c.requires.nine c.law_of_rest.ensures.rests b d new found ((c.in-Ok.ensures.rows None).alone (not_to_migrate a.now c.requires.nine))
    c.in-Err-begin_mount.fault left (handed_seen g.D.Disk c.in-Ok.opened.look.contents.file c.disk_of.result c.disk_of.ensures)
    (handed_leaves g.D.Disk c.in-Ok.opened.look.contents.file c.disk_of.result c.disk_of.ensures) (λ file. (it.serves file).survives) it.refused it.ended it.undone
    it.once it.plain (λ file clean. it.fault file clean) it.open.was

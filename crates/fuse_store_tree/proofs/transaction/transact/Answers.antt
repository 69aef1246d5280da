use Rattle.std.proofs.Common.{◌≡◌, ◌∙◌}
use Rattle.sqlite.specs.Held.{state}
use Rattle.fuse_data.specs.State.{state_in}
use Rattle.fuse_keeper.specs.Group.{ids_of, entries_of}
use Rattle.fuse_store_tables.specs.inner.Following.{earlier}
use Rattle.fuse_store_tables.specs.inner.Transaction.{failed_first, failed_inside, failed_commit, committed}
use Rattle.fuse_store_tables.specs.inner.Transaction.{open_first, open_inside, open_failed, open_committed}
use Rattle.fuse_tree.specs.TheTree.{tree_of}
use Rattle.fuse_store_tree.specs.Group.{transacted, all_dones, lot_for}
use Rattle.fuse_store_tree.specs.Knowing.{HeldForKnown}
use Rattle.fuse_store_tree.specs.Viewing.{view_in}
use Rattle.fuse_store_tree.proofs.MoveFiles.{adds_still}
use Rattle.fuse_store_tree.proofs.Resting.{shown_same, synced_if, takes_synced, takes_failed, writes_adds, writes_synced}
use Rattle.fuse_store_tree.proofs.Whole.{begun_for, told_after, unrefusing, nothing_for, keeps_commit, begins_nothing, once_none, once_failed, once_committed}
use Rattle.fuse_store_tree.proofs.transaction.transact.Goals as goal

-- ---- what is made

pub returns-in-Err-clause-performs : goal.returns-in-Err-clause-performs
returns-in-Err-clause-performs g c = λ read.
    failed_first _ _ (state g.S.Store c.args.look.now.conn) (state g.S.Store c.begin.new.conn) c.in-Err.error c.from.result c.in-Err.ensures

pub returns-in-Err-move_and_perform-clause-performs : goal.returns-in-Err-move_and_perform-clause-performs
returns-in-Err-move_and_perform-clause-performs g c = λ read.
    let P = HeldForKnown (view_in g.D.Disk c.args.look.now.contents).bytes c.args.look.now.known in
    let b = state g.S.Store c.begin.new.conn in
    let d = state g.S.Store c.move_and_perform.new.look.conn in
    let fault = c.in-Err-move_and_perform.fault in
    failed_inside _ _ P (state g.S.Store c.args.look.now.conn) b d _ fault fault c.in-Ok.ensures
    (takes_failed {X = Unit {0}} P P b d fault c.in-Err-move_and_perform.ensures.fails)

pub returns-in-Err-sync_if-clause-performs : goal.returns-in-Err-sync_if-clause-performs
returns-in-Err-sync_if-clause-performs g c = λ read.
    let P = HeldForKnown (view_in g.D.Disk c.args.look.now.contents).bytes c.args.look.now.known in
    let b = state g.S.Store c.begin.new.conn in
    let d = state g.S.Store c.move_and_perform.new.look.conn in
    let fault = c.in-Err-sync_if.fault in
    failed_inside _ _ P (state g.S.Store c.args.look.now.conn) b d _ fault fault c.in-Ok.ensures
    (takes_failed {X = Unit {0}} P P b d fault c.in-Ok-move_and_perform.ensures.turned.stays)

pub returns-in-Err-commit-clause-performs : goal.returns-in-Err-commit-clause-performs
returns-in-Err-commit-clause-performs g c = λ read.
    let all = transacted (tree_of c.args.profile).service c.args.lot (ids_of c.args.settled.now) (entries_of c.args.group.now) in
    let b = state g.S.Store c.begin.new.conn in
    let d = state g.S.Store c.move_and_perform.new.look.conn in
    let s = state_in g.D.Disk c.move_and_perform.new.look.contents.file in
    let t = state_in g.D.Disk c.sync_if.new.self.file in
    let more = c.in-Ok-sync_if.ensures.contents in
    failed_commit _ _ (state g.S.Store c.args.look.now.conn) b d (state g.S.Store c.commit.new.conn) _
    c.in-Ok-move_and_perform.transacted c.in-Err-commit.error c.from-in-Err-commit.result c.in-Ok.ensures
    (takes_synced (view_in g.D.Disk c.args.look.now.contents) (view_in g.D.Disk c.move_and_perform.new.look.contents) c.args.look.now.known c.move_and_perform.new.look.known all b d
    c.in-Ok-move_and_perform.transacted c.args.wrote (state_in g.D.Disk c.args.look.now.contents.file) t (view_in g.D.Disk c.sync_if.new.self).bytes (more.clean read)
    (shown_same s t c.move_and_perform.new.look.contents.written.items c.sync_if.new.self.written.items more.gaps more.seen c.in-Ok-sync_if.ensures.written)
    (synced_if c.args.wrote c.move_and_perform.new.look.contents.moved (state_in g.D.Disk c.args.look.now.contents.file) s t _
    c.in-Ok-move_and_perform.ensures.idle more (λ is. c.in-Ok-sync_if.ensures.synced (c.either.ensures ∙ is))) c.in-Ok-move_and_perform.ensures.turned) c.in-Err-commit.ensures

pub returns-in-Ok-commit-clause-performs : goal.returns-in-Ok-commit-clause-performs
returns-in-Ok-commit-clause-performs g c = λ read.
    let all = transacted (tree_of c.args.profile).service c.args.lot (ids_of c.args.settled.now) (entries_of c.args.group.now) in
    let b = state g.S.Store c.begin.new.conn in
    let d = state g.S.Store c.move_and_perform.new.look.conn in
    let s = state_in g.D.Disk c.move_and_perform.new.look.contents.file in
    let t = state_in g.D.Disk c.sync_if.new.self.file in
    let more = c.in-Ok-sync_if.ensures.contents in
    committed _ _ (state g.S.Store c.args.look.now.conn) b d (state g.S.Store c.commit.new.conn) _
    c.in-Ok-move_and_perform.transacted _ c.in-Ok-move_and_perform.transacted c.in-Ok.ensures
    (takes_synced (view_in g.D.Disk c.args.look.now.contents) (view_in g.D.Disk c.move_and_perform.new.look.contents) c.args.look.now.known c.move_and_perform.new.look.known all b d
    c.in-Ok-move_and_perform.transacted c.args.wrote (state_in g.D.Disk c.args.look.now.contents.file) t (view_in g.D.Disk c.sync_if.new.self).bytes (more.clean read)
    (shown_same s t c.move_and_perform.new.look.contents.written.items c.sync_if.new.self.written.items more.gaps more.seen c.in-Ok-sync_if.ensures.written)
    (synced_if c.args.wrote c.move_and_perform.new.look.contents.moved (state_in g.D.Disk c.args.look.now.contents.file) s t _
    c.in-Ok-move_and_perform.ensures.idle more (λ is. c.in-Ok-sync_if.ensures.synced (c.either.ensures ∙ is))) c.in-Ok-move_and_perform.ensures.turned) c.in-Ok-commit.ensures

-- ---- the data file

pub returns-in-Err-clause-contents : goal.returns-in-Err-clause-contents
returns-in-Err-clause-contents g c =
    let s = state_in g.D.Disk c.args.look.now.contents.file in
    let ws = c.args.look.now.contents.written.items in
    writes_adds s s ws ws _ (adds_still s ws)

pub returns-in-Err-move_and_perform-clause-contents : goal.returns-in-Err-move_and_perform-clause-contents
returns-in-Err-move_and_perform-clause-contents g c =
    writes_adds (state_in g.D.Disk c.args.look.now.contents.file) (state_in g.D.Disk c.move_and_perform.new.look.contents.file) c.args.look.now.contents.written.items
    c.move_and_perform.new.look.contents.written.items _ c.in-Err-move_and_perform.ensures.adds

pub returns-in-Err-sync_if-clause-contents : goal.returns-in-Err-sync_if-clause-contents
returns-in-Err-sync_if-clause-contents g c =
    writes_synced (state_in g.D.Disk c.args.look.now.contents.file) (state_in g.D.Disk c.move_and_perform.new.look.contents.file)
    (state_in g.D.Disk c.sync_if.new.self.file) c.args.look.now.contents.written.items c.move_and_perform.new.look.contents.written.items
    c.sync_if.new.self.written.items _ _ c.in-Ok-move_and_perform.ensures.adds c.in-Err-sync_if.ensures.contents c.in-Err-sync_if.ensures.written tt

pub returns-in-Err-commit-clause-contents : goal.returns-in-Err-commit-clause-contents
returns-in-Err-commit-clause-contents g c =
    writes_synced (state_in g.D.Disk c.args.look.now.contents.file) (state_in g.D.Disk c.move_and_perform.new.look.contents.file)
    (state_in g.D.Disk c.sync_if.new.self.file) c.args.look.now.contents.written.items c.move_and_perform.new.look.contents.written.items
    c.sync_if.new.self.written.items _ _ c.in-Ok-move_and_perform.ensures.adds c.in-Ok-sync_if.ensures.contents c.in-Ok-sync_if.ensures.written tt

pub returns-in-Ok-commit-clause-contents : goal.returns-in-Ok-commit-clause-contents
returns-in-Ok-commit-clause-contents g c =
    writes_synced (state_in g.D.Disk c.args.look.now.contents.file) (state_in g.D.Disk c.move_and_perform.new.look.contents.file)
    (state_in g.D.Disk c.sync_if.new.self.file) c.args.look.now.contents.written.items c.move_and_perform.new.look.contents.written.items
    c.sync_if.new.self.written.items _ _ c.in-Ok-move_and_perform.ensures.adds c.in-Ok-sync_if.ensures.contents c.in-Ok-sync_if.ensures.written
    c.in-Ok-sync_if.ensures.contents.still

-- ---- what is said

pub returns-in-Ok-commit-clause-lot : goal.returns-in-Ok-commit-clause-lot
returns-in-Ok-commit-clause-lot g c = λ read.
    let v = view_in g.D.Disk c.args.look.now.contents in
    let b = state g.S.Store c.begin.new.conn in
    told_after v c.args.look.now.known (λ y. c.in-Ok-move_and_perform.transacted.lot ≡ lot_for c.args.lot y) (state g.S.Store c.args.look.now.conn) b
    (state g.S.Store c.move_and_perform.new.look.conn) (state g.S.Store c.commit.new.conn) _ _ c.in-Ok.ensures
    c.in-Ok-move_and_perform.ensures.turned.stays (λ clean y at. c.in-Ok-move_and_perform.ensures.lot clean (c.in-Ok-sync_if.ensures.contents.clean read) y at) c.in-Ok-commit.ensures

pub returns-in-Ok-commit-clause-dones : goal.returns-in-Ok-commit-clause-dones
returns-in-Ok-commit-clause-dones g c = λ read.
    told_after (view_in g.D.Disk c.args.look.now.contents) c.args.look.now.known
    (λ y. c.in-Ok-move_and_perform.transacted.dones.items ≡ all_dones (tree_of c.args.profile).service c.args.lot (ids_of c.args.settled.now) (entries_of c.args.group.now) y)
    (state g.S.Store c.args.look.now.conn) (state g.S.Store c.begin.new.conn) (state g.S.Store c.move_and_perform.new.look.conn)
    (state g.S.Store c.commit.new.conn) _ _ c.in-Ok.ensures c.in-Ok-move_and_perform.ensures.turned.stays
    (λ clean. c.in-Ok-move_and_perform.ensures.dones clean (c.in-Ok-sync_if.ensures.contents.clean read)) c.in-Ok-commit.ensures

pub returns-in-Err-move_and_perform-clause-fault : goal.returns-in-Err-move_and_perform-clause-fault
returns-in-Err-move_and_perform-clause-fault g c read clean y at left =
    let b = state g.S.Store c.begin.new.conn in
    let d = state g.S.Store c.move_and_perform.new.look.conn in
    let mid = earlier b d _ c.in-Err-move_and_perform.ensures.fails.survives clean in
    c.in-Err-move_and_perform.ensures.fault read clean y
    (begun_for (view_in g.D.Disk c.args.look.now.contents) c.args.look.now.known (state g.S.Store c.args.look.now.conn) b _ c.in-Ok.ensures mid y at) left

pub returns-in-Err-sync_if-clause-fault : goal.returns-in-Err-sync_if-clause-fault
returns-in-Err-sync_if-clause-fault g c read clean y at left = c.in-Err-sync_if.ensures.fault

-- ---- the connection

pub returns-in-Err-clause-open : goal.returns-in-Err-clause-open
returns-in-Err-clause-open g c =
    open_first (state g.S.Store c.args.look.now.conn) (state g.S.Store c.begin.new.conn) c.in-Err.error c.from.result c.in-Err.ensures

pub returns-in-Err-move_and_perform-clause-open : goal.returns-in-Err-move_and_perform-clause-open
returns-in-Err-move_and_perform-clause-open g c =
    open_inside (state g.S.Store c.args.look.now.conn) (state g.S.Store c.begin.new.conn) (state g.S.Store c.move_and_perform.new.look.conn) _
    c.in-Err-move_and_perform.fault c.in-Ok.ensures c.in-Err-move_and_perform.ensures.fails.survives

pub returns-in-Err-sync_if-clause-open : goal.returns-in-Err-sync_if-clause-open
returns-in-Err-sync_if-clause-open g c =
    open_inside (state g.S.Store c.args.look.now.conn) (state g.S.Store c.begin.new.conn) (state g.S.Store c.move_and_perform.new.look.conn) _
    c.in-Err-sync_if.fault c.in-Ok.ensures c.in-Ok-move_and_perform.ensures.turned.stays.survives

pub returns-in-Err-commit-clause-open : goal.returns-in-Err-commit-clause-open
returns-in-Err-commit-clause-open g c =
    open_failed (state g.S.Store c.args.look.now.conn) (state g.S.Store c.begin.new.conn) (state g.S.Store c.move_and_perform.new.look.conn)
    (state g.S.Store c.commit.new.conn) _ c.in-Err-commit.error c.from-in-Err-commit.result c.in-Ok.ensures
    c.in-Ok-move_and_perform.ensures.turned.stays.survives c.in-Err-commit.ensures

pub returns-in-Ok-commit-clause-open : goal.returns-in-Ok-commit-clause-open
returns-in-Ok-commit-clause-open g c =
    open_committed (state g.S.Store c.args.look.now.conn) (state g.S.Store c.begin.new.conn) (state g.S.Store c.move_and_perform.new.look.conn)
    (state g.S.Store c.commit.new.conn) _ _ c.in-Ok-move_and_perform.transacted c.in-Ok.ensures c.in-Ok-move_and_perform.ensures.turned.stays.survives
    c.in-Ok-commit.ensures

pub returns-in-Ok-commit-clause-ended : goal.returns-in-Ok-commit-clause-ended
returns-in-Ok-commit-clause-ended g c = λ clean. (c.in-Ok-commit.ensures.ended clean).1

-- ---- what is committed

pub returns-in-Err-clause-refused : goal.returns-in-Err-clause-refused
returns-in-Err-clause-refused g c = λ refused. absurd (unrefusing c.in-Err.error c.from.result c.from.ensures refused)

pub returns-in-Err-move_and_perform-clause-refused : goal.returns-in-Err-move_and_perform-clause-refused
returns-in-Err-move_and_perform-clause-refused g c = λ refused.
    nothing_for (state g.S.Store c.args.look.now.conn) (state g.S.Store c.begin.new.conn) (state g.S.Store c.move_and_perform.new.look.conn) _ c.in-Ok.ensures
    c.in-Err-move_and_perform.ensures.fails

pub returns-in-Err-sync_if-clause-refused : goal.returns-in-Err-sync_if-clause-refused
returns-in-Err-sync_if-clause-refused g c = λ refused.
    nothing_for (state g.S.Store c.args.look.now.conn) (state g.S.Store c.begin.new.conn) (state g.S.Store c.move_and_perform.new.look.conn) _ c.in-Ok.ensures
    c.in-Ok-move_and_perform.ensures.turned.stays

pub returns-in-Err-commit-clause-refused : goal.returns-in-Err-commit-clause-refused
returns-in-Err-commit-clause-refused g c = λ refused.
    absurd (unrefusing c.in-Err-commit.error c.from-in-Err-commit.result c.from-in-Err-commit.ensures refused)

pub returns-in-Err-clause-keeps : goal.returns-in-Err-clause-keeps
returns-in-Err-clause-keeps g c = c.in-Err.ensures.kept

pub returns-in-Err-move_and_perform-clause-keeps : goal.returns-in-Err-move_and_perform-clause-keeps
returns-in-Err-move_and_perform-clause-keeps g c =
    (nothing_for (state g.S.Store c.args.look.now.conn) (state g.S.Store c.begin.new.conn) (state g.S.Store c.move_and_perform.new.look.conn) _ c.in-Ok.ensures
    c.in-Err-move_and_perform.ensures.fails).kept

pub returns-in-Err-sync_if-clause-keeps : goal.returns-in-Err-sync_if-clause-keeps
returns-in-Err-sync_if-clause-keeps g c =
    (nothing_for (state g.S.Store c.args.look.now.conn) (state g.S.Store c.begin.new.conn) (state g.S.Store c.move_and_perform.new.look.conn) _ c.in-Ok.ensures
    c.in-Ok-move_and_perform.ensures.turned.stays).kept

pub returns-in-Err-commit-clause-keeps : goal.returns-in-Err-commit-clause-keeps
returns-in-Err-commit-clause-keeps g c =
    keeps_commit (state g.S.Store c.args.look.now.conn) (state g.S.Store c.begin.new.conn) (state g.S.Store c.move_and_perform.new.look.conn)
    (state g.S.Store c.commit.new.conn) _ c.in-Err-commit.error c.in-Ok.ensures c.in-Ok-move_and_perform.ensures.turned.stays c.in-Err-commit.ensures

pub returns-in-Err-clause-once : goal.returns-in-Err-clause-once
returns-in-Err-clause-once g c =
    once_none (state g.S.Store c.args.look.now.conn) (state g.S.Store c.begin.new.conn) c.from.result
    (begins_nothing (state g.S.Store c.args.look.now.conn) (state g.S.Store c.begin.new.conn) _ c.in-Err.ensures)

pub returns-in-Err-move_and_perform-clause-once : goal.returns-in-Err-move_and_perform-clause-once
returns-in-Err-move_and_perform-clause-once g c =
    once_none (state g.S.Store c.args.look.now.conn) (state g.S.Store c.move_and_perform.new.look.conn) c.in-Err-move_and_perform.fault
    (nothing_for (state g.S.Store c.args.look.now.conn) (state g.S.Store c.begin.new.conn) (state g.S.Store c.move_and_perform.new.look.conn) _ c.in-Ok.ensures
    c.in-Err-move_and_perform.ensures.fails)

pub returns-in-Err-sync_if-clause-once : goal.returns-in-Err-sync_if-clause-once
returns-in-Err-sync_if-clause-once g c =
    once_none (state g.S.Store c.args.look.now.conn) (state g.S.Store c.move_and_perform.new.look.conn) c.in-Err-sync_if.fault
    (nothing_for (state g.S.Store c.args.look.now.conn) (state g.S.Store c.begin.new.conn) (state g.S.Store c.move_and_perform.new.look.conn) _ c.in-Ok.ensures
    c.in-Ok-move_and_perform.ensures.turned.stays)

pub returns-in-Err-commit-clause-once : goal.returns-in-Err-commit-clause-once
returns-in-Err-commit-clause-once g c =
    once_failed (state g.S.Store c.args.look.now.conn) (state g.S.Store c.move_and_perform.new.look.conn) (state g.S.Store c.commit.new.conn)
    c.in-Err-commit.error c.from-in-Err-commit.result
    (nothing_for (state g.S.Store c.args.look.now.conn) (state g.S.Store c.begin.new.conn) (state g.S.Store c.move_and_perform.new.look.conn) _ c.in-Ok.ensures
    c.in-Ok-move_and_perform.ensures.turned.stays)
    c.in-Err-commit.ensures

pub returns-in-Ok-commit-clause-once : goal.returns-in-Ok-commit-clause-once
returns-in-Ok-commit-clause-once g c =
    once_committed (state g.S.Store c.args.look.now.conn) (state g.S.Store c.move_and_perform.new.look.conn) (state g.S.Store c.commit.new.conn)
    _ c.in-Ok-move_and_perform.transacted
    (nothing_for (state g.S.Store c.args.look.now.conn) (state g.S.Store c.begin.new.conn) (state g.S.Store c.move_and_perform.new.look.conn) _ c.in-Ok.ensures
    c.in-Ok-move_and_perform.ensures.turned.stays)
    c.in-Ok-commit.ensures

use Rattle.std.proofs.Common.{List, ℕ, Option, Some, None, ap, sym, subst, ◌∙◌}
use Rattle.sqlite.specs.Held.{state}
use Rattle.fuse_data.specs.Causes.{FailsToOpen}
use Rattle.fuse_data.specs.Header.{HasHeader}
use Rattle.fuse_data.specs.Space.{AllInUse}
use Rattle.fuse_data.specs.declared.extent.Extent.{Extent}
use Rattle.fuse_data.specs.declared.gaps.Gap.{Gap}
use Rattle.sqlite.specs.Effect.{Database}
use Rattle.fuse_store_tables.specs.Faults.{IsOutside}
use Rattle.fuse_store_tables.specs.inner.Following.{earlier}
use Rattle.fuse_store_tree.specs.Holding.{HeldFor}
use Rattle.fuse_store_tree.specs.Leaving.{ListsInUse}
use Rattle.fuse_store.specs.TableKeeper.{disk_in}
use Rattle.fuse_store.proofs.ContentsOpened.{header_told, no_header, number_told, opens_outside, third_told}
use Rattle.fuse_store.proofs.DoneOpenings.{rests_read}
use Rattle.fuse_store.proofs.Fitting.{second_for}
use Rattle.fuse_store.proofs.opening.open_contents.Goals as goal

pub returns-in_default-clause-outside : goal.returns-in_default-clause-outside
returns-in_default-clause-outside g c = λ clean is y some at.
    let file = (disk_in g.D.Disk c.args.disk).seen in
    let told = at.holds.held.2 in
    no_header told.number (subst (λ o. HasHeader told.number (disk_in g.D.Disk o).seen) c.in_default.is (header_told y file at.holds.held.0 told some))

pub returns-in-Err-clause-outside : goal.returns-in-Err-clause-outside
returns-in-Err-clause-outside g c = λ clean is y some at.
    let a = state g.S.Store c.args.conn.now in
    let file = (disk_in g.D.Disk c.args.disk).seen in
    let held = at.holds.held in
    c.in-Err.ensures.fault clean held.0
    (record { is_open = at.is_open; autocommit = at.autocommit; holds = held.1; committed = at.committed }) (third_told y file held.0 held.2 some)
    (second_for c.rows_in_order.ensures y file a.now at.holds).fit.meta

pub returns-in-Err-listed_extents-clause-outside : goal.returns-in-Err-listed_extents-clause-outside
returns-in-Err-listed_extents-clause-outside g c = λ clean is y some at.
    let a = state g.S.Store c.args.conn.now in
    let b = state g.S.Store c.number_at_rest.new.conn in
    let file = (disk_in g.D.Disk c.args.disk).seen in
    let mid = earlier b (state g.S.Store c.listed_extents.new.conn) _ c.in-Err-listed_extents.ensures.reads.commits.survives clean in
    c.in-Err-listed_extents.ensures.fault file clean y (rests_read (HeldFor file y) a b c.in-Ok.number c.in-Ok.ensures.reads c.in-Ok.ensures.open mid at)

pub returns-in-Err-open-clause-outside : goal.returns-in-Err-open-clause-outside
returns-in-Err-open-clause-outside g c = λ clean is y some at.
    let a = state g.S.Store c.args.conn.now in
    let b = state g.S.Store c.number_at_rest.new.conn in
    let file = (disk_in g.D.Disk c.args.disk).seen in
    let held = at.holds.held in
    let mid = earlier b (state g.S.Store c.listed_extents.new.conn) _ c.in-Ok-listed_extents.ensures.reads.commits.survives clean in
    let same = ap (λ o. (disk_in g.D.Disk o).seen) c.in-Some.is in
    let number = c.in-Ok.ensures.value mid held.0
    (record { is_open = at.is_open; autocommit = at.autocommit; holds = held.1; committed = at.committed }) ∙ number_told y file held.0 held.2 some in
    let usable = g.D.Disk.is_usable c.in-Some.disk in
    let left = g.D.Disk.is_clean c.in-Err-open.disk in
    let cause = subst (λ (l : List Extent). FailsToOpen usable left file c.in-Ok.number l c.in-Err-open.fault) c.as_slice.ensures.value
    (subst (λ (x : List ℕ). FailsToOpen usable left x c.in-Ok.number c.as_slice.result.now c.in-Err-open.fault) (sym same) c.in-Err-open.ensures.cause) in
    subst IsOutside (sym c.contents_fault.ensures)
    (opens_outside usable left file c.in-Ok.number c.in-Ok-listed_extents.listed.items c.in-Err-open.fault cause is
    (subst (λ n. HasHeader n file) (sym number) (header_told y file held.0 held.2 some))
    (c.in-Ok-listed_extents.ensures.apart clean file y (rests_read (HeldFor file y) a b c.in-Ok.number c.in-Ok.ensures.reads c.in-Ok.ensures.open mid at)))

pub returns-in-Ok-sync-clause-in_use : goal.returns-in-Ok-sync-clause-in_use
returns-in-Ok-sync-clause-in_use g c = λ clean is y at.
    let a = state g.S.Store c.args.conn.now in
    let b = state g.S.Store c.number_at_rest.new.conn in
    let file = g.D.Disk.seen c.sync.new.self.disk in
    let mid = earlier b (state g.S.Store c.listed_extents.new.conn) _ c.in-Ok-listed_extents.ensures.reads.commits.survives clean in
    let used = subst (λ (free : List Gap). AllInUse free c.in-Ok-listed_extents.listed.items) (sym c.in-Ok-sync.ensures.gaps)
    (subst (λ (l : List Extent). AllInUse c.in-Ok-open.file.space l) c.as_slice.ensures.value c.in-Ok-open.ensures.in_use) in
    subst (λ (d : Database). ListsInUse c.sync.new.self.space d) (c.in-Ok.ensures.reads.same mid)
    (c.in-Ok-listed_extents.ensures.in_use clean file y c.sync.new.self.space
    (rests_read (HeldFor file y) a b c.in-Ok.number c.in-Ok.ensures.reads c.in-Ok.ensures.open mid at) used)

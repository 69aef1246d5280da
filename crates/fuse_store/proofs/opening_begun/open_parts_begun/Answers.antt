use Rattle.std.proofs.Common.{◌≡◌, IsErrAnd, None, true, false, codes, sym, subst}
use Rattle.sqlite_schema.specs.Names.{table_named}
use Rattle.fuse_keeper.specs.declared.fault.StoreFault.TheVariants.{NotAStore}
use Rattle.std.proofs.lemmas.Result.{IfOk-weaker, IfErr-weaker}
use Rattle.sqlite.specs.Held.{Held, state}
use Rattle.fuse_store_tables.specs.Saying.{IsTabled}
use Rattle.fuse_store_tree.specs.StoreState.{store_in}
use Rattle.fuse_store.specs.Starting.{KeepsNamed, begun_for}
use Rattle.fuse_store.specs.TableKeeper.{disk_in, parts_state}
use Rattle.fuse_store.proofs.DoneOpenings.{opens_after, named_after}
use Rattle.fuse_store.proofs.FailedOpenings.{contents_same, fails_after, fails_by, read_failed, read_left, survives_by, untouched_same}
use Rattle.fuse_store.proofs.opening_begun.open_parts_begun.Goals as goal

-- ---- an everyday store of version 2

pub returns-in-Ok-true-clause-opens : goal.returns-in-Ok-true-clause-opens
returns-in-Ok-true-clause-opens g c =
    let it = c.in-Ok-true.ensures in
    IfOk-weaker c.begin_second.result _ _
    (λ o so. opens_after o.profile begun_for o.look.known (state g.S.Store c.args.parts.conn) (state g.S.Store c.is_to_count.new.conn)
    (disk_in g.D.Disk c.args.parts.disk) (store_in g.S.Store g.D.Disk o.look.conn o.look.contents.file) it.reads.commits.survives it.same it.open.was it.open.still so)
    c.begin_second.ensures.opens

pub returns-in-Ok-true-clause-refused : goal.returns-in-Ok-true-clause-refused
returns-in-Ok-true-clause-refused g c =
    let it = c.in-Ok-true.ensures in
    IfErr-weaker c.begin_second.result _ _
    (λ r so. fails_after begun_for IsTabled None (state g.S.Store c.args.parts.conn) (state g.S.Store c.is_to_count.new.conn)
    (disk_in g.D.Disk c.args.parts.disk) (parts_state g.S.Store g.D.Disk r.1) r.0 it.reads.commits.survives it.same it.open.was it.open.still so)
    c.begin_second.ensures.refused

pub returns-in-Ok-true-clause-rows : goal.returns-in-Ok-true-clause-rows
returns-in-Ok-true-clause-rows g c =
    let it = c.in-Ok-true.ensures in
    IfOk-weaker c.begin_second.result _ _
    (λ o so. named_after _ (state g.S.Store c.args.parts.conn) (state g.S.Store c.is_to_count.new.conn) (state g.S.Store o.look.conn) it.reads.commits.survives
    it.same it.open.was it.open.still
    (subst (λ n. KeepsNamed n (state g.S.Store c.is_to_count.new.conn) (state g.S.Store o.look.conn)) c.stored_number-number.ensures.is so)) c.begin_second.ensures.rows

-- ---- any other

pub returns-in-Ok-false-clause-opens : goal.returns-in-Ok-false-clause-opens
returns-in-Ok-false-clause-opens g c =
    let it = c.in-Ok-false.ensures in
    IfOk-weaker c.begin_current.result _ _
    (λ o so. opens_after o.profile begun_for o.look.known (state g.S.Store c.args.parts.conn) (state g.S.Store c.is_to_count.new.conn)
    (disk_in g.D.Disk c.args.parts.disk) (store_in g.S.Store g.D.Disk o.look.conn o.look.contents.file) it.reads.commits.survives it.same it.open.was it.open.still so)
    c.begin_current.ensures.opens

pub returns-in-Ok-false-clause-refused : goal.returns-in-Ok-false-clause-refused
returns-in-Ok-false-clause-refused g c =
    let it = c.in-Ok-false.ensures in
    IfErr-weaker c.begin_current.result _ _
    (λ r so. fails_after begun_for IsTabled None (state g.S.Store c.args.parts.conn) (state g.S.Store c.is_to_count.new.conn)
    (disk_in g.D.Disk c.args.parts.disk) (parts_state g.S.Store g.D.Disk r.1) r.0 it.reads.commits.survives it.same it.open.was it.open.still so)
    c.begin_current.ensures.refused

pub returns-in-Ok-false-clause-rows : goal.returns-in-Ok-false-clause-rows
returns-in-Ok-false-clause-rows g c =
    let it = c.in-Ok-false.ensures in
    IfOk-weaker c.begin_current.result _ _
    (λ o so. named_after _ (state g.S.Store c.args.parts.conn) (state g.S.Store c.is_to_count.new.conn) (state g.S.Store o.look.conn) it.reads.commits.survives
    it.same it.open.was it.open.still (so _)) c.begin_current.ensures.rows

pub returns-in-Ok-false-clause-busy : goal.returns-in-Ok-false-clause-busy
returns-in-Ok-false-clause-busy g c = λ busy.
    let same = (c.in-Ok-false.ensures.busy busy).1 in
    subst (λ (k : Held _). IsErrAnd c.begin_current.result (λ r. r.1 ≡ record { conn = k; disk = c.args.parts.disk })) same
    (c.begin_current.ensures.busy (subst (λ (k : Held _). (state g.S.Store k).in_transaction ≡ true) (sym same) busy))

pub returns-in-Ok-false-clause-absent : goal.returns-in-Ok-false-clause-absent
returns-in-Ok-false-clause-absent g c = λ outside none.
    let same = (c.in-Ok-false.ensures.absent none).1 in
    (subst (λ (k : Held _). (state g.S.Store k).in_transaction ≡ false → table_named (state g.S.Store k).now.schema (codes "meta") ≡ None
    → IsErrAnd c.begin_current.result (λ r. r.0 ≡ NotAStore)) same c.begin_current.ensures.absent) outside none

-- ---- it isn't known which it is

pub returns-in-Err-clause-refused : goal.returns-in-Err-clause-refused
returns-in-Err-clause-refused g c =
    let a = state g.S.Store c.args.parts.conn in
    let b = state g.S.Store c.is_to_count.new.conn in
    let old = disk_in g.D.Disk c.args.parts.disk in
    let f = c.in-Err.fault in
    let it = c.in-Err.ensures in
    let s = read_failed begun_for IsTabled None None a b f c.law_of_rest.ensures.rests c.law_of_rest.ensures.settled it.outside _ it.reads in
    fails_by begun_for IsTabled None None a b old old f s (survives_by _ a b it.reads.commits.survives (read_left a b it.reads.commits.survives))
    (contents_same a b old old (λ x may. may)) (λ clean z was. was) (λ z honest was is. it.outside) (λ _. untouched_same old)

use Rattle.std.proofs.Common.{Ok, Err, [], ap}
use Rattle.std.proofs.lemmas.Result.{err_from_is_err_and}
use Rattle.fuse_rows.specs.declared.rows.Counters.{Counters}
use Rattle.fuse_store_tables.specs.inner.Following.{earlier}
use Rattle.sqlite.specs.Held.{state}
use Rattle.fuse_store_tables.specs.inner.Following.{rests_told, rests_then}
use Rattle.fuse_store_tree.specs.Holding.{HeldFor}
use Rattle.fuse_store_tree.proofs.Rests.{fails_for}
use Rattle.fuse_store_tables.specs.inner.Following.{open_told, open_fails, open_then}
use Rattle.fuse_store_tree.proofs.OnlyReading.{reads_told, reads_failed, reads_then}
use Rattle.fuse_store_tree.proofs.reads.counts_at_rest.Goals as goal

pub returns-in_err-records-clause-serves : goal.returns-in_err-records-clause-serves
returns-in_err-records-clause-serves g c file =
    let a = state g.S.Store c.args.conn.now in
    let b = state g.S.Store c.counters_at_rest.new.conn in
    let d = state g.S.Store c.records_at_rest.new.conn in
    fails_for file a d c.in_err-records.field-0.0 c.from_residual-in_err-records.result c.from_residual-in_err-records.ensures.0
    (rests_then (HeldFor file) a b d c.in_ok-counters.counters (Err c.in_err-records.field-0.0) (c.in_ok-counters.ensures.serves file) (c.in_err-records.ensures.serves file))

pub returns-in_err-lots-clause-serves : goal.returns-in_err-lots-clause-serves
returns-in_err-lots-clause-serves g c file =
    let a = state g.S.Store c.args.conn.now in
    let b = state g.S.Store c.counters_at_rest.new.conn in
    let d = state g.S.Store c.records_at_rest.new.conn in
    let e = state g.S.Store c.lots_at_rest.new.conn in
    let two = rests_then (HeldFor file) a b d c.in_ok-counters.counters (Ok c.in_ok-records.records) (c.in_ok-counters.ensures.serves file) (c.in_ok-records.ensures.serves file) in
    fails_for file a e c.in_err-lots.field-0.0 c.from_residual-in_err-lots.result c.from_residual-in_err-lots.ensures.0
    (rests_then (HeldFor file) a d e c.in_ok-records.records (Err c.in_err-lots.field-0.0) two (c.in_err-lots.ensures.serves file))

pub returns-clause-serves : goal.returns-clause-serves
returns-clause-serves g c file =
    let a = state g.S.Store c.args.conn.now in
    let b = state g.S.Store c.counters_at_rest.new.conn in
    let d = state g.S.Store c.records_at_rest.new.conn in
    let e = state g.S.Store c.lots_at_rest.new.conn in
    let two = rests_then (HeldFor file) a b d c.in_ok-counters.counters (Ok c.in_ok-records.records) (c.in_ok-counters.ensures.serves file) (c.in_ok-records.ensures.serves file) in
    rests_told (HeldFor file) a e c.in_ok-lots.lots (Ok _) (rests_then (HeldFor file) a d e c.in_ok-records.records (Ok c.in_ok-lots.lots) two (c.in_ok-lots.ensures.serves file))

pub returns-in_err-counters-clause-open : goal.returns-in_err-counters-clause-open
returns-in_err-counters-clause-open g c =
    open_fails (state g.S.Store c.args.conn.now) (state g.S.Store c.counters_at_rest.new.conn) _ c.from_residual.result c.from_residual.ensures.0
    c.in_err-counters.ensures.open

pub returns-in_err-records-clause-open : goal.returns-in_err-records-clause-open
returns-in_err-records-clause-open g c =
    let a = state g.S.Store c.args.conn.now in
    let b = state g.S.Store c.counters_at_rest.new.conn in
    let d = state g.S.Store c.records_at_rest.new.conn in
    open_fails a d c.in_err-records.field-0.0 c.from_residual-in_err-records.result c.from_residual-in_err-records.ensures.0
    (open_then a b d c.in_ok-counters.counters (Err c.in_err-records.field-0.0) c.in_ok-counters.ensures.open (c.in_err-records.ensures.serves []).survives
    c.in_err-records.ensures.open)

pub returns-in_err-lots-clause-open : goal.returns-in_err-lots-clause-open
returns-in_err-lots-clause-open g c =
    let a = state g.S.Store c.args.conn.now in
    let b = state g.S.Store c.counters_at_rest.new.conn in
    let d = state g.S.Store c.records_at_rest.new.conn in
    let e = state g.S.Store c.lots_at_rest.new.conn in
    let two = open_then a b d c.in_ok-counters.counters (Ok c.in_ok-records.records) c.in_ok-counters.ensures.open (c.in_ok-records.ensures.serves []).survives
    c.in_ok-records.ensures.open in
    open_fails a e c.in_err-lots.field-0.0 c.from_residual-in_err-lots.result c.from_residual-in_err-lots.ensures.0
    (open_then a d e c.in_ok-records.records (Err c.in_err-lots.field-0.0) two (c.in_err-lots.ensures.serves []).survives c.in_err-lots.ensures.open)

pub returns-clause-open : goal.returns-clause-open
returns-clause-open g c =
    let a = state g.S.Store c.args.conn.now in
    let b = state g.S.Store c.counters_at_rest.new.conn in
    let d = state g.S.Store c.records_at_rest.new.conn in
    let e = state g.S.Store c.lots_at_rest.new.conn in
    let two = open_then a b d c.in_ok-counters.counters (Ok c.in_ok-records.records) c.in_ok-counters.ensures.open (c.in_ok-records.ensures.serves []).survives
    c.in_ok-records.ensures.open in
    open_told a e c.in_ok-lots.lots (Ok _)
    (open_then a d e c.in_ok-records.records (Ok c.in_ok-lots.lots) two (c.in_ok-lots.ensures.serves []).survives c.in_ok-lots.ensures.open)

-- ---- of any database

pub returns-in_err-counters-clause-reads : goal.returns-in_err-counters-clause-reads
returns-in_err-counters-clause-reads g c =
    reads_failed (state g.S.Store c.args.conn.now) (state g.S.Store c.counters_at_rest.new.conn) _ c.from_residual.result c.from_residual.ensures.0
    c.in_err-counters.ensures.reads

pub returns-in_err-records-clause-reads : goal.returns-in_err-records-clause-reads
returns-in_err-records-clause-reads g c =
    let a = state g.S.Store c.args.conn.now in
    let b = state g.S.Store c.counters_at_rest.new.conn in
    let d = state g.S.Store c.records_at_rest.new.conn in
    reads_failed a d c.in_err-records.field-0.0 c.from_residual-in_err-records.result c.from_residual-in_err-records.ensures.0
    (reads_then a b d c.in_ok-counters.counters (Err c.in_err-records.field-0.0) c.in_ok-counters.ensures.reads c.in_err-records.ensures.reads)

pub returns-in_err-lots-clause-reads : goal.returns-in_err-lots-clause-reads
returns-in_err-lots-clause-reads g c =
    let a = state g.S.Store c.args.conn.now in
    let b = state g.S.Store c.counters_at_rest.new.conn in
    let d = state g.S.Store c.records_at_rest.new.conn in
    let e = state g.S.Store c.lots_at_rest.new.conn in
    let two = reads_then a b d c.in_ok-counters.counters (Ok c.in_ok-records.records) c.in_ok-counters.ensures.reads c.in_ok-records.ensures.reads in
    reads_failed a e c.in_err-lots.field-0.0 c.from_residual-in_err-lots.result c.from_residual-in_err-lots.ensures.0
    (reads_then a d e c.in_ok-records.records (Err c.in_err-lots.field-0.0) two c.in_err-lots.ensures.reads)

pub returns-clause-reads : goal.returns-clause-reads
returns-clause-reads g c =
    let a = state g.S.Store c.args.conn.now in
    let b = state g.S.Store c.counters_at_rest.new.conn in
    let d = state g.S.Store c.records_at_rest.new.conn in
    let e = state g.S.Store c.lots_at_rest.new.conn in
    let two = reads_then a b d c.in_ok-counters.counters (Ok c.in_ok-records.records) c.in_ok-counters.ensures.reads c.in_ok-records.ensures.reads in
    reads_told a e c.in_ok-lots.lots (Ok _) (reads_then a d e c.in_ok-records.records (Ok c.in_ok-lots.lots) two c.in_ok-lots.ensures.reads)

-- ---- the numbers

pub returns-clause-nodes : goal.returns-clause-nodes
returns-clause-nodes g c file clean y at =
    let b = state g.S.Store c.counters_at_rest.new.conn in
    let d = state g.S.Store c.records_at_rest.new.conn in
    let e = state g.S.Store c.lots_at_rest.new.conn in
    let mid = earlier d e _ (c.in_ok-lots.ensures.serves file).survives clean in
    let first = earlier b d _ (c.in_ok-records.ensures.serves file).survives mid in
    ap (λ (n : Counters). n.nodes) (c.in_ok-counters.ensures.value file first y at)

pub returns-clause-handles : goal.returns-clause-handles
returns-clause-handles g c file clean y at =
    let b = state g.S.Store c.counters_at_rest.new.conn in
    let d = state g.S.Store c.records_at_rest.new.conn in
    let e = state g.S.Store c.lots_at_rest.new.conn in
    let mid = earlier d e _ (c.in_ok-lots.ensures.serves file).survives clean in
    let first = earlier b d _ (c.in_ok-records.ensures.serves file).survives mid in
    ap (λ (n : Counters). n.handles) (c.in_ok-counters.ensures.value file first y at)

pub returns-clause-records : goal.returns-clause-records
returns-clause-records g c file clean y at =
    let b = state g.S.Store c.counters_at_rest.new.conn in
    let d = state g.S.Store c.records_at_rest.new.conn in
    let e = state g.S.Store c.lots_at_rest.new.conn in
    let mid = earlier d e _ (c.in_ok-lots.ensures.serves file).survives clean in
    let first = earlier b d _ (c.in_ok-records.ensures.serves file).survives mid in
    c.in_ok-records.ensures.value file mid y ((c.in_ok-counters.ensures.serves file).done first y at)

pub returns-clause-lots : goal.returns-clause-lots
returns-clause-lots g c file clean y at =
    let b = state g.S.Store c.counters_at_rest.new.conn in
    let d = state g.S.Store c.records_at_rest.new.conn in
    let e = state g.S.Store c.lots_at_rest.new.conn in
    let mid = earlier d e _ (c.in_ok-lots.ensures.serves file).survives clean in
    let first = earlier b d _ (c.in_ok-records.ensures.serves file).survives mid in
    c.in_ok-lots.ensures.value file clean y ((c.in_ok-records.ensures.serves file).done mid y ((c.in_ok-counters.ensures.serves file).done first y at))

-- ---- faults

pub returns-in_err-records-clause-fault : goal.returns-in_err-records-clause-fault
returns-in_err-records-clause-fault g c file clean =
    let b = state g.S.Store c.counters_at_rest.new.conn in
    let d = state g.S.Store c.records_at_rest.new.conn in
    let first = earlier b d _ (c.in_err-records.ensures.serves file).survives clean in
    let p = err_from_is_err_and c.from_residual-in_err-records.result c.from_residual-in_err-records.ensures.1 in
    rw (p.1, p.2) (λ y at. c.in_err-records.ensures.fault file clean y ((c.in_ok-counters.ensures.serves file).done first y at))

pub returns-in_err-lots-clause-fault : goal.returns-in_err-lots-clause-fault
returns-in_err-lots-clause-fault g c file clean =
    let b = state g.S.Store c.counters_at_rest.new.conn in
    let d = state g.S.Store c.records_at_rest.new.conn in
    let e = state g.S.Store c.lots_at_rest.new.conn in
    let mid = earlier d e _ (c.in_err-lots.ensures.serves file).survives clean in
    let first = earlier b d _ (c.in_ok-records.ensures.serves file).survives mid in
    let p = err_from_is_err_and c.from_residual-in_err-lots.result c.from_residual-in_err-lots.ensures.1 in
    rw (p.1, p.2) (λ y at. c.in_err-lots.ensures.fault file clean y ((c.in_ok-records.ensures.serves file).done mid y
    ((c.in_ok-counters.ensures.serves file).done first y at)))

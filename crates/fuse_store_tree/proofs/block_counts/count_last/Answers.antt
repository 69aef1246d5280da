use Rattle.std.proofs.Common.{◌≡◌, sym, subst, arith}
use Rattle.sqlite.specs.Held.{state}
use Rattle.fuse_store_tree.specs.inner.Laws.{looked_then, looked_fails}
use Rattle.fuse_store_tree.specs.inner.Reading.{counted_between}
use Rattle.fuse_store_tree.proofs.Cleans.{clean_before}
use Rattle.fuse_store_tree.proofs.Looks.{map_err}
use Rattle.fuse_store_tree.proofs.Steps.{on_ok, on_error}
use Rattle.fuse_store_tree.proofs.StretchesCounted.{both_ok, none_counted_by, behind_counted, within_counted}
use Rattle.fuse_store_tree.proofs.block_counts.count_last.Goals as goal

pub returns-in-Ok-None-clause-looks : goal.returns-in-Ok-None-clause-looks
returns-in-Ok-None-clause-looks g c =
    on_ok c.count_rows.result _ _
    (looked_then (state g.S.Store c.args.conn.now) (state g.S.Store c.find_last.new.conn) (state g.S.Store c.count_rows.new.conn) c.in-Ok-None.ensures.looks)
    c.count_rows.ensures.looks

pub returns-in-Ok-None-clause-fails : goal.returns-in-Ok-None-clause-fails
returns-in-Ok-None-clause-fails g c =
    on_error c.count_rows.result _ _
    (looked_fails (state g.S.Store c.args.conn.now) (state g.S.Store c.find_last.new.conn) (state g.S.Store c.count_rows.new.conn) c.in-Ok-None.ensures.looks)
    c.count_rows.ensures.fails

pub returns-in-Ok-None-clause-value : goal.returns-in-Ok-None-clause-value
returns-in-Ok-None-clause-value g c clean =
    let b = state g.S.Store c.find_last.new.conn in
    let d = state g.S.Store c.count_rows.new.conn in
    let mid = clean_before b d c.count_rows.result c.count_rows.ensures.looks c.count_rows.ensures.fails clean in
    both_ok c.count_rows.result _ _ _
    (λ s told begin file k at sound.
    subst (λ n. s.count ≡ counted_between file k c.args.node n c.args.end) (sym begin)
    (none_counted_by file k c.args.node c.args.from c.args.end s.count c.requires.from
    (rw c.in-Ok-None.field-0-is at (c.in-Ok-None.ensures.value mid k at sound.0)) (told k (c.in-Ok-None.ensures.looks.same mid k at))))
    (c.count_rows.ensures.value clean) c.count_rows.ensures.begin

pub returns-in-Ok-None-clause-fault : goal.returns-in-Ok-None-clause-fault
returns-in-Ok-None-clause-fault g c clean =
    let b = state g.S.Store c.find_last.new.conn in
    let d = state g.S.Store c.count_rows.new.conn in
    let mid = clean_before b d c.count_rows.result c.count_rows.ensures.looks c.count_rows.ensures.fails clean in
    map_err c.count_rows.result _ _ (λ f told file k at sound. told k (c.in-Ok-None.ensures.looks.same mid k at)) (c.count_rows.ensures.fault clean)

pub returns-then-past-end-clause-looks : goal.returns-then-past-end-clause-looks
returns-then-past-end-clause-looks g c =
    on_ok c.count_rows-then-past-end.result _ _
    (looked_then (state g.S.Store c.args.conn.now) (state g.S.Store c.find_last.new.conn) (state g.S.Store c.count_rows-then-past-end.new.conn)
    c.in-Ok-Some.ensures.looks) c.count_rows-then-past-end.ensures.looks

pub returns-then-past-end-clause-fails : goal.returns-then-past-end-clause-fails
returns-then-past-end-clause-fails g c =
    on_error c.count_rows-then-past-end.result _ _
    (looked_fails (state g.S.Store c.args.conn.now) (state g.S.Store c.find_last.new.conn) (state g.S.Store c.count_rows-then-past-end.new.conn)
    c.in-Ok-Some.ensures.looks) c.count_rows-then-past-end.ensures.fails

pub returns-then-past-end-clause-value : goal.returns-then-past-end-clause-value
returns-then-past-end-clause-value g c clean =
    let b = state g.S.Store c.find_last.new.conn in
    let rows = c.count_rows-then-past-end in
    let d = state g.S.Store c.count_rows-then-past-end.new.conn in
    let mid = clean_before b d c.count_rows-then-past-end.result c.count_rows-then-past-end.ensures.looks c.count_rows-then-past-end.ensures.fails clean in
    let is = c.max.ensures in
    let test = c.if-past-end.true in
    let low = c.requires.from in
    both_ok c.count_rows-then-past-end.result _ _ _
    (λ s told begin file k at sound.
    subst (λ n. s.count ≡ counted_between file k c.args.node n c.args.end) (sym begin)
    (behind_counted file k c.args.node c.in-Ok-Some.piece c.max.result c.args.end s.count sound.1.own
    (rw c.in-Ok-Some.field-0-is at (c.in-Ok-Some.ensures.value mid k at sound.0)) (omega (arith, is, test, low)) (omega (arith, is))
    (told k (c.in-Ok-Some.ensures.looks.same mid k at))))
    (c.count_rows-then-past-end.ensures.value clean) c.count_rows-then-past-end.ensures.begin

pub returns-then-past-end-clause-fault : goal.returns-then-past-end-clause-fault
returns-then-past-end-clause-fault g c clean =
    let b = state g.S.Store c.find_last.new.conn in
    let d = state g.S.Store c.count_rows-then-past-end.new.conn in
    let mid = clean_before b d c.count_rows-then-past-end.result c.count_rows-then-past-end.ensures.looks c.count_rows-then-past-end.ensures.fails clean in
    map_err c.count_rows-then-past-end.result _ _ (λ f told file k at sound. told k (c.in-Ok-Some.ensures.looks.same mid k at))
    (c.count_rows-then-past-end.ensures.fault clean)

pub returns-clause-value : goal.returns-clause-value
returns-clause-value g c clean file k at sound =
    let begins = rw c.in-Ok-Some.field-0-is at c.in-Ok-Some.ensures.begins in
    let is = c.max-begin.ensures in
    let test = c.if-past-end.false in
    let low = c.requires.from in
    within_counted file k c.args.node c.in-Ok-Some.piece c.max-begin.result c.args.end sound.1.own
    (rw c.in-Ok-Some.field-0-is at (c.in-Ok-Some.ensures.value clean k at sound.0)) (omega (arith, is, begins, low)) (omega (arith, is)) (omega (arith, test))

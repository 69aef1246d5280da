use Rattle.std.proofs.Common.{ap, arith, Ok, None, ◌∙◌}
use Rattle.sqlite.specs.Held.{state}
use Rattle.fuse_store_tables.specs.Content.{kept_key, at_by}
use Rattle.fuse_store_tree.specs.Fits.{KeepsRecord}
use Rattle.fuse_store_tree.specs.Store.{records_of}
use Rattle.fuse_store_tree.proofs.Looks.{found_is, map_ok, map_err, drop_second}
use Rattle.fuse_store_tree.proofs.Rests.{content_at, failed_for, read_for, none_kept}
use Rattle.fuse_store_tables.specs.inner.Following.{open_told, open_fails}
use Rattle.fuse_store_tree.proofs.OnlyReading.{reads_told, reads_failed, reads_none}
use Rattle.fuse_store_tree.proofs.reads.answer_at_rest.Goals as goal

pub returns-then-id-ge-END-clause-value : goal.returns-then-id-ge-END-clause-value
returns-then-id-ge-END-clause-value g c file clean y at = none_kept file c.args.id y (state g.S.Store c.args.conn.now) (omega (arith, c.if-id-ge-END.true)) at

pub returns-in_err-rows-clause-serves : goal.returns-in_err-rows-clause-serves
returns-in_err-rows-clause-serves g c file =
    failed_for file (state g.S.Store c.args.conn.now) (state g.S.Store c.select_kept.new.conn) _ c.from_residual.result c.from_residual.ensures.0
    c.in_err-rows.ensures.rests

pub returns-clause-serves : goal.returns-clause-serves
returns-clause-serves g c file =
    read_for file (state g.S.Store c.args.conn.now) (state g.S.Store c.select_kept.new.conn) c.in_ok-rows.rows c.read_answer.result c.in_ok-rows.ensures.rests

pub returns-clause-value : goal.returns-clause-value
returns-clause-value g c =
    map_ok c.read_answer.result _ _ (λ r told file clean y at. told (at_by kept_key c.args.id at.holds.held.0.kept) (c.as_slice.ensures.value
    ∙ c.in_ok-rows.ensures.found_at_rest clean at.holds.held.0 (content_at file y (state g.S.Store c.args.conn.now) at))
    ∙ ap (λ ks. records_of ks c.args.id) at.holds.held.2.kept) c.read_answer.ensures.value

pub returns-clause-fault : goal.returns-clause-fault
returns-clause-fault g c file clean =
    map_err c.read_answer.result _ _ (λ f told y at. told (at_by kept_key c.args.id at.holds.held.0.kept)
    (drop_second _ _ (at_by kept_key c.args.id at.holds.held.0.kept) (found_is kept_key c.args.id KeepsRecord at.holds.held.0.kept at.holds.held.2.fits.kept))
    (c.as_slice.ensures.value ∙ c.in_ok-rows.ensures.found_at_rest clean at.holds.held.0 (content_at file y (state g.S.Store c.args.conn.now) at)))
    c.read_answer.ensures.fault

pub returns-then-id-ge-END-clause-open : goal.returns-then-id-ge-END-clause-open
returns-then-id-ge-END-clause-open g c = record { was = λ clean is_open. is_open; still = λ clean is_open. is_open }

pub returns-in_err-rows-clause-open : goal.returns-in_err-rows-clause-open
returns-in_err-rows-clause-open g c =
    open_fails (state g.S.Store c.args.conn.now) (state g.S.Store c.select_kept.new.conn) _ c.from_residual.result c.from_residual.ensures.0
    c.in_err-rows.ensures.open

pub returns-clause-open : goal.returns-clause-open
returns-clause-open g c =
    open_told (state g.S.Store c.args.conn.now) (state g.S.Store c.select_kept.new.conn) c.in_ok-rows.rows c.read_answer.result c.in_ok-rows.ensures.open

-- ---- of any database

pub returns-then-id-ge-END-clause-reads : goal.returns-then-id-ge-END-clause-reads
returns-then-id-ge-END-clause-reads g c = reads_none (state g.S.Store c.args.conn.now) (Ok None)

pub returns-in_err-rows-clause-reads : goal.returns-in_err-rows-clause-reads
returns-in_err-rows-clause-reads g c =
    reads_failed (state g.S.Store c.args.conn.now) (state g.S.Store c.select_kept.new.conn) _ c.from_residual.result c.from_residual.ensures.0
    c.in_err-rows.ensures.reads

pub returns-clause-reads : goal.returns-clause-reads
returns-clause-reads g c =
    reads_told (state g.S.Store c.args.conn.now) (state g.S.Store c.select_kept.new.conn) c.in_ok-rows.rows c.read_answer.result c.in_ok-rows.ensures.reads

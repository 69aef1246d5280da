use Rattle.std.proofs.Common.{inl, inr, arith, subst}
use Rattle.sqlite.specs.Held.{state}
use Rattle.fuse_store_tables.specs.Ranges.{ShowsLast}
use Rattle.fuse_store_tree.specs.inner.Laws.{still_read}
use Rattle.fuse_store_tree.proofs.SplitSteps.{first_cut, none_found, ends_before, across_ok, across_fails, row_read, bytes_read}
use Rattle.fuse_store_tree.proofs.piece_splits.split_at.Goals as goal

pub returns-then-block-eq0-clause-reads : goal.returns-then-block-eq0-clause-reads
returns-then-block-eq0-clause-reads g c = still_read (g.C.Contents.file c.args.contents.now)

pub returns-in-Err-clause-reads : goal.returns-in-Err-clause-reads
returns-in-Err-clause-reads g c = still_read (g.C.Contents.file c.args.contents.now)

pub returns-in-None-clause-reads : goal.returns-in-None-clause-reads
returns-in-None-clause-reads g c = still_read (g.C.Contents.file c.args.contents.now)

pub returns-in-Err-piece_in_row-clause-reads : goal.returns-in-Err-piece_in_row-clause-reads
returns-in-Err-piece_in_row-clause-reads g c = still_read (g.C.Contents.file c.args.contents.now)

pub returns-then-block-piece-clause-reads : goal.returns-then-block-piece-clause-reads
returns-then-block-piece-clause-reads g c = still_read (g.C.Contents.file c.args.contents.now)

pub returns-then-end-block-clause-reads : goal.returns-then-end-block-clause-reads
returns-then-end-block-clause-reads g c = still_read (g.C.Contents.file c.args.contents.now)

pub returns-then-block-eq0-clause-split : goal.returns-then-block-eq0-clause-split
returns-then-block-eq0-clause-split g c =
    let f = g.C.Contents.file c.args.contents.now in
    rw c.if-block-eq0.true (first_cut f.is_clean f.bytes c.args.node (state g.S.Store c.args.conn.now))

pub returns-in-None-clause-split : goal.returns-in-None-clause-split
returns-in-None-clause-split g c =
    let f = g.C.Contents.file c.args.contents.now in
    none_found f.is_clean f.bytes c.args.node c.args.block (omega arith) (state g.S.Store c.args.conn.now) (state g.S.Store c.select_piece_before.new.conn)
    c.in-Ok.ensures.looks (λ clean k at. subst (ShowsLast _) c.in-None.is (c.in-Ok.ensures.found clean k at))

pub returns-then-block-piece-clause-split : goal.returns-then-block-piece-clause-split
returns-then-block-piece-clause-split g c =
    let f = g.C.Contents.file c.args.contents.now in
    ends_before f.is_clean f.bytes c.args.node c.args.block (omega arith) c.in-Some.row c.in-Ok-piece_in_row.piece (state g.S.Store c.args.conn.now)
    (state g.S.Store c.select_piece_before.new.conn) c.in-Ok.ensures.looks (λ clean k at. subst (ShowsLast _) c.in-Some.is (c.in-Ok.ensures.found clean k at))
    c.in-Ok-piece_in_row.ensures.value (inl c.if-block-piece.true)

pub returns-then-end-block-clause-split : goal.returns-then-end-block-clause-split
returns-then-end-block-clause-split g c =
    let f = g.C.Contents.file c.args.contents.now in
    ends_before f.is_clean f.bytes c.args.node c.args.block (omega arith) c.in-Some.row c.in-Ok-piece_in_row.piece (state g.S.Store c.args.conn.now)
    (state g.S.Store c.select_piece_before.new.conn) c.in-Ok.ensures.looks (λ clean k at. subst (ShowsLast _) c.in-Some.is (c.in-Ok.ensures.found clean k at))
    c.in-Ok-piece_in_row.ensures.value (inr c.if-end-block.true)

pub returns-clause-split : goal.returns-clause-split
returns-clause-split g c =
    let f = g.C.Contents.file c.sums_of.new.contents in
    across_ok f.is_clean f.bytes c.args.node c.args.block (omega arith) c.in-Some.row c.in-Ok-piece_in_row.piece c.parts_hold.ensures
    c.in-Ok-sums_of.sums.0 c.in-Ok-sums_of.sums.1 (state g.S.Store c.args.conn.now) (state g.S.Store c.select_piece_before.new.conn) (state g.S.Store c.put_parts.new.conn) c.put_parts.result
    c.in-Ok.ensures.looks (λ clean k at. subst (ShowsLast _) c.in-Some.is (c.in-Ok.ensures.found clean k at)) c.in-Ok-piece_in_row.ensures.value
    (omega arith) (omega arith) c.in-Ok-sums_of.ensures.low.0 c.in-Ok-sums_of.ensures.low.1 c.in-Ok-sums_of.ensures.sums c.put_parts.ensures.made

pub returns-clause-fails : goal.returns-clause-fails
returns-clause-fails g c =
    across_fails (state g.S.Store c.args.conn.now) (state g.S.Store c.select_piece_before.new.conn) (state g.S.Store c.put_parts.new.conn) c.put_parts.result
    c.in-Ok.ensures.looks c.put_parts.ensures.made

pub returns-in-Err-clause-fails : goal.returns-in-Err-clause-fails
returns-in-Err-clause-fails g c = c.in-Err.ensures.fails

pub returns-in-Err-piece_in_row-clause-fails : goal.returns-in-Err-piece_in_row-clause-fails
returns-in-Err-piece_in_row-clause-fails g c = c.in-Ok.ensures.looks.stays

pub returns-in-Err-sums_of-clause-fails : goal.returns-in-Err-sums_of-clause-fails
returns-in-Err-sums_of-clause-fails g c = c.in-Ok.ensures.looks.stays

pub returns-in-Err-piece_in_row-clause-fault : goal.returns-in-Err-piece_in_row-clause-fault
returns-in-Err-piece_in_row-clause-fault g c clean read k at sound =
    let f = g.C.Contents.file c.args.contents.now in
    row_read f.is_clean f.bytes c.args.node c.args.block (omega arith) c.in-Some.row (record { node = 0; first = 0; count = 0; place = 0; sum = 0 })
    (state g.S.Store c.args.conn.now) (state g.S.Store c.select_piece_before.new.conn) c.in-Err-piece_in_row.fault
    (λ clean k at. subst (ShowsLast _) c.in-Some.is (c.in-Ok.ensures.found clean k at)) clean c.in-Err-piece_in_row.ensures.fault k at

pub returns-in-Err-sums_of-clause-fault : goal.returns-in-Err-sums_of-clause-fault
returns-in-Err-sums_of-clause-fault g c clean read k at sound =
    let f = g.C.Contents.file c.sums_of.new.contents in
    bytes_read f.is_clean f.bytes c.args.node c.args.block (omega arith) c.in-Some.row c.in-Ok-piece_in_row.piece (state g.S.Store c.args.conn.now)
    (state g.S.Store c.select_piece_before.new.conn) c.in-Err-sums_of.fault
    (λ clean k at. subst (ShowsLast _) c.in-Some.is (c.in-Ok.ensures.found clean k at)) c.in-Ok-piece_in_row.ensures.value clean
    (c.in-Err-sums_of.ensures.fault read) k sound at

pub overflow_add-end : goal.overflow_add-end
overflow_add-end g c =
    let fits = c.in-Ok-piece_in_row.ensures.fits c.requires.node in
    omega (arith, fits.first, fits.count)

pub put_parts-requires-clause-fits : goal.put_parts-requires-clause-fits
put_parts-requires-clause-fits g c = c.in-Ok-piece_in_row.ensures.fits c.requires.node

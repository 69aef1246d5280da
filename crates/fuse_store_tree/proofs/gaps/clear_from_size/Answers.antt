use Rattle.sqlite.specs.Held.{state}
use Rattle.fuse_store_tree.proofs.Steps.{on_ok, on_error}
use Rattle.fuse_store_tree.proofs.AtSize.{sized_trees, looked_trees}
use Rattle.fuse_store_tree.proofs.Described.{inside_of}
use Rattle.fuse_store_tree.proofs.Sure.{sure_next}
use Rattle.fuse_store_tree.specs.Store.{Held}
use Rattle.fuse_store_tree.proofs.gaps.clear_from_size.Goals as goal
use Rattle.fuse_store_tree.specs.inner.Laws.{looked_fails, still_read}

pub returns-then-row-le-MAX_FILE-clause-same : goal.returns-then-row-le-MAX_FILE-clause-same
returns-then-row-le-MAX_FILE-clause-same g c =
    on_ok c.set_size.result _ _ (sized_trees c.rows_of_trees.ensures (g.C.Contents.file c.set_size.new.contents) (state g.S.Store c.args.conn.now)
    (state g.S.Store c.find_node.new.conn) (state g.S.Store c.set_size.new.conn) c.args.node c.in-Ok-Some.row c.in-Ok-Some.field-0 c.in-Ok-Some.ensures.looks
    c.in-Ok-Some.ensures.value c.in-Ok-Some.field-0-is) c.set_size.ensures.changed

pub returns-then-row-le-MAX_FILE-clause-fails : goal.returns-then-row-le-MAX_FILE-clause-fails
returns-then-row-le-MAX_FILE-clause-fails g c =
    on_error c.set_size.result _ _ (looked_fails (state g.S.Store c.args.conn.now) (state g.S.Store c.find_node.new.conn) (state g.S.Store c.set_size.new.conn)
    c.in-Ok-Some.ensures.looks) c.set_size.ensures.fails

pub returns-in-Err-clause-fault : goal.returns-in-Err-clause-fault
returns-in-Err-clause-fault g c read = λ clean (x, at).
    c.in-Err.ensures.fault clean at.holds.0 (inside_of (g.C.Contents.file c.args.contents.now).bytes x (state g.S.Store c.args.conn.now) at) at.holds.2.fits

pub returns-in-Err-clause-reads : goal.returns-in-Err-clause-reads
returns-in-Err-clause-reads g c = still_read (g.C.Contents.file c.args.contents.now)

pub returns-in-Ok-None-clause-reads : goal.returns-in-Ok-None-clause-reads
returns-in-Ok-None-clause-reads g c = still_read (g.C.Contents.file c.args.contents.now)

pub returns-in-Ok-None-clause-same : goal.returns-in-Ok-None-clause-same
returns-in-Ok-None-clause-same g c =
    looked_trees (g.C.Contents.file c.args.contents.now) (state g.S.Store c.args.conn.now) (state g.S.Store c.find_node.new.conn) c.in-Ok-None.ensures.looks

pub returns-then-row-le-MAX_FILE-clause-fault : goal.returns-then-row-le-MAX_FILE-clause-fault
returns-then-row-le-MAX_FILE-clause-fault g c read =
    let a = state g.S.Store c.args.conn.now in
    let b = state g.S.Store c.find_node.new.conn in
    let f = g.C.Contents.file c.set_size.new.contents in
    sure_next (Held f.bytes) (Held f.bytes) a b (state g.S.Store c.set_size.new.conn) c.set_size.result c.set_size.ensures.fails
    (λ clean ready. (looked_trees f a b c.in-Ok-Some.ensures.looks).held clean read ready) (c.set_size.ensures.fault read)

pub returns-else-row-end-clause-same : goal.returns-else-row-end-clause-same
returns-else-row-end-clause-same g c =
    looked_trees (g.C.Contents.file c.args.contents.now) (state g.S.Store c.args.conn.now) (state g.S.Store c.find_node.new.conn) c.in-Ok-Some.ensures.looks

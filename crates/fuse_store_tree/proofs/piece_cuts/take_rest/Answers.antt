use Rattle.std.proofs.Common.{arith}
use Rattle.sqlite.specs.Held.{state}
use Rattle.fuse_store_tree.proofs.PieceSteps.{of_clean, rest_taken, rest_sure, relists_fails}
use Rattle.fuse_store_tree.proofs.Steps.{on_ok, on_error}
use Rattle.fuse_store_tree.proofs.piece_cuts.take_rest.Goals as goal

pub returns-in-Ok-clause-taken : goal.returns-in-Ok-clause-taken
returns-in-Ok-clause-taken g c =
    let f = g.C.Contents.file c.split_at.new.contents in
    let a = state g.S.Store c.args.conn.now in
    let b = state g.S.Store c.split_at.new.conn in
    let d = state g.S.Store c.take_slices.new.conn in
    on_ok c.take_slices.result _ _ (λ p. rest_taken f.is_clean f.bytes c.args.node c.args.from 9223372036854775807 (omega arith) c.args.gone.now c.take_slices.new.gone a b d
    c.in-Ok.ensures.split (of_clean f.is_clean f.bytes _ _ b d (p f.bytes))) c.take_slices.ensures.taken

pub returns-in-Ok-clause-fails : goal.returns-in-Ok-clause-fails
returns-in-Ok-clause-fails g c =
    let f = g.C.Contents.file c.split_at.new.contents in
    on_error c.take_slices.result _ _ (relists_fails f.is_clean f.bytes _ _ (state g.S.Store c.args.conn.now) (state g.S.Store c.split_at.new.conn)
    (state g.S.Store c.take_slices.new.conn) c.in-Ok.ensures.split) c.take_slices.ensures.fails

pub returns-in-Ok-clause-fault : goal.returns-in-Ok-clause-fault
returns-in-Ok-clause-fault g c clean read =
    let f = g.C.Contents.file c.split_at.new.contents in
    let a = state g.S.Store c.args.conn.now in
    let b = state g.S.Store c.split_at.new.conn in
    let d = state g.S.Store c.take_slices.new.conn in
    rest_sure f.is_clean f.bytes c.args.node c.args.from 9223372036854775807 (omega arith) a b d c.take_slices.result c.in-Ok.ensures.split c.take_slices.ensures.fails
    (λ now. c.take_slices.ensures.fault now) read clean

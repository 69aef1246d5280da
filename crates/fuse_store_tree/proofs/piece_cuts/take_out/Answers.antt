use Rattle.std.proofs.Common.{sym, ◌∙◌}
use Rattle.sqlite.specs.Held.{state}
use Rattle.fuse_store_tree.specs.inner.Laws.{still_read}
use Rattle.fuse_store_tree.proofs.PieceSteps.{none_second, of_any, third_sure}
use Rattle.fuse_store_tree.proofs.Steps.{on_ok}
use Rattle.fuse_store_tree.proofs.piece_cuts.take_out.Goals as goal

pub returns-in-Second-clause-taken : goal.returns-in-Second-clause-taken
returns-in-Second-clause-taken g c =
    let f = g.C.Contents.file c.args.contents.now in
    none_second f.is_clean f.bytes _ c.args.gone.now (state g.S.Store c.args.conn.now) (λ k at. sym (c.layout_of.ensures.value k at.holds) ∙ c.in-Second.is)

pub returns-in-Third-clause-taken : goal.returns-in-Third-clause-taken
returns-in-Third-clause-taken g c =
    let f = g.C.Contents.file c.take_range.new.contents in
    on_ok c.take_range.result _ _ (of_any f.is_clean f.bytes _ _ (state g.S.Store c.args.conn.now) (state g.S.Store c.take_range.new.conn)
    (λ k at. sym (c.layout_of.ensures.value k at.holds) ∙ c.in-Third.is)) c.take_range.ensures.taken

pub returns-in-Third-clause-fault : goal.returns-in-Third-clause-fault
returns-in-Third-clause-fault g c clean read =
    third_sure (g.C.Contents.file c.take_range.new.contents).bytes (state g.S.Store c.args.conn.now) c.take_range.result
    (λ k at. sym (c.layout_of.ensures.value k at.holds) ∙ c.in-Third.is) (c.take_range.ensures.fault clean read)

pub returns-in-Second-clause-reads : goal.returns-in-Second-clause-reads
returns-in-Second-clause-reads g c = still_read (g.C.Contents.file c.args.contents.now)

use Rattle.sqlite.specs.Held.{state}
use Rattle.fuse_store_tree.proofs.Steps.{on_ok}
use Rattle.fuse_store_tree.proofs.Cuts.{sized_changed}
use Rattle.fuse_store_tree.proofs.Sure.{sure_held}
use Rattle.fuse_store_tree.proofs.truncation.set_size.Goals as goal

pub returns-clause-changed : goal.returns-clause-changed
returns-clause-changed g c =
    on_ok c.cut_from.result _ _ (sized_changed (g.C.Contents.file c.cut_from.new.contents) c.args.node c.args.size (state g.S.Store c.args.conn.now)
    (state g.S.Store c.cut_from.new.conn)) c.cut_from.ensures.cut

pub returns-clause-fault : goal.returns-clause-fault
returns-clause-fault g c read =
    sure_held (g.C.Contents.file c.cut_from.new.contents).bytes (state g.S.Store c.args.conn.now) (state g.S.Store c.cut_from.new.conn) c.cut_from.result
    (c.cut_from.ensures.fault read)

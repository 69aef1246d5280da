use Rattle.sqlite.specs.Held.{state}
use Rattle.fuse_store_tree.proofs.Records.{forgot_four}
use Rattle.fuse_store_tree.proofs.settled_ids.forget_four.Goals as goal

pub returns-in-Ok-clause-turned : goal.returns-in-Ok-clause-turned
returns-in-Ok-clause-turned g c =
    λ file. forgot_four file c.args.first c.args.second c.args.third c.args.last (state g.S.Store c.args.conn.now) (state g.S.Store c.delete_four_kept.new.conn) _
    c.in-Ok.ensures

pub returns-in-Err-clause-fails : goal.returns-in-Err-clause-fails
returns-in-Err-clause-fails g c = c.in-Err.ensures.stays

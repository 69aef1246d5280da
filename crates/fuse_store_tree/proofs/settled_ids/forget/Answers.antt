use Rattle.sqlite.specs.Held.{state}
use Rattle.fuse_store_tree.proofs.Records.{forgot, none_forgot}
use Rattle.fuse_store_tree.proofs.settled_ids.forget.Goals as goal

pub returns-then-id-ge-END-clause-turned : goal.returns-then-id-ge-END-clause-turned
returns-then-id-ge-END-clause-turned g c = λ file. none_forgot file c.args.id (state g.S.Store c.args.conn.now) c.if-id-ge-END.true

pub returns-in-Ok-clause-turned : goal.returns-in-Ok-clause-turned
returns-in-Ok-clause-turned g c =
    λ file. forgot file c.args.id (state g.S.Store c.args.conn.now) (state g.S.Store c.delete_kept.new.conn) _ c.in-Ok.ensures

pub returns-in-Err-clause-fails : goal.returns-in-Err-clause-fails
returns-in-Err-clause-fails g c = c.in-Err.ensures.stays

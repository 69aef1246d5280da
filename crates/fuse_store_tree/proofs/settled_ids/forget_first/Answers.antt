use Rattle.sqlite.specs.Held.{state}
use Rattle.fuse_store_tree.proofs.Records.{one_settled, four_settled}
use Rattle.fuse_store_tree.proofs.settled_ids.forget_first.Goals as goal

pub returns-in-Ok-clause-turned : goal.returns-in-Ok-clause-turned
returns-in-Ok-clause-turned g c = λ file.
    four_settled file c.args.ids.now (state g.S.Store c.args.conn.now) (state g.S.Store c.forget_four.new.conn) c.if-ids-ge4.true (c.in-Ok.ensures.turned file)

pub returns-in-Ok-forget-clause-turned : goal.returns-in-Ok-forget-clause-turned
returns-in-Ok-forget-clause-turned g c = λ file.
    one_settled file c.args.ids.now (state g.S.Store c.args.conn.now) (state g.S.Store c.forget.new.conn) c.requires.some (c.in-Ok-forget.ensures.turned file)

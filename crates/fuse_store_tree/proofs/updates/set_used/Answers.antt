use Rattle.sqlite.specs.Held.{state}
use Rattle.fuse_store_tree.proofs.Steps.{made_nothing}
use Rattle.fuse_store_tree.proofs.updates.set_used.Goals as goal

pub returns-in-None : goal.returns-in-None
returns-in-None g c = rw c.in-None.is (made_nothing (state g.S.Store c.args.conn.now) _)

pub returns-in-Some : goal.returns-in-Some
returns-in-Some g c = rw c.in-Some.is c.update_counter.ensures

use Rattle.fuse_store_tree.proofs.updates.write_counters.Goals as goal

pub returns-in-None : goal.returns-in-None
returns-in-None g c = rw c.in-None.is c.set_all.ensures

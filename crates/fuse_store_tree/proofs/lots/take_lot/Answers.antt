use Rattle.fuse_store_tree.proofs.lots.take_lot.Goals as goal

pub returns-in-None-clause-turned : goal.returns-in-None-clause-turned
returns-in-None-clause-turned g c = rw c.in-None.is c.take_next.ensures.turned

pub returns-in-None-clause-value : goal.returns-in-None-clause-value
returns-in-None-clause-value g c = rw c.in-None.is c.take_next.ensures.value

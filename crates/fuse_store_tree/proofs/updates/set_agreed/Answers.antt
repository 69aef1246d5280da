use Rattle.fuse_store_tree.proofs.updates.set_agreed.Goals as goal

pub returns : goal.returns
returns g c = rw (c.from.ensures, c.from-2.ensures) at c.set_four.ensures

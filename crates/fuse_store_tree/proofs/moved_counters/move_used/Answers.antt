use Rattle.fuse_store_tree.proofs.moved_counters.move_used.Goals as goal

pub returns-in-Some-Some : goal.returns-in-Some-Some
returns-in-Some-Some g c = rw (c.in-Some-Some.is-0, c.in-Some-Some.is-1) c.move_counter.ensures

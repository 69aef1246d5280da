use Rattle.fuse_store_tree.proofs.block_writes.write_whole.Goals as goal

pub returns-in-Ok-clause-made : goal.returns-in-Ok-clause-made
returns-in-Ok-clause-made g c =
    let made = rw c.from.ensures at c.in-Ok.ensures in
    record { stays = made.stays; within = made.within; turns = made.turns }

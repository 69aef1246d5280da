use Rattle.fuse_store_tree.proofs.block_writes.put_block.Goals as goal

pub returns-in-Ok-clause-made : goal.returns-in-Ok-clause-made
returns-in-Ok-clause-made g c = rw c.if-stored.true (record { stays = c.in-Ok.ensures.made.stays; within = c.in-Ok.ensures.made.within; turns = c.in-Ok.ensures.made.turns })

pub returns-in-Ok-insert_block-clause-made : goal.returns-in-Ok-insert_block-clause-made
returns-in-Ok-insert_block-clause-made g c =
    rw c.if-stored.false (record { stays = c.in-Ok-insert_block.ensures.stays; within = c.in-Ok-insert_block.ensures.within; turns = c.in-Ok-insert_block.ensures.turns })

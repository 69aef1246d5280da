use Rattle.fuse_tree.specs.Rowed.{rowed}
use Rattle.fuse_lists.proofs.NewRows.{lists_are}
use Rattle.fuse_lists.proofs.plain.PlainRows.new.Goals as goal

pub returns-clause-rows : goal.returns-clause-rows
unfolding rowed
returns-clause-rows c =
    rw (c.in_ok-put.ensures.ok, c.new-nodes.ensures, c.root_row.ensures c.args.capacity, c.new_room.ensures, c.new.ensures.items, c.new-2.ensures.items)
    (lists_are c.args.profile c.args.capacity c.args.from)

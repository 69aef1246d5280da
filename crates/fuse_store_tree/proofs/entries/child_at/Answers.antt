use Rattle.fuse_store_tables.specs.Content.{shown_entry}
use Rattle.fuse_store_tree.proofs.Children.{cookie_there, name_there, child_there, long_there, child_told, widths_of}
use Rattle.fuse_store_tree.proofs.entries.child_at.Goals as goal

pub returns-in-Err-clause-fault : goal.returns-in-Err-clause-fault
returns-in-Err-clause-fault c x back is =
    let l = c.args.layout in
    let row = c.args.row.now in
    let at = c.width_of.result in
    let place = c.width_of.ensures.value in
    c.in-Err.ensures.fault x.entry (long_there l x row at place is) (cookie_there l x row at place is) (name_there l x row at place is)
    (child_there l x row at place is)

pub returns-in-Err-node_if_any-clause-fault : goal.returns-in-Err-node_if_any-clause-fault
returns-in-Err-node_if_any-clause-fault c x back is =
    c.in-Err-node_if_any.ensures.fault x.row (shown_entry x.entry) (widths_of c.args.layout x.row x.entry.child back.1) is

pub returns-in-Ok-node_if_any-clause-value : goal.returns-in-Ok-node_if_any-clause-value
returns-in-Ok-node_if_any-clause-value c x back is =
    let l = c.args.layout in
    let row = c.args.row.now in
    let at = c.width_of.result in
    let place = c.width_of.ensures.value in
    let same = c.in-Ok.ensures.value x.entry back.0 (cookie_there l x row at place is) (name_there l x row at place is) (child_there l x row at place is) in
    child_told l x row back is c.in-Ok.entry same c.in-Ok-node_if_any.node c.in-Ok-node_if_any.ensures.value

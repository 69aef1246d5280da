use Rattle.std.proofs.Common.{◌≡◌, None}
use Rattle.sqlite.specs.Held.{state}
use Rattle.fuse_store_tables.specs.Content.{Holds, at_by, node_key, with_node}
use Rattle.fuse_store_tables.proofs.Laid.{known_takes, known_told}
use Rattle.fuse_store_tables.proofs.nodes.write_node.Goals as goal

pub returns-clause-made : goal.returns-clause-made
returns-clause-made g c =
    known_takes c.layout_of-layout.result (λ k. Holds (with_node c.args.row.now k)) (state g.S.Store c.args.conn.now) (state g.S.Store c.insert_in.new.conn)
    c.insert_in.result c.layout_of-layout.ensures.value c.insert_in.ensures.made

pub returns-clause-fresh : goal.returns-clause-fresh
returns-clause-fresh g c = λ clean.
    known_told c.layout_of-layout.result (state g.S.Store c.args.conn.now) c.insert_in.result
    (λ k. at_by node_key c.args.row.now.node k.nodes ≡ None) c.layout_of-layout.ensures.value (c.insert_in.ensures.fresh clean)

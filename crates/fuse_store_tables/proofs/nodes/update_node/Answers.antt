use Rattle.std.proofs.Common.{◌≡◌}
use Rattle.std.specs.Option.{is_some}
use Rattle.sqlite.specs.Held.{state}
use Rattle.fuse_store_tables.specs.Content.{Holds, set_node, at_by, node_key}
use Rattle.fuse_store_tables.proofs.Laid.{known_takes, known_found}
use Rattle.fuse_store_tables.proofs.nodes.update_node.Goals as goal

pub returns-clause-made : goal.returns-clause-made
returns-clause-made g c =
    known_takes c.layout_of-layout.result (λ k. Holds (set_node c.args.row.now k)) (state g.S.Store c.args.conn.now) (state g.S.Store c.update_in.new.conn)
    c.update_in.result c.layout_of-layout.ensures.value c.update_in.ensures.made

pub returns-clause-found : goal.returns-clause-found
returns-clause-found g c = λ clean.
    known_found c.layout_of-layout.result (state g.S.Store c.args.conn.now) c.update_in.result
    (λ k any. any ≡ is_some (at_by node_key c.args.row.now.node k.nodes)) c.layout_of-layout.ensures.value (c.update_in.ensures.found clean)

use Rattle.std.proofs.Common.{◌≡◌, map, subst}
use Rattle.std.specs.Option.{option_to_list}
use Rattle.sqlite.specs.Held.{state}
use Rattle.fuse_store_tables.specs.Content.{at_by, node_key, node_columns}
use Rattle.fuse_store_tables.proofs.Laid.{known_looks, known_found_as}
use Rattle.fuse_store_tables.proofs.Looks.{looked, failed}
use Rattle.fuse_store_tables.proofs.nodes.select_node.Goals as goal

pub returns-clause-looks : goal.returns-clause-looks
returns-clause-looks g c =
    looked (state g.S.Store c.args.conn.now) (state g.S.Store c.select_in.new.conn) c.select_in.result
    (known_looks c.layout_of-layout.result (state g.S.Store c.args.conn.now) (state g.S.Store c.select_in.new.conn) c.select_in.result
    c.layout_of-layout.ensures.value c.select_in.ensures.made)

pub returns-clause-fails : goal.returns-clause-fails
returns-clause-fails g c =
    failed (state g.S.Store c.args.conn.now) (state g.S.Store c.select_in.new.conn) c.select_in.result
    (known_looks c.layout_of-layout.result (state g.S.Store c.args.conn.now) (state g.S.Store c.select_in.new.conn) c.select_in.result
    c.layout_of-layout.ensures.value c.select_in.ensures.made)

pub returns-clause-found : goal.returns-clause-found
returns-clause-found g c = λ clean.
    known_found_as c.layout_of-layout.result (state g.S.Store c.args.conn.now) c.select_in.result
    (λ l k rows. rows.items ≡ map (node_columns l) (option_to_list (at_by node_key c.args.number_of k.nodes))) c.layout_of-layout.ensures.value
    (c.select_in.ensures.found clean)

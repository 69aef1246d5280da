use Rattle.std.proofs.Common.{◌≡◌, take, map, filter}
use Rattle.sqlite.specs.Held.{state}
use Rattle.fuse_store_tables.specs.Content.{shown_child, stands_after}
use Rattle.fuse_store_tables.proofs.Laid.{known_looks, known_found_as}
use Rattle.fuse_store_tables.proofs.Looks.{looked, failed}
use Rattle.fuse_store_tables.proofs.entries.select_children.Goals as goal

pub returns-clause-looks : goal.returns-clause-looks
returns-clause-looks g c =
    looked (state g.S.Store c.args.conn.now) (state g.S.Store c.children_in.new.conn) c.children_in.result
    (known_looks c.layout_of-layout.result (state g.S.Store c.args.conn.now) (state g.S.Store c.children_in.new.conn) c.children_in.result
    c.layout_of-layout.ensures.value (c.children_in.ensures.made c.args.dir c.args.cookie c.args.limit c.triple-values.ensures))

pub returns-clause-fails : goal.returns-clause-fails
returns-clause-fails g c =
    failed (state g.S.Store c.args.conn.now) (state g.S.Store c.children_in.new.conn) c.children_in.result
    (known_looks c.layout_of-layout.result (state g.S.Store c.args.conn.now) (state g.S.Store c.children_in.new.conn) c.children_in.result
    c.layout_of-layout.ensures.value (c.children_in.ensures.made c.args.dir c.args.cookie c.args.limit c.triple-values.ensures))

pub returns-clause-found : goal.returns-clause-found
returns-clause-found g c = λ clean.
    known_found_as c.layout_of-layout.result (state g.S.Store c.args.conn.now) c.children_in.result
    (λ l k rows. rows.items ≡ take c.args.limit (map (shown_child k) (filter (stands_after c.args.dir c.args.cookie) k.entries)))
    c.layout_of-layout.ensures.value (c.children_in.ensures.found c.args.dir c.args.cookie c.args.limit c.triple-values.ensures clean)

use Rattle.std.proofs.Common.{◌≡◌, List, map, Ok, Err, ◌∙◌}
use Rattle.std.specs.Prelude.{⊤}
use Rattle.sqlite.specs.Held.{state}
use Rattle.fuse_store_tables.specs.declared.version.Layout.TheVariants.{Second}
use Rattle.fuse_store_tables.specs.Migrating.{with_written}
use Rattle.fuse_store_tables.specs.inner.Columns.{given_node}
use Rattle.fuse_store_tables.specs.inner.Copies.{added_of}
use Rattle.fuse_store_tables.proofs.SecondReads.{looks_then, looks_told, looks_fail}
use Rattle.fuse_store_tables.proofs.everyday.read_nodes.Goals as goal

pub returns-in_err-nodes : goal.returns-in_err-nodes
returns-in_err-nodes g c =
    looks_fail (λ _. ⊤) (λ k rows. rows.items ≡ map (given_node Second) k.nodes) _ (state g.S.Store c.args.conn.now) (state g.S.Store c.select_nodes.new.conn) _
    c.from_residual.result c.from_residual.ensures.1 c.in_err-nodes.ensures

pub returns-in_err-added : goal.returns-in_err-added
returns-in_err-added g c =
    looks_fail (λ _. ⊤) _ _ (state g.S.Store c.args.conn.now) (state g.S.Store c.read_all_added.new.conn) _ c.from_residual-in_err-added.result
    c.from_residual-in_err-added.ensures.1
    (looks_then (λ _. ⊤) (λ k. c.as_slice.result.now ≡ map (given_node Second) k.nodes) (λ k rows. rows.items ≡ map (given_node Second) k.nodes)
    (λ k v. v.items ≡ map (λ n. added_of (with_written k.blocks n)) k.nodes) (state g.S.Store c.args.conn.now) (state g.S.Store c.select_nodes.new.conn)
    (state g.S.Store c.read_all_added.new.conn) c.in_ok-nodes.nodes (Err _) c.in_ok-nodes.ensures (λ k known found. c.as_slice.ensures.value ∙ found)
    c.in_err-added.ensures)

pub returns : goal.returns
returns g c =
    looks_told (λ _. ⊤) _ _ (state g.S.Store c.args.conn.now) (state g.S.Store c.read_all_added.new.conn) _ _ (λ k known found. found)
    (looks_then (λ _. ⊤) (λ k. c.as_slice.result.now ≡ map (given_node Second) k.nodes) (λ k rows. rows.items ≡ map (given_node Second) k.nodes)
    (λ k v. v.items ≡ map (λ n. added_of (with_written k.blocks n)) k.nodes) (state g.S.Store c.args.conn.now) (state g.S.Store c.select_nodes.new.conn)
    (state g.S.Store c.read_all_added.new.conn) c.in_ok-nodes.nodes (Ok _) c.in_ok-nodes.ensures (λ k known found. c.as_slice.ensures.value ∙ found)
    c.in_ok-added.ensures)

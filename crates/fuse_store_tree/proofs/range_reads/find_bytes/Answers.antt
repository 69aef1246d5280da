use Rattle.std.proofs.Common.{sym, ap, arith, ◌∙◌, ◌^◌}
use Rattle.sqlite.specs.Held.{state}
use Rattle.fuse_store_tables.specs.Content.{node_key}
use Rattle.fuse_store_tree.specs.inner.Laws.{looked_then, looked_fails}
use Rattle.fuse_store_tree.specs.inner.Reading.{bytes_told}
use Rattle.fuse_store_tree.proofs.Looks.{none_found, all_map, always_err}
use Rattle.fuse_store_tree.proofs.range_reads.find_bytes.Goals as goal

pub returns-then-node-ge-END-clause-value : goal.returns-then-node-ge-END-clause-value
returns-then-node-ge-END-clause-value g c clean read k at sound =
    c.from_vec.ensures ∙ c.new.ensures.items
    ∙ sym (ap (λ o. bytes_told (g.C.Contents.file c.args.contents.now).bytes o k c.args.node c.args.offset c.args.len) (none_found node_key c.args.node (2 ^ 63)
    k.nodes (omega (arith, c.if-node-ge-END.true)) (all_map _ _ k.nodes (λ x p. p.node) sound.0.nodes)))

pub returns-in_err-bytes-clause-fails : goal.returns-in_err-bytes-clause-fails
returns-in_err-bytes-clause-fails g c =
    always_err c.from_residual-in_err-bytes.result _
    (looked_fails (state g.S.Store c.args.conn.now) (state g.S.Store c.find_node.new.conn) (state g.S.Store c.find_sized.new.conn) c.in_ok-row.ensures.looks
    c.in_err-bytes.ensures.fails)

pub returns-clause-looks : goal.returns-clause-looks
returns-clause-looks g c =
    looked_then (state g.S.Store c.args.conn.now) (state g.S.Store c.find_node.new.conn) (state g.S.Store c.find_sized.new.conn) c.in_ok-row.ensures.looks
    c.in_ok-bytes.ensures.looks

use Rattle.std.proofs.Common.{◌≡◌, [], Option, Some, ap, IfSome}
use Rattle.fuse_rows.specs.declared.rows.NodeRow.{NodeRow}
use Rattle.fuse_store_tables.specs.Faults.{IsOutside}
use Rattle.fuse_store_tree.specs.Fits.{KeepsNode}
use Rattle.fuse_store_tree.proofs.Children.{first_is}
use Rattle.fuse_store_tree.proofs.rows.read_node.Goals as goal

pub returns-in-Err-clause-fault : goal.returns-in-Err-clause-fault
returns-in-Err-clause-fault c o keeps is =
    first_is c.args.layout (λ p. IfSome p (KeepsNode c.args.layout) → IsOutside c.in-Err.fault) c.args.rows.now c.in-Some.row.now c.in-Some.ensures.value o is
    (λ n row known. c.in-Err.ensures.fault n [] known.widths row) keeps

pub returns-in-Ok-clause-value : goal.returns-in-Ok-clause-value
returns-in-Ok-clause-value c o keeps is =
    first_is c.args.layout (λ p. IfSome p (λ n. KeepsNode c.args.layout n × (n.node ≡ c.args.number)) → ◌≡◌ {A = Option NodeRow} (Some c.in-Ok.found) p) c.args.rows.now c.in-Some.row.now
    c.in-Some.ensures.value o is (λ n row known. ap Some (c.in-Ok.ensures.value n [] known.0.widths known.0.count known.1 row)) keeps

use Rattle.std.proofs.Common.{◌≡◌, Option, Some, ap, IfSome}
use Rattle.fuse_rows.specs.declared.rows.NodeRow.{NodeRow}
use Rattle.fuse_store_tables.specs.Content.{HasWidths, HasCount}
use Rattle.fuse_store_tables.specs.Faults.{IsOutside}
use Rattle.fuse_store_tables.proofs.ChildRows.{at_node}
use Rattle.fuse_store_tables.proofs.columns.node_if_any.Goals as goal

pub returns-in-Err-clause-fault : goal.returns-in-Err-clause-fault
returns-in-Err-clause-fault c o more fits is =
    at_node c.args.row.now more c.in_ok-mode.mode _ c.in_ok-mode.ensures.ok c.in-Some.is c.args.layout o is (λ o. IfSome o HasWidths → IsOutside c.in-Err.fault)
    (λ n is fits. c.in-Err.ensures.fault n more fits is) fits

pub returns-in-Ok-clause-value : goal.returns-in-Ok-clause-value
returns-in-Ok-clause-value c o more fits is =
    at_node c.args.row.now more c.in_ok-mode.mode _ c.in_ok-mode.ensures.ok c.in-Some.is c.args.layout o is
    (λ o. IfSome o (λ n. HasWidths n × HasCount c.args.layout n × (n.node ≡ c.args.node)) → ◌≡◌ {A = Option NodeRow} (Some c.in-Ok.found) o)
    (λ n is fits. ap Some (c.in-Ok.ensures.value n more fits.0 fits.1 fits.2 is)) fits

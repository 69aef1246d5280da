use Rattle.std.proofs.Common.{◌≡◌, ◌∙◌}
use Rattle.std.specs.List.{sum_by}
use Rattle.sqlite.specs.Held.{state}
use Rattle.fuse_tree.specs.Rowed.{rowed}
use Rattle.fuse_store_tree.proofs.Rests.{rests_for, describes_for, safe_for, sizes_held}
use Rattle.fuse_store_tree.proofs.reads.size_at_rest.Goals as goal

pub returns-clause-value : goal.returns-clause-value
returns-clause-value g c =
    describes_for (state g.S.Store c.args.conn.now) (state g.S.Store c.sum_sizes.new.conn) c.sum_sizes.result (λ n k. n ≡ sum_by (λ x. x.size) k.nodes)
    (λ n y. n ≡ sum_by (λ f. f.row.size) (rowed y.tree).nodes)
    (λ file n y at is. is ∙ sizes_held c.rows_in_order.ensures file y (state g.S.Store c.args.conn.now) at) c.sum_sizes.ensures.value

pub returns-clause-serves : goal.returns-clause-serves
returns-clause-serves g c file = rests_for file (state g.S.Store c.args.conn.now) (state g.S.Store c.sum_sizes.new.conn) c.sum_sizes.result c.sum_sizes.ensures.rests

pub returns-clause-open : goal.returns-clause-open
returns-clause-open g c = c.sum_sizes.ensures.open

pub returns-clause-fault : goal.returns-clause-fault
returns-clause-fault g c file = safe_for file (state g.S.Store c.args.conn.now) (state g.S.Store c.sum_sizes.new.conn) c.sum_sizes.result c.sum_sizes.ensures.fault

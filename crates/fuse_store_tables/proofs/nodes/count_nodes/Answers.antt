use Rattle.std.proofs.Common.{◌≡◌, [], ◌∷◌, ◌∙◌}
use Rattle.sqlite.specs.Held.{state}
use Rattle.fuse_store_tables.specs.Clearing.{counted_to}
use Rattle.fuse_store_tables.specs.Content.{Holds}
use Rattle.fuse_store_tables.specs.inner.Columns.{shown_number}
use Rattle.fuse_store_tables.proofs.Joining.{sure_here, told_of}
use Rattle.fuse_store_tables.proofs.nodes.count_nodes.Goals as goal

pub returns-clause-fault : goal.returns-clause-fault
returns-clause-fault g c =
    sure_here Holds (state g.S.Store c.args.conn.now) (state g.S.Store c.select_count.new.conn) c.the_number.result
    (λ clean k at. told_of (λ m. c.as_slice.result.now ≡ shown_number m ∷ []) c.the_number.result c.the_number.ensures.fault (counted_to k.nodes)
    (c.as_slice.ensures.value ∙ c.in_ok-rows.ensures.found clean k at))

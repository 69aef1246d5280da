use Rattle.std.proofs.Common.{arith, ◌∙◌}
use Rattle.std.proofs.Common.{◌≤◌}
use Rattle.sqlite.specs.Held.{state}
use Rattle.fuse_store_tree.proofs.Looks.{map_ok, map_err}
use Rattle.fuse_store_tree.proofs.RowsShown.{blocks_shown, block_shown}
use Rattle.fuse_store_tree.proofs.range_reads.find_blocks.Goals as goal

pub returns-then-to-from-clause-value : goal.returns-then-to-from-clause-value
returns-then-to-from-clause-value g c clean k at block from low = absurd (let less = c.if-to-from.true in omega (arith, less, from, low))

pub returns-clause-value : goal.returns-clause-value
returns-clause-value g c clean =
    map_ok c.read_blocks.result _ _ (λ v told k at block from low.
    let shows = c.in_ok-rows.ensures.found clean k at in
    let less = c.if-to-from.false in
    told shows.ordered (c.as_slice.ensures.value ∙ blocks_shown c.args.node c.args.from c.args.to k.blocks c.in_ok-rows.rows.items (omega (arith, less)) shows) block
    ∙ block_shown c.args.node c.args.from c.args.to block k.blocks c.in_ok-rows.rows.items from low shows) c.read_blocks.ensures.value

pub returns-clause-fault : goal.returns-clause-fault
returns-clause-fault g c clean =
    map_err c.read_blocks.result _ _ (λ f told k at.
    let shows = c.in_ok-rows.ensures.found clean k at in
    let less = c.if-to-from.false in
    told shows.ordered (c.as_slice.ensures.value ∙ blocks_shown c.args.node c.args.from c.args.to k.blocks c.in_ok-rows.rows.items (omega (arith, less)) shows))
    c.read_blocks.ensures.fault

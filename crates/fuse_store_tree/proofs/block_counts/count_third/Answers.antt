use Rattle.std.proofs.Common.{arith}
use Rattle.fuse_store_tree.proofs.Looks.{map_ok}
use Rattle.fuse_store_tree.proofs.BlocksCounted.{not_above}
use Rattle.fuse_store_tree.proofs.block_counts.count_third.Goals as goal

pub returns-then-node-ge-END-clause-value : goal.returns-then-node-ge-END-clause-value
returns-then-node-ge-END-clause-value g c clean file k at sound low = absurd (let high = c.if-node-ge-END.true in omega (arith, high, low))

pub returns-clause-value : goal.returns-clause-value
returns-clause-value g c clean =
    map_ok c.count_to_end.result _ _ (λ n told file k at sound low. rw c.below_end.ensures at (told file k at sound)) (c.count_to_end.ensures.value clean)

pub returns-clause-high : goal.returns-clause-high
returns-clause-high g c = not_above c.count_to_end.result c.args.node (let low = c.if-node-ge-END.false in omega (arith, low))

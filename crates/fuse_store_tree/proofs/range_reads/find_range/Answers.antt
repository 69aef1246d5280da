use Rattle.sqlite.specs.Held.{state}
use Rattle.fuse_store_tree.proofs.Looks.{map_ok, map_err}
use Rattle.fuse_store_tree.proofs.range_reads.find_range.Goals as goal

pub returns-in-Ok-clause-value : goal.returns-in-Ok-clause-value
returns-in-Ok-clause-value g c clean read =
    let file = (g.C.Contents.file c.read_stored.new.contents).bytes in
    map_ok c.read_stored.result _ _ (λ v told k at sound.
    told c.args.node k (λ block from low. c.in-Ok.ensures.value clean file k at sound block from (c.end_block.ensures.above block low)) sound)
    (c.read_stored.ensures.value read)

pub returns-in-Ok-clause-fault : goal.returns-in-Ok-clause-fault
returns-in-Ok-clause-fault g c clean read =
    let file = (g.C.Contents.file c.read_stored.new.contents).bytes in
    map_err c.read_stored.result _ _ (λ f told k at sound.
    told c.args.node k (λ block from low. c.in-Ok.ensures.value clean file k at sound block from (c.end_block.ensures.above block low)) sound)
    (c.read_stored.ensures.fault read)

pub returns-in-Err-clause-fault : goal.returns-in-Err-clause-fault
returns-in-Err-clause-fault g c clean read k at sound = c.in-Err.ensures.fault clean (g.C.Contents.file c.args.contents.now).bytes k at sound

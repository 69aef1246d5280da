use Rattle.fuse_store_tables.proofs.ProfileRows.{apart_of}
use Rattle.fuse_store_tables.proofs.to_count.blocks_are_apart.Goals as goal

pub returns : goal.returns
returns c = apart_of

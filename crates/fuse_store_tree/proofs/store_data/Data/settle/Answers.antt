use Rattle.std.proofs.Common.{refl}
use Rattle.fuse_store_tree.proofs.store_data.Data.settle.Goals as goal

pub returns-clause-synced : goal.returns-clause-synced
returns-clause-synced g c = c.sync_if.ensures.lasts refl

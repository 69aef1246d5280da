use Rattle.fuse_store_tables.proofs.Profiles.{everyday_whole, everyday_fault}
use Rattle.fuse_store_tables.proofs.profile.check_everyday.Goals as goal

pub returns-clause-whole : goal.returns-clause-whole
returns-clause-whole c =
    everyday_whole c.args.meta.now c.args.count c.requires c.check_room.result c.in_ok-check_rows.ensures.whole c.check_room.ensures.whole

pub returns-clause-fault : goal.returns-clause-fault
returns-clause-fault c =
    everyday_fault c.args.meta.now c.args.count c.requires c.check_room.result c.in_ok-check_rows.ensures.whole c.check_room.ensures.fault

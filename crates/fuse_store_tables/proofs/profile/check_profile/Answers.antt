use Rattle.fuse_store_tables.proofs.Profiles.{second_whole, second_fault, third_whole, third_fault}
use Rattle.fuse_store_tables.proofs.profile.check_profile.Goals as goal

pub returns-in-Second-clause-whole : goal.returns-in-Second-clause-whole
returns-in-Second-clause-whole c =
    second_whole c.args.meta.now c.args.layout c.check_second_profile.result c.in-Second.is c.check_second_profile.ensures.whole

pub returns-in-Second-clause-fault : goal.returns-in-Second-clause-fault
returns-in-Second-clause-fault c =
    second_fault c.args.meta.now c.args.layout c.check_second_profile.result c.in-Second.is c.check_second_profile.ensures.fault

pub returns-in-Third-clause-whole : goal.returns-in-Third-clause-whole
returns-in-Third-clause-whole c = third_whole c.args.meta.now c.args.layout c.check_everyday.result c.in-Third.is c.check_everyday.ensures.whole

pub returns-in-Third-clause-fault : goal.returns-in-Third-clause-fault
returns-in-Third-clause-fault c = third_fault c.args.meta.now c.args.layout c.check_everyday.result c.in-Third.is c.check_everyday.ensures.fault

use Rattle.std.proofs.Common.{sym, ◌∙◌}
use Rattle.fuse_init.specs.declared.profile.Profile.TheVariants.{Plain, Everyday}
use Rattle.fuse_store_tables.proofs.Profiles.{profile_whole, profile_fault, plain_whole, plain_fault}
use Rattle.fuse_store_tables.proofs.profile.check_second_profile.Goals as goal

pub returns-in-Plain-clause-whole : goal.returns-in-Plain-clause-whole
returns-in-Plain-clause-whole c =
    profile_whole c.args.meta.now Plain (sym c.profile_by.ensures ∙ c.in-Plain.is) c.check_rows.result
    (plain_whole c.args.meta.now c.check_rows.result c.check_rows.ensures.whole)

pub returns-in-Everyday-clause-whole : goal.returns-in-Everyday-clause-whole
returns-in-Everyday-clause-whole c =
    profile_whole c.args.meta.now Everyday (sym c.profile_by.ensures ∙ c.in-Everyday.is) c.check_everyday.result c.check_everyday.ensures.whole

pub returns-in-Plain-clause-fault : goal.returns-in-Plain-clause-fault
returns-in-Plain-clause-fault c =
    profile_fault c.args.meta.now Plain (sym c.profile_by.ensures ∙ c.in-Plain.is) c.check_rows.result
    (plain_fault c.args.meta.now c.check_rows.result c.check_rows.ensures.fault)

pub returns-in-Everyday-clause-fault : goal.returns-in-Everyday-clause-fault
returns-in-Everyday-clause-fault c =
    profile_fault c.args.meta.now Everyday (sym c.profile_by.ensures ∙ c.in-Everyday.is) c.check_everyday.result c.check_everyday.ensures.fault

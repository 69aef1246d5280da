use Rattle.std.proofs.Common.{◌∙◌}
use Rattle.fuse_session.proofs.Groups.{last_is}
use Rattle.fuse_session.proofs.group.ends_well.Goals as goal

pub returns-in-Some : goal.returns-in-Some
returns-in-Some c = c.has_no_error.ensures ∙ last_is c.args.dones.now c.in-Some.done.now c.in-Some.ensures.value

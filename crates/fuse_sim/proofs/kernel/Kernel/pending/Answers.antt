use Rattle.std.proofs.Common.{map, ap, ◌∙◌}
use Rattle.fuse_request.specs.Canon.{canon}
use Rattle.fuse_sim.specs.Pending.{messages_in}
use Rattle.fuse_sim.proofs.Pendings.{pending_canon}
use Rattle.fuse_sim.proofs.kernel.Kernel.pending.Goals as goal

pub returns : goal.returns
returns c = ap messages_in c.as_slice.ensures.value ∙ pending_canon _ c.self.invariant ∙ ap (map canon) c.self.view_is

use Rattle.std.proofs.Common.{sym, subst, ◌∙◌}
use Rattle.std.proofs.lemmas.List.{with_items_is}
use Rattle.fuse_sim.specs.KeptMessages.{ArePending}
use Rattle.fuse_sim.proofs.Pendings.{all_marked}
use Rattle.fuse_sim.proofs.kernel.Kernel.resend.Goals as goal

pub invariant_of-self : goal.invariant_of-self
invariant_of-self c =
    let is = with_items_is c.self.inside.pending c.mark_all.new.pending (c.mark_all.auto.pending ∙ c.as_mut_slice.ensures.len) in
    subst ArePending (sym is) (all_marked _ c.mark_all.new.pending _ (subst ArePending (sym c.as_mut_slice.ensures.value) c.self.invariant)
    c.mark_all.ensures.owed c.mark_all.ensures.says)

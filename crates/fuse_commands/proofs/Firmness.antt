-- A keeper is as firm after the notices of `resume` as before.
use Rattle.std.proofs.Common.{sym, subst}
use Rattle.fuse_keeper.specs.KeeperState.{WhereHeld, IsFirm}
use Rattle.fuse_commands.specs.declared.serve.Begin.{Begin}
use Rattle.fuse_commands.specs.declared.serve.Begin.TheVariants.{Fresh, Resume}
use Rattle.fuse_keeper.specs.Model.{Model}
use Rattle.fuse_commands.specs.ServingRuns.{Views, Between, BeginsServing}

pub begun_firm : {M : Model} {K P : Type 0} (v : Views M K P) (b : Between K P) (begin : Begin) → BeginsServing begin v b → (v.keeper b.keeper').is_honest
    → WhereHeld (v.keeper b.keeper) (IsFirm (v.keeper b.keeper) → IsFirm (v.keeper b.keeper'))
begun_firm v b Resume begins honest rows records held firm = begins.firm honest rows records held firm
begun_firm v b Fresh begins honest rows records held firm = subst (λ k. IsFirm (v.keeper k)) (sym begins.0) firm

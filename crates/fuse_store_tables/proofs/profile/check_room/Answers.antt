use Rattle.std.proofs.Common.{arith}
use Rattle.fuse_init.specs.declared.profile.Profile.TheVariants.{Everyday}
use Rattle.fuse_store_tables.specs.Opening.{HasRoomOf}
use Rattle.fuse_store_tables.specs.inner.Checking.{IsMetaIn}
use Rattle.fuse_store_tables.proofs.Checks.{fewer}
use Rattle.fuse_store_tables.proofs.Profiles.{fault_back}
use Rattle.fuse_store_tables.proofs.profile.check_room.Goals as goal

pub returns-in_err-profile-clause-fault : goal.returns-in_err-profile-clause-fault
returns-in_err-profile-clause-fault c =
    fault_back (IsMetaIn c.args.meta.now 14) (HasRoomOf Everyday) _ c.from_residual.result c.from_residual.ensures.1
    (λ k is. c.in_err-profile.ensures.fault k (fewer c.args.meta.now 14 12 k (omega arith) is))

pub returns-in_err-capacity-clause-fault : goal.returns-in_err-capacity-clause-fault
returns-in_err-capacity-clause-fault c =
    fault_back (IsMetaIn c.args.meta.now 14) (HasRoomOf Everyday) _ c.from_residual-in_err-capacity.result c.from_residual-in_err-capacity.ensures.1
    (λ k is. c.in_err-capacity.ensures.fault k (fewer c.args.meta.now 14 13 k (omega arith) is))

pub returns-in_err-used-clause-fault : goal.returns-in_err-used-clause-fault
returns-in_err-used-clause-fault c =
    fault_back (IsMetaIn c.args.meta.now 14) (HasRoomOf Everyday) _ c.from_residual-in_err-used.result c.from_residual-in_err-used.ensures.1
    c.in_err-used.ensures.fault

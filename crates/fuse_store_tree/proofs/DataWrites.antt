-- Which faults a write or a sync of the data file may have.
use Rattle.std.proofs.Common.{Bool, ℕ, List}
use Rattle.fuse_data.specs.declared.fault.DataFault.{DataFault}
use Rattle.fuse_data.specs.declared.fault.DataFault.TheVariants as data_faults
use Rattle.fuse_data.specs.declared.gaps.Gap.{Gap}
use Rattle.fuse_data.specs.Causes.{FailsToWrite, FailsToAsk}
use Rattle.fuse_data.specs.Extents.{AreBlocks}
use Rattle.fuse_store_tables.specs.Faults.{IsOutside}
use Rattle.fuse_store_tree.specs.DataFaults.{fault_of_data}

-- a write of whole blocks says nothing of the store
pub write_outside : (usable : Bool) (gaps : List Gap) (len : ℕ) (f : DataFault) → AreBlocks len → FailsToWrite usable gaps len f → IsOutside (fault_of_data f)
write_outside usable gaps len (data_faults.Disk e) are fails = tt
write_outside usable gaps len data_faults.Memory are fails = tt
write_outside usable gaps len data_faults.Unusable are fails = tt
write_outside usable gaps len data_faults.Full are fails = tt
write_outside usable gaps len data_faults.Foreign are fails = absurd fails
write_outside usable gaps len data_faults.NotBlocks are fails = absurd (fails.1 are)
write_outside usable gaps len (data_faults.Overlapping q) are fails = absurd fails
write_outside usable gaps len (data_faults.Beyond q) are fails = absurd fails
write_outside usable gaps len (data_faults.Damaged q) are fails = absurd fails
write_outside usable gaps len (data_faults.NotInUse q) are fails = absurd fails

pub sync_outside : (usable : Bool) (f : DataFault) → FailsToAsk usable f → IsOutside (fault_of_data f)
sync_outside usable (data_faults.Disk e) fails = tt
sync_outside usable data_faults.Memory fails = tt
sync_outside usable data_faults.Unusable fails = tt
sync_outside usable data_faults.Full fails = tt
sync_outside usable data_faults.Foreign fails = absurd fails
sync_outside usable data_faults.NotBlocks fails = absurd fails
sync_outside usable (data_faults.Overlapping q) fails = absurd fails
sync_outside usable (data_faults.Beyond q) fails = absurd fails
sync_outside usable (data_faults.Damaged q) fails = absurd fails
sync_outside usable (data_faults.NotInUse q) fails = absurd fails

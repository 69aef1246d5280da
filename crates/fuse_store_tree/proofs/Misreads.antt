-- Which faults a read of the data file may have.
use Rattle.std.proofs.Common.{◌≡◌, ◌*◌, ℕ, Bool, List, IsTrue}
use Rattle.fuse_data.specs.declared.extent.Extent.{Extent}
use Rattle.fuse_data.specs.declared.extent.TheConstants.{BLOCK}
use Rattle.fuse_data.specs.declared.fault.DataFault.{DataFault}
use Rattle.fuse_data.specs.declared.fault.DataFault.TheVariants as data_faults
use Rattle.fuse_data.specs.Causes.{FailsToRead}
use Rattle.fuse_data.specs.Extents.{IsWhole}
use Rattle.fuse_store_tables.specs.Faults.{IsOutside}
use Rattle.fuse_store_tree.specs.DataFaults.{fault_of_data}

-- of an extent that is whole, where nothing was misread, it says nothing of the store
pub outside : (usable clean : Bool) (file : List ℕ) (p : Extent) (len : ℕ) (f : DataFault) → IsTrue clean → IsWhole file p → len ≡ p.count * BLOCK
    → FailsToRead usable clean file p len f → IsOutside (fault_of_data f)
outside usable clean file p len (data_faults.Disk e) read whole long fails = tt
outside usable clean file p len data_faults.Memory read whole long fails = tt
outside usable clean file p len data_faults.Unusable read whole long fails = tt
outside usable clean file p len data_faults.Full read whole long fails = tt
outside usable clean file p len data_faults.Foreign read whole long fails = absurd fails
outside usable clean file p len data_faults.NotBlocks read whole long fails = absurd (fails.2 long)
outside usable clean file p len (data_faults.Overlapping q) read whole long fails = absurd fails
outside usable clean file p len (data_faults.Beyond q) read whole long fails = absurd fails
outside usable clean file p len (data_faults.Damaged q) read whole long fails = absurd (fails.2 read whole)
outside usable clean file p len (data_faults.NotInUse q) read whole long fails = absurd fails

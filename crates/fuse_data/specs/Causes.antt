-- Why a call of the data file fails, by its fault (defined by this project). A fault of the disk shows in its counts as well; of a refused
-- allocation nothing is known.
use Rattle.std.specs.Prelude.{◌≡◌, ℕ, ◌*◌, ◌<◌, Bool, false, IsTrue, ⊤, List, length}
use Rattle.std.specs.List.{Contains}
use Rattle.fuse_data.specs.declared.extent.Extent.{Extent}
use Rattle.fuse_data.specs.declared.extent.TheConstants.{BLOCK}
use Rattle.fuse_data.specs.declared.gaps.Gap.{Gap}
use Rattle.fuse_data.specs.declared.fault.DataFault.{DataFault}
use Rattle.fuse_data.specs.declared.fault.DataFault.TheVariants.{Disk, Memory, Unusable, Foreign, Full, NotBlocks, Overlapping, Beyond, Damaged, NotInUse}
use Rattle.fuse_data.specs.Extents.{past, IsPlaced, AreBlocks, IsWhole, AreByPlace}
use Rattle.fuse_data.specs.Space.{IsFreeExtent, InUse}
use Rattle.fuse_data.specs.Header.{HasHeader}

-- `sync` and `cut`, which only ask the disk
abbrev pub FailsToAsk : Bool → DataFault → Type 0
FailsToAsk usable (Disk e) = IsTrue usable
FailsToAsk usable Unusable = usable ≡ false
FailsToAsk usable f = ⊥

abbrev pub FailsToCreate : Bool → DataFault → Type 0
FailsToCreate usable (Disk e) = IsTrue usable
FailsToCreate usable Memory = IsTrue usable
FailsToCreate usable Unusable = usable ≡ false
FailsToCreate usable f = ⊥

-- so many bytes
abbrev pub FailsToWrite : Bool → List Gap → ℕ → DataFault → Type 0
FailsToWrite usable gaps len (Disk e) = IsTrue usable
FailsToWrite usable gaps len Unusable = usable ≡ false
FailsToWrite usable gaps len NotBlocks = IsTrue usable × ¬ AreBlocks len
FailsToWrite usable gaps len Full = IsTrue usable × AreBlocks len × ((p : Extent) → p.count * BLOCK ≡ len → ¬ IsFreeExtent gaps p)
FailsToWrite usable gaps len f = ⊥

-- of this file, where the disk is clean, into so many bytes
abbrev pub FailsToRead : Bool → Bool → List ℕ → Extent → ℕ → DataFault → Type 0
FailsToRead usable clean file p len (Disk e) = IsTrue usable × IsPlaced p
FailsToRead usable clean file p len Unusable = usable ≡ false
FailsToRead usable clean file p len NotBlocks = IsTrue usable × IsPlaced p × ¬ (len ≡ p.count * BLOCK)
FailsToRead usable clean file p len (Damaged q) = IsTrue usable × (q ≡ p) × (IsTrue clean → ¬ IsWhole file p)
FailsToRead usable clean file p len f = ⊥

abbrev pub FailsToGiveBack : List Gap → Extent → DataFault → Type 0
FailsToGiveBack gaps p Memory = IsPlaced p × InUse gaps p
FailsToGiveBack gaps p (NotInUse q) = (q ≡ p) × ¬ (IsPlaced p × InUse gaps p)
FailsToGiveBack gaps p f = ⊥

-- the listed extents don't fit into so many blocks, or not beside each other
abbrev pub FailsToFit : List Extent → ℕ → DataFault → Type 0
FailsToFit listed blocks Memory = ⊤
FailsToFit listed blocks (Overlapping p) = Contains listed p × ¬ AreByPlace 1 listed
FailsToFit listed blocks (Beyond p) = Contains listed p × (blocks < past p)
FailsToFit listed blocks f = ⊥

-- this file, where the disk is clean, as that of this store
abbrev pub FailsToOpen : Bool → Bool → List ℕ → ℕ → List Extent → DataFault → Type 0
FailsToOpen usable clean file store listed (Disk e) = IsTrue usable
FailsToOpen usable clean file store listed Memory = IsTrue usable
FailsToOpen usable clean file store listed Unusable = usable ≡ false
FailsToOpen usable clean file store listed Foreign = IsTrue usable × (IsTrue clean → ¬ HasHeader store file)
FailsToOpen usable clean file store listed (Overlapping p) = IsTrue usable × Contains listed p × ¬ AreByPlace 1 listed
FailsToOpen usable clean file store listed (Beyond p) = IsTrue usable × Contains listed p × (IsTrue clean → length file < past p * BLOCK)
FailsToOpen usable clean file store listed f = ⊥

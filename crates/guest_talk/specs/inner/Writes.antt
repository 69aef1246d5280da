-- Frames of the engine, as they are written down (defined by this project).
use Rattle.std.specs.Prelude.{◌≡◌, ◌+◌, ◌⊎◌, Some}
use Rattle.fuse_keeper.specs.declared.fault.StoreFault.{StoreFault}
use Rattle.fuse_keeper.specs.declared.fault.StoreFault.TheVariants as stores
use Rattle.guest_frames.specs.Frames.{Frame, frame_bytes, frame_kind, IsFrame, IsLimited}
use Rattle.fuse_guest.specs.Pairs.{Pairs}
use Rattle.fuse_guest.specs.Telling.{told_for}
use Rattle.guest_talk.specs.declared.outgoing.Outgoing.{Outgoing}

pub record IsWritten (f : Frame) (out : Outgoing) : Type 0 where
  pub whole : IsFrame f
  pub kind : out.kind ≡ frame_kind f
  pub bytes : out.bytes.items ≡ frame_bytes f

-- there was no memory, or the frame is beyond the limits
abbrev pub IsNotWritten : Frame → StoreFault → Type 0
IsNotWritten f stores.Memory = Unit {0}
IsNotWritten f stores.Damaged = IsLimited f → ⊥
IsNotWritten f _ = ⊥

-- it is the frame that a query gets
pub record IsToldBy (shown : Pairs → Type 0) (query told : Frame) : Type 0 where
  pub whole : IsFrame told
  pub kind : frame_kind told ≡ frame_kind query + 1
  pub shows : (ps : Pairs) → shown ps → told_for ps query ≡ Some told

pub record IsToldIn (shown : Pairs → Type 0) (query : Frame) (out : Outgoing) : Type 0 where
  pub told : Frame
  pub is : IsToldBy shown query told
  pub written : IsWritten told out

-- a store that shows pairs may answer this fault, or there was no memory
abbrev pub IsStoreFault : (Pairs → Type 0) → (StoreFault → Type 0) → StoreFault → Type 0
IsStoreFault shown may_answer fault = (ps : Pairs) → shown ps → (fault ≡ stores.Memory) ⊎ may_answer fault

-- What reads of frames gave (defined by this project).
use Rattle.std.specs.Prelude.{◌≡◌, ℕ, true, List, length, Option, Some, Ok}
use Rattle.std.specs.Io.KnownBytes.{Consumes}
use Rattle.fuse_wire.specs.Bytes.{IsBytes}
use Rattle.fuse_keeper.specs.declared.fault.StoreFault.TheVariants as stores
use Rattle.guest_frames.specs.declared.guest_head.GuestHead.{GuestHead}
use Rattle.guest_frames.specs.declared.guest_kind.GuestKind.{GuestKind}
use Rattle.guest_frames.specs.Frames.{Frame, frame_bytes, frame_kind, IsFrame, SpellsFrame}
use Rattle.guest_frames.specs.Kinds.{kind_number}
use Rattle.guest_frames.specs.Heads.{guest_head_in}
use Rattle.guest_talk.specs.declared.fault.AskFault.{AskFault}
use Rattle.guest_talk.specs.declared.fault.AskFault.TheVariants as faults
use Rattle.guest_talk.specs.declared.due.Due.{Due}
use Rattle.guest_talk.specs.declared.due.Due.TheVariants as due
use Rattle.guest_talk.specs.Bytes.{Kinds, ready_alone, all_but_ready, ReadsFault}

-- the kinds that are due
abbrev pub due_kinds : Due → Kinds
due_kinds due.Ready = ready_alone
due_kinds due.Others = all_but_ready

-- these bytes were read, and are a head of a kind that is due
pub record ReadsHead (due : Due) (old new : Option (List ℕ)) (head : GuestHead) : Type 0 where
  pub bytes : List ℕ
  pub are : IsBytes bytes
  pub long : length bytes ≡ 8
  pub is : guest_head_in bytes ≡ Ok (Some head)
  pub of_due : due_kinds due head.kind ≡ true
  pub came : Consumes old new bytes

-- a payload is that of a frame of this kind
pub record IsSpelled (kind : GuestKind) (payload : List ℕ) : Type 0 where
  pub f : Frame
  pub of_kind : frame_kind f ≡ kind_number kind
  pub spelled : SpellsFrame f payload

-- a frame was read
pub record ReadsWhole (old new : Option (List ℕ)) (f : Frame) : Type 0 where
  pub whole : IsFrame f
  pub came : Consumes old new (frame_bytes f)

abbrev pub ReadsNot : Due → Option (List ℕ) → Option (List ℕ) → AskFault → Type 0
ReadsNot due old new (faults.Store fault) = fault ≡ stores.Memory
ReadsNot due old new (faults.Guest fault) = ReadsFault (due_kinds due) old new fault
ReadsNot due old new faults.Unsayable = ⊥

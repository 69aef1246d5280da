-- Laws of frames (defined by this project: the guest protocol, 'Frames').
use Rattle.std.specs.Prelude.{◌≡◌, ◌++◌, ℕ, List, length, drop, Some, Ok}
use Rattle.fuse_wire.specs.Bytes.{IsBytes}
use Rattle.guest_frames.specs.declared.guest_head.GuestHead.{GuestHead}
use Rattle.guest_frames.specs.declared.guest_kind.GuestKind.{GuestKind}
use Rattle.guest_frames.specs.Kinds.{kind_number}
use Rattle.guest_frames.specs.Frames.{Frame, frame_kind, frame_bytes, IsFrame, SpellsFrame}
use Rattle.guest_frames.specs.Heads.{guest_head_in}
use Rattle.guest_frames.specs.Reading.{payload_in}

-- a stream begins with one frame at most, of the guest or of the engine; what follows the head of a frame spells it, and where a head is
-- followed by a payload of its kind and length, these bytes are that frame; a payload that spells a frame of a guest is read as that frame
pub record FramesStand : Type 0 where
  pub one : (f g : Frame) (x y : List ℕ) → IsFrame f → IsFrame g → frame_bytes f ++ x ≡ frame_bytes g ++ y → (f ≡ g) × (x ≡ y)
  pub payload : (f : Frame) → IsFrame f → SpellsFrame f (drop 8 (frame_bytes f))
  pub whole : (b : List ℕ) (h : GuestHead) (f : Frame) → IsBytes b → guest_head_in b ≡ Ok (Some h) → length b ≡ h.len
      → frame_kind f ≡ kind_number h.kind → SpellsFrame f (drop 8 b) → IsFrame f × (b ≡ frame_bytes f)
  pub read : (kind : GuestKind) (b : List ℕ) (f : Frame) → frame_kind f ≡ kind_number kind → SpellsFrame f b → payload_in kind b ≡ Ok f

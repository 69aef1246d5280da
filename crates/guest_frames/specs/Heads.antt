-- The first 8 bytes of a guest's frame, and their faults (defined by this project: the guest protocol, 'Frames').
use Rattle.std.specs.Prelude.{◌≡◌, ◌++◌, ℕ, nat_lt, if◌then◌else◌, List, length, Option, Some, None, Result, Ok, Err}
use Rattle.guest_frames.specs.declared.fault.GuestFault.{GuestFault}
use Rattle.guest_frames.specs.declared.fault.GuestFault.TheVariants as faults
use Rattle.guest_frames.specs.declared.guest_head.GuestHead.{GuestHead}
use Rattle.guest_frames.specs.declared.guest_kind.GuestKind.{GuestKind}
use Rattle.guest_frames.specs.Limits.{max_frame_len}
use Rattle.guest_frames.specs.Kinds.{guest_kind_of}
use Rattle.guest_frames.specs.Frames.{Frame, frame_bytes}
use Rattle.guest_frames.specs.Reading.{word_at}

abbrev pub head_of : ℕ → ℕ → Option GuestKind → Result (Option GuestHead) GuestFault
head_of len number None = Err (faults.NotDue number)
head_of len number (Some kind) = Ok (Some (record { len = len; kind = kind }))

-- None where there are fewer than 8 bytes yet; a wrong length is known by the first 4
abbrev pub guest_head_in : List ℕ → Result (Option GuestHead) GuestFault
guest_head_in b =
    if nat_lt (length b) 4 then Ok None
    else if nat_lt (word_at 0 b) 8 then Err (faults.Length (word_at 0 b))
    else if nat_lt max_frame_len (word_at 0 b) then Err (faults.Length (word_at 0 b))
    else if nat_lt (length b) 8 then Ok None
    else head_of (word_at 0 b) (word_at 4 b) (guest_kind_of (word_at 4 b))

-- a stream that begins with this frame may begin with these bytes
pub record BeginsFrame (f : Frame) (b : List ℕ) : Type 0 where
  pub more : List ℕ
  pub rest : List ℕ
  pub is : b ++ more ≡ frame_bytes f ++ rest

-- How a talk begins (defined by this project: the guest protocol, 'A life').
use Rattle.std.specs.Prelude.{◌≡◌, ℕ, List, [], Option, Some, None}
use Rattle.std.specs.Io.KnownBytes.{Consumes, Appends}
use Rattle.fuse_init.specs.declared.settings.Settings.{Settings}
use Rattle.guest_frames.specs.declared.hello.Hello.{Hello}
use Rattle.guest_frames.specs.declared.ready.Ready.{Ready}
use Rattle.guest_frames.specs.Frames.{Frame, of_hello, of_ready, frame_bytes, IsFrame}
use Rattle.fuse_guest.specs.GuestModel.{agreed_with}
use Rattle.fuse_guest.specs.Service.{first_broken, handed_bits}
use Rattle.guest_talk.specs.declared.fault.GreetFault.{GreetFault}
use Rattle.guest_talk.specs.declared.fault.GreetFault.TheVariants as faults
use Rattle.guest_talk.specs.Bytes.{ready_alone, ReadsFault}
use Rattle.guest_talk.specs.TalkState.{TalkState}

-- what INIT agreed on, and which opcodes were served then: `hello_of` of such a state
abbrev pub hello_for : Option Settings → ℕ → Hello
hello_for settings pledged = record { agreed = agreed_with pledged settings; opcodes = handed_bits }

-- HELLO was written and READY read, which keeps what is pledged; and nothing else
pub record IsGreeted (coming sent : Option (List ℕ)) (hello : Hello) (pledged : ℕ) (talk : TalkState) : Type 0 where
  pub wrote : Appends sent talk.sent (frame_bytes (of_hello hello))
  pub read : Consumes coming talk.coming (frame_bytes (of_ready talk.ready))
  pub right : IsFrame (of_ready talk.ready)
  pub kept : first_broken pledged talk.ready ≡ None
  pub none : talk.events ≡ []

-- the bytes begin with this frame
abbrev pub BeginsWith : Option (List ℕ) → Frame → Type 0
BeginsWith coming f = IsFrame f × ((rest : Option (List ℕ)) × Consumes coming rest (frame_bytes f))

-- a READY came that doesn't serve what is pledged; or no READY came, and the bytes that did have this fault
abbrev pub IsRefused : Option (List ℕ) → ℕ → GreetFault → Type 0
IsRefused coming pledged (faults.Unserved opcode) =
    (r : Ready) × BeginsWith coming (of_ready r) × (first_broken pledged r ≡ Some opcode)
IsRefused coming pledged (faults.Guest fault) = (rest : Option (List ℕ)) × ReadsFault ready_alone coming rest fault
IsRefused coming pledged faults.Memory = Unit {0}

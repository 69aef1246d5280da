-- What decoding says of a frame, from what it reads.
use Rattle.std.proofs.Common.{◌≡◌, List, ℕ, Result, Ok, Err, sym, ◌∙◌}
use Rattle.std.specs.Prelude.{IfOk, IsOkAnd}
use Rattle.fuse_wire.specs.Bytes.{IsBytes}
use Rattle.fuse_wire.specs.Laws.{NumbersRead, LayoutsStand}
use Rattle.guest_frames.specs.declared.fault.GuestFault.{GuestFault}
use Rattle.guest_frames.specs.declared.guest_frame.GuestFrame.{GuestFrame}
use Rattle.guest_frames.specs.declared.guest_kind.GuestKind.{GuestKind}
use Rattle.guest_frames.specs.Kinds.{kind_number}
use Rattle.guest_frames.specs.Frames.{Frame, SpellsFrame, frame_kind}
use Rattle.guest_frames.specs.Reading.{payload_in}
use Rattle.guest_frames.specs.Borrowed.{guest_content}
use Rattle.guest_frames.specs.inner.Readers.{GivesRead}
use Rattle.guest_frames.proofs.Fields.{ok_is}
use Rattle.guest_frames.proofs.Payloads.{payload_found, payload_again}

pub decoded : NumbersRead → LayoutsStand → (kind : GuestKind) (b : List ℕ) (r : Result GuestFrame GuestFault) → IsBytes b
    → GivesRead guest_content r (payload_in kind b) → IfOk r (λ f. SpellsFrame (guest_content f) b)
decoded numbers laws kind b (Ok f) fits given = (payload_found numbers laws kind b (guest_content f) fits given).0
decoded numbers laws kind b (Err e) fits given = tt

pub decoded_kind : NumbersRead → LayoutsStand → (kind : GuestKind) (b : List ℕ) (r : Result GuestFrame GuestFault) → IsBytes b
    → GivesRead guest_content r (payload_in kind b) → IfOk r (λ f. frame_kind (guest_content f) ≡ kind_number kind)
decoded_kind numbers laws kind b (Ok f) fits given = (payload_found numbers laws kind b (guest_content f) fits given).1
decoded_kind numbers laws kind b (Err e) fits given = tt

read_as : (kind : GuestKind) (b : List ℕ) (f : Frame) (r : Result GuestFrame GuestFault) → payload_in kind b ≡ Ok f
    → GivesRead guest_content r (payload_in kind b) → IsOkAnd r (λ x. guest_content x ≡ f)
read_as kind b f (Ok x) is given = ok_is (guest_content x) f (sym given ∙ is)
read_as kind b f (Err e) is given = absurd cc

pub decoded_only : NumbersRead → LayoutsStand → (kind : GuestKind) (b : List ℕ) (f : Frame) (r : Result GuestFrame GuestFault)
    → frame_kind f ≡ kind_number kind → SpellsFrame f b → GivesRead guest_content r (payload_in kind b) → IsOkAnd r (λ x. guest_content x ≡ f)
decoded_only numbers laws kind b f r of_kind s given = read_as kind b f r (payload_again numbers laws kind b f of_kind s) given

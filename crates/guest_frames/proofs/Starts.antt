-- The head of a frame is known by the first 8 bytes.
use Rattle.std.proofs.Common.{◌≡◌, ◌≤◌, ℕ, ◌++◌, List, length, drop, Some, Ok, false, refl, sym, ap, ◌∙◌, append_assoc, arith}
use Rattle.std.specs.Prelude.{nat_lt}
use Rattle.std.proofs.lemmas.Bool.{le-ltb}
use Rattle.std.proofs.lemmas.List.{drop_at, drop-append-le, length-drop}
use Rattle.fuse_wire.specs.Bytes.{le, number_of}
use Rattle.fuse_wire.specs.Laws.{NumbersRead}
use Rattle.fuse_wire.specs.Layout.{form}
use Rattle.guest_frames.specs.declared.guest_kind.GuestKind.{GuestKind}
use Rattle.guest_frames.specs.declared.guest_kind.GuestKind.TheVariants as kinds
use Rattle.guest_frames.specs.Limits.{max_frame_len}
use Rattle.guest_frames.specs.Kinds.{kind_number, guest_kind_of}
use Rattle.guest_frames.specs.Frames.{Frame, IsFrame, payload_parts, frame_kind, frame_len}
use Rattle.guest_frames.specs.Reading.{word_at}
use Rattle.guest_frames.specs.Heads.{guest_head_in, BeginsFrame}

number_is : (kind : GuestKind) → guest_kind_of (kind_number kind) ≡ Some kind
number_is kinds.Ready = refl
number_is kinds.Get = refl
number_is kinds.Scan = refl
number_is kinds.Answer = refl

number_fits : (kind : GuestKind) → kind_number kind ≤ 8
number_fits kinds.Ready = omega arith
number_fits kinds.Get = omega arith
number_fits kinds.Scan = omega arith
number_fits kinds.Answer = omega arith

pub head_known : NumbersRead → (b : List ℕ) (f : Frame) (kind : GuestKind) → IsFrame f → frame_kind f ≡ kind_number kind → BeginsFrame f b → 8 ≤ length b
    → guest_head_in b ≡ Ok (Some (record { len = frame_len f; kind = kind }))
head_known laws b f kind is of_kind begins long =
    let len : ℕ = frame_len f in
    let number : ℕ = frame_kind f in
    let payload : List ℕ = form (payload_parts f) in
    let after : List ℕ = le 4 number ++ (payload ++ begins.rest) in
    let small : number ≤ 8 = rw of_kind (number_fits kind) in
    let parts : b ++ begins.more ≡ le 4 len ++ after =
    begins.is ∙ append_assoc (le 4 len) (le 4 number ++ payload) begins.rest ∙ ap (λ (x : List ℕ). le 4 len ++ x) (append_assoc (le 4 number) payload begins.rest) in
    let first : word_at 0 b ≡ len =
    sym (laws.apart 4 b begins.more (omega (arith, long))) ∙ ap (number_of 4) parts ∙ laws.read 4 len after (omega (arith, is.limited.1)) in
    let dropped : drop 4 b ++ begins.more ≡ after =
    sym (drop-append-le 4 b begins.more (omega (arith, long))) ∙ ap (drop 4) parts ∙ drop_at (le 4 len) after 4 (laws.len 4 len) in
    let second : word_at 4 b ≡ number =
    sym (laws.apart 4 (drop 4 b) begins.more (omega (arith, long, length-drop 4 b))) ∙ ap (number_of 4) dropped
    ∙ laws.read 4 number (payload ++ begins.rest) (omega (arith, small)) in
    let some : nat_lt (length b) 4 ≡ false = le-ltb (length b) 4 (omega (arith, long)) in
    let enough : nat_lt (length b) 8 ≡ false = le-ltb (length b) 8 long in
    let least : nat_lt len 8 ≡ false = le-ltb len 8 (omega arith) in
    let most : nat_lt max_frame_len len ≡ false = le-ltb max_frame_len len is.limited.1 in
    rw (some, enough, first, second, of_kind, least, most, number_is kind) refl

-- REQUEST is within the limits.
use Rattle.std.proofs.Common.{◌≡◌, ◌≤◌, ◌/◌, ℕ, ℤ, List, ◌++◌, length, refl, ap, ◌∙◌, arith}
use Rattle.std.specs.Int.{w64}
use Rattle.std.specs.Prelude.{FitsSigned}
use Rattle.std.proofs.lemmas.List.{length-append}
use Rattle.fuse_wire.specs.Bounds.{max_message_len}
use Rattle.fuse_wire.specs.Laws.{LayoutsStand}
use Rattle.fuse_wire.specs.Layout.{form}
use Rattle.fuse_request.specs.Act.{Asked}
use Rattle.fuse_request.specs.Canon.{canon, len_of}
use Rattle.fuse_request.specs.Spelling.{header_parts, parts}
use Rattle.fuse_keeper.specs.declared.fault.StoreFault.{StoreFault}
use Rattle.fuse_keeper.specs.declared.fault.StoreFault.TheVariants as stores
use Rattle.guest_frames.specs.Frames.{Frame, RequestContent, of_request, IsLimited, payload_parts}
use Rattle.guest_talk.specs.inner.Writes.{IsNotWritten}

pub canon_len : LayoutsStand → (v : Asked) → length (canon v) ≡ len_of v
canon_len laws v =
    let head = laws.form_len (header_parts (len_of v) (length v.ext / 8) v) in
    let first = length-append (form (header_parts (len_of v) (length v.ext / 8) v)) (form (parts v.act) ++ v.ext) in
    let second = length-append (form (parts v.act)) v.ext in
    omega (arith, head, first, second)

pub limited : LayoutsStand → (v : Asked) (secs : ℤ) (nanos count : ℕ) (message : List ℕ) → FitsSigned w64 secs → message ≡ canon v
    → len_of v ≤ max_message_len → IsLimited (of_request (record { secs = secs; nanos = nanos; count = count; message = message }))
limited laws v secs nanos count message fits is short =
    let long : length message ≡ len_of v = ap length is ∙ canon_len laws v in
    let whole = laws.form_len (payload_parts (of_request (record { secs = secs; nanos = nanos; count = count; message = message }))) in
    ((fits, omega (arith, long)), omega (arith, long, whole, short))

pub memory_alone : (f : Frame) (fault : StoreFault) → IsLimited f → IsNotWritten f fault → fault ≡ stores.Memory
memory_alone f stores.Memory fine wrong = refl
memory_alone f stores.Damaged fine wrong = absurd (wrong fine)
memory_alone f (stores.Sql e) fine wrong = absurd wrong
memory_alone f stores.NotAStore fine wrong = absurd wrong
memory_alone f stores.Guest fine wrong = absurd wrong
memory_alone f (stores.Version n) fine wrong = absurd wrong

pub memory_of : LayoutsStand → (v : Asked) (r : RequestContent) (fault : StoreFault) → IsNotWritten (of_request r) fault → FitsSigned w64 r.secs
    → r.message ≡ canon v → len_of v ≤ max_message_len → fault ≡ stores.Memory
memory_of laws v r fault wrong fits is short =
    memory_alone (of_request r) fault (limited laws v r.secs r.nanos r.count r.message fits is short) wrong

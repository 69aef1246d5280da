-- All reads of a port.
use Rattle.std.proofs.Common.{◌≡◌, ℕ, Bool, true, false, cond, List, [], ◌∷◌, ◌++◌, take, Option, Some, None, Result, Ok, Err}
use Rattle.std.proofs.Common.{refl, sym, ap, subst, ◌∙◌}
use Rattle.std.specs.Prelude.{◌||◌, ◌==◌}
use Rattle.std.proofs.lemmas.Bool.{eqb-true}
use Rattle.std.specs.List.{AllByRecursion}
use Rattle.std.specs.declared.io.Error.{Error}
use Rattle.fuse_wire.specs.declared.id.Id.{Id}
use Rattle.fuse_request.specs.Stream.{cut}
use Rattle.fuse_session.specs.declared.device.DevicePort.{DevicePort}
use Rattle.fuse_session.specs.declared.stream.StreamPort.{StreamPort}
use Rattle.fuse_session.specs.declared.port.Received.{Received as Receipt}
use Rattle.fuse_session.specs.declared.port.Received.TheVariants.{Got, End, Failed as ReceiveFailed}
use Rattle.fuse_session.specs.Device.{read_told, read_refused, os_number, enoent_number, eintr_number, eagain_number, enodev_number}
use Rattle.fuse_session.specs.Calls.{stream_read}
use Rattle.fuse_session.specs.DeviceSteps.{DeviceSteps}
use Rattle.fuse_session.specs.StreamSteps.{Sides, StreamSteps}
use Rattle.fuse_session.specs.Grouping.{turns_of}
use Rattle.fuse_session.specs.Transcript.{PortEvent, Received, Handed, bytes_got}
use Rattle.alone_source.specs.Groups.{alone_sides}
use Rattle.alone_source.specs.Reads.{ReadsAlone}
use Rattle.alone_source.specs.Turns.{IsApart}
use Rattle.alone_source.specs.declared.source.AloneSource.{AloneSource}
use Rattle.alone_source.proofs.Steps.{Laws, Follows, given_by, reads}

refused_if : (ends waits : Bool) (buffer : List ℕ)
    → bytes_got (cond {A = Receipt} ends End (cond {A = Receipt} waits (Got 0) ReceiveFailed)) buffer ≡ []
refused_if true waits buffer = refl
refused_if false true buffer = refl
refused_if false false buffer = refl

refused_none : (o : Option ℕ) (buffer : List ℕ) → bytes_got (read_refused o) buffer ≡ []
refused_none None buffer = refl
refused_none (Some n) buffer =
    refused_if (n == enodev_number) ((n == enoent_number || n == eintr_number) || n == eagain_number) buffer

got_if : (none : Bool) (n : ℕ) (buffer : List ℕ) → (none ≡ true → take n buffer ≡ []) → bytes_got (cond {A = Receipt} none End (Got n)) buffer ≡ take n buffer
got_if true n buffer h = sym (h refl)
got_if false n buffer h = refl

-- a port gets the bytes that the read gave
got_given : (read : Result ℕ Error) (buffer : List ℕ) → bytes_got (read_told read) buffer ≡ given_by read buffer
got_given (Ok n) buffer = got_if (n == 0) n buffer (λ e. ap (λ (k : ℕ). take k buffer) (eqb-true n 0 e))
got_given (Err e) buffer = refused_none (os_number e) buffer

pub turns_apart : Laws → {S W : Type 0} (was_read : S → S → Result ℕ Error → List ℕ → Type 0) (was_written : W → W → Result ℕ Error → List ℕ → Type 0)
    (id : Option Id) (p q : DevicePort (AloneSource S) W) (h : List ℕ) (events : List PortEvent) → Follows id p.reader.hold h
    → DeviceSteps (ReadsAlone was_read) was_written p q events → AllByRecursion (IsApart id) (turns_of h events)
turns_apart laws was_read was_written id p q h [] f steps = tt
turns_apart laws was_read was_written id p q h (Received result bytes ∷ es) f (mid, gives, more) =
    let got : bytes ≡ given_by gives.read gives.buffer =
    gives.came ∙ ap (λ (r : Receipt). bytes_got r gives.buffer) gives.is ∙ got_given gives.read gives.buffer in
    let step = subst (λ (x : List ℕ). (IsApart id (cut (h ++ x)).0) × Follows id mid.reader.hold (cut (h ++ x)).1) (sym got)
    (let s = reads laws was_read id p.reader mid.reader h gives.buffer gives.read gives.was f in (s.apart, s.follows)) in
    (step.0, turns_apart laws was_read was_written id mid q (cut (h ++ bytes)).1 es step.1 more)
turns_apart laws was_read was_written id p q h (Handed slice result ∷ es) f (mid, takes, more) =
    turns_apart laws was_read was_written id mid q h es (subst (λ (r : AloneSource _). Follows id r.hold h) (sym takes.reader) f) more

-- ---- over a stream

stream_given : (read : Result ℕ Error) (buffer : List ℕ) → bytes_got (stream_read read) buffer ≡ given_by read buffer
stream_given (Ok n) buffer = got_if (n == 0) n buffer (λ e. ap (λ (k : ℕ). take k buffer) (eqb-true n 0 e))
stream_given (Err e) buffer = refl

pub stream_apart : Laws → {S W : Type 0} (s : Sides S W) (id : Option Id) (p q : StreamPort (AloneSource S) W) (h : List ℕ) (events : List PortEvent)
    → Follows id p.reader.hold h → StreamSteps (alone_sides s) p q events → AllByRecursion (IsApart id) (turns_of h events)
stream_apart laws s id p q h [] f steps = tt
stream_apart laws s id p q h (Received result bytes ∷ es) f (mid, gives, more) =
    let got : bytes ≡ given_by gives.read gives.buffer =
    gives.came ∙ ap (λ (r : Receipt). bytes_got r gives.buffer) gives.is ∙ stream_given gives.read gives.buffer in
    let step = subst (λ (x : List ℕ). (IsApart id (cut (h ++ x)).0) × Follows id mid.reader.hold (cut (h ++ x)).1) (sym got)
    (let t = reads laws s.was_read id p.reader mid.reader h gives.buffer gives.read gives.was f in (t.apart, t.follows)) in
    (step.0, stream_apart laws s id mid q (cut (h ++ bytes)).1 es step.1 more)
stream_apart laws s id p q h (Handed slice result ∷ es) f (mid, takes, more) =
    stream_apart laws s id mid q h es (subst (λ (r : AloneSource _). Follows id r.hold h) (sym takes.reader) f) more

-- The laws of what became of a port by calls, one after the other (defined by this project).
use Rattle.std.specs.Prelude.{ℕ, List, [], ◌∷◌, ◌++◌, Result, refl}
use Rattle.std.specs.declared.io.Error.{Error}
use Rattle.std.proofs.Common.{ap, subst}
use Rattle.fuse_session.specs.declared.device.DevicePort.{DevicePort}
use Rattle.fuse_session.specs.DevicePort.{device_told}
use Rattle.fuse_session.specs.DeviceSteps.{DeviceStep, DeviceSteps}
use Rattle.fuse_session.specs.Port.{PortState}
use Rattle.fuse_session.specs.Stepping.{Stepped, Chain}
use Rattle.fuse_session.specs.StreamSteps.{Sides, told_by, StreamStep, StreamSteps}
use Rattle.fuse_session.specs.declared.stream.StreamPort.{StreamPort}
use Rattle.fuse_session.specs.Transcript.{PortEvent, Received, Handed, Step, Steps, IsTranscript, Tells}

pub steps_more : (a b c : PortState) (xs ys : List PortEvent) → Steps a b xs → Steps b c ys → Steps a c (xs ++ ys)
steps_more a b c [] ys one two = subst (λ p. Steps p c ys) one two
steps_more a b c (x ∷ xs) ys one two = (one.0, one.1, steps_more one.0 b c xs ys one.2 two)

pub stepped_path : {P : Type 0} (told : P → PortState) → IsTranscript (Stepped told)
stepped_path told = record { none = λ p. refl; onward = λ a b c xs ys one two. steps_more (told a) (told b) (told c) xs ys one two }

pub chain_more : {P : Type 0} (step : P → P → PortEvent → Type 0) (a b c : P) (xs ys : List PortEvent) → Chain step a b xs → Chain step b c ys
    → Chain step a c (xs ++ ys)
chain_more step a b c [] ys one two = subst (λ p. Chain step p c ys) one two
chain_more step a b c (x ∷ xs) ys one two = (one.0, one.1, chain_more step one.0 b c xs ys one.2 two)

pub chain_path : {P : Type 0} (step : P → P → PortEvent → Type 0) → IsTranscript (Chain step)
chain_path step = record { none = λ p. refl; onward = λ a b c xs ys one two. chain_more step a b c xs ys one two }

pub chain_tells : {P : Type 0} (told : P → PortState) (step : P → P → PortEvent → Type 0)
    → ((a b : P) (e : PortEvent) → step a b e → Step (told a) (told b) e) → Tells told (Chain step)
chain_tells told step each a b [] one = ap told one
chain_tells told step each a b (x ∷ xs) one = (told one.0, each a one.0 x one.1, chain_tells told step each one.0 b xs one.2)

pub device_path : {R W : Type 0} (was_read : R → R → Result ℕ Error → List ℕ → Type 0) (was_written : W → W → Result ℕ Error → List ℕ → Type 0)
    → IsTranscript (λ (a b : DevicePort R W) events. DeviceSteps was_read was_written a b events)
device_path was_read was_written = chain_path (DeviceStep was_read was_written)

device_step : {R W : Type 0} (was_read : R → R → Result ℕ Error → List ℕ → Type 0) (was_written : W → W → Result ℕ Error → List ℕ → Type 0)
    (a b : DevicePort R W) (e : PortEvent) → DeviceStep was_read was_written a b e → Step (device_told a) (device_told b) e
device_step was_read was_written a b (Received result bytes) one = record { buffer = one.buffer; came = one.came; receives = one.receives }
device_step was_read was_written a b (Handed slice result) one = one.sends

pub device_tells : {R W : Type 0} (was_read : R → R → Result ℕ Error → List ℕ → Type 0) (was_written : W → W → Result ℕ Error → List ℕ → Type 0)
    → Tells device_told (λ (a b : DevicePort R W) events. DeviceSteps was_read was_written a b events)
device_tells was_read was_written = chain_tells device_told (DeviceStep was_read was_written) (device_step was_read was_written)

pub stream_path : {R W : Type 0} (s : Sides R W) → IsTranscript (λ (a b : StreamPort R W) events. StreamSteps s a b events)
stream_path s = chain_path (StreamStep s)

stream_step : {R W : Type 0} (s : Sides R W) (a b : StreamPort R W) (e : PortEvent) → StreamStep s a b e → Step (told_by s a) (told_by s b) e
stream_step s a b (Received result bytes) one = record { buffer = one.buffer; came = one.came; receives = one.receives }
stream_step s a b (Handed slice result) one = one.sends

pub stream_tells : {R W : Type 0} (s : Sides R W) → Tells (told_by s) (λ (a b : StreamPort R W) events. StreamSteps s a b events)
stream_tells s = chain_tells (told_by s) (StreamStep s) (stream_step s)

-- Guests that aren't greeted.
use Rattle.std.proofs.Common.{ℕ, List, Option}
use Rattle.guest_talk.specs.declared.fault.GreetFault.{GreetFault}
use Rattle.guest_talk.specs.declared.fault.GreetFault.TheVariants as faults
use Rattle.guest_talk.specs.Bytes.{ready_alone}
use Rattle.guest_talk.specs.Greeting.{IsRefused}
use Rattle.guest_talk.specs.inner.Greets.{SaysNoHello, ReadsNoReady}
use Rattle.guest_talk.proofs.Frames.{pipe_reads}

pub no_hello : (coming : Option (List ℕ)) (pledged : ℕ) (fault : GreetFault) → SaysNoHello fault → IsRefused coming pledged fault
no_hello coming pledged faults.Memory none = tt
no_hello coming pledged (faults.Guest e) none = (coming, pipe_reads ready_alone coming coming e none)
no_hello coming pledged (faults.Unserved n) none = absurd none

pub no_ready : (coming rest : Option (List ℕ)) (pledged : ℕ) (fault : GreetFault) → ReadsNoReady coming rest fault → IsRefused coming pledged fault
no_ready coming rest pledged faults.Memory none = tt
no_ready coming rest pledged (faults.Guest e) none = (rest, none)
no_ready coming rest pledged (faults.Unserved n) none = absurd none

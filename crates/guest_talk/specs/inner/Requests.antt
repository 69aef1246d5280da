-- The REQUEST for a request, as it is written down (defined by this project).
use Rattle.std.specs.Prelude.{◌≡◌, ◌≤◌, ℕ, true, false, List}
use Rattle.fuse_wire.specs.declared.moment.Moment.{Moment}
use Rattle.fuse_wire.specs.Bounds.{max_message_len}
use Rattle.fuse_request.specs.Act.{Asked}
use Rattle.fuse_request.specs.Canon.{canon, len_of, sayable}
use Rattle.fuse_keeper.specs.declared.fault.StoreFault.TheVariants as stores
use Rattle.fuse_guest.specs.Talk.{handed}
use Rattle.guest_talk.specs.declared.fault.AskFault.{AskFault}
use Rattle.guest_talk.specs.declared.fault.AskFault.TheVariants as faults
use Rattle.guest_talk.specs.declared.outgoing.Outgoing.{Outgoing}
use Rattle.guest_talk.specs.Asking.{is_askable}
use Rattle.guest_talk.specs.Events.{request_frame}
use Rattle.guest_talk.specs.inner.Writes.{IsWritten}

pub record IsMessageOf (asked : Asked) (message : List ℕ) : Type 0 where
  pub says : sayable asked ≡ true
  pub is : message ≡ canon asked
  pub short : len_of asked ≤ max_message_len

pub record IsRequest (asked : Asked) (now : Moment) (count : ℕ) (out : Outgoing) : Type 0 where
  pub says : sayable (handed asked) ≡ true
  pub written : IsWritten (request_frame (handed asked) now count) out

abbrev pub IsNoRequest : Asked → AskFault → Type 0
IsNoRequest asked (faults.Store fault) = fault ≡ stores.Memory
IsNoRequest asked (faults.Guest fault) = ⊥
IsNoRequest asked faults.Unsayable = is_askable asked ≡ false

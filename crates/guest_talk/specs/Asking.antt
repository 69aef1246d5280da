-- How a guest is asked a request (defined by this project: the guest protocol, 'A life' and 'Faults').
use Rattle.std.specs.Prelude.{◌≡◌, ◌&&◌, ℕ, Bool, nat_le, List, ◌++◌, Option, Some, None}
use Rattle.std.specs.Io.KnownBytes.{Consumes, Appends}
use Rattle.fuse_wire.specs.declared.moment.Moment.{Moment}
use Rattle.fuse_wire.specs.Bounds.{max_message_len}
use Rattle.fuse_request.specs.declared.request.Request.{Request}
use Rattle.fuse_request.specs.Act.{Asked, asked}
use Rattle.fuse_request.specs.Canon.{sayable, len_of}
use Rattle.fuse_keeper.specs.declared.fault.StoreFault.{StoreFault}
use Rattle.fuse_guest.specs.declared.fault.TalkFault.{TalkFault}
use Rattle.fuse_guest.specs.declared.fault.TalkFault.TheVariants as talks
use Rattle.fuse_guest.specs.Pairs.{Pairs}
use Rattle.fuse_guest.specs.Talk.{Guest, Turn, Says, Fails, Ending, handed, checked_answer, talk_end}
use Rattle.fuse_guest.specs.Conversations.{Conversation, AreToldOf, IsCompleted, ending_by}
use Rattle.guest_talk.specs.declared.fault.AskFault.{AskFault}
use Rattle.guest_talk.specs.declared.fault.AskFault.TheVariants as faults
use Rattle.guest_talk.specs.Bytes.{bytes_told, bytes_asked, ReadsTurn}
use Rattle.guest_talk.specs.Events.{talk_events, IsWhole, AgreesWithAll}
use Rattle.guest_talk.specs.TalkState.{TalkState}

-- a request, its moment, and how often it was asked before
pub record Ask : Type 0 where
  pub asked : Asked
  pub now : Moment
  pub count : ℕ

abbrev pub ask_for : Request → Moment → ℕ → Ask
ask_for request now count = record { asked = asked request; now = now; count = count }

-- as it is handed on it has a message
abbrev pub is_askable : Asked → Bool
is_askable asked = sayable (handed asked) && nat_le (len_of (handed asked)) max_message_len

abbrev pub store_fault : AskFault → Option StoreFault
store_fault (faults.Store fault) = Some fault
store_fault _ = None

abbrev pub guest_fault : AskFault → Option TalkFault
guest_fault (faults.Guest fault) = Some fault
guest_fault _ = None

-- the pipe didn't fail last: all that was written and read passed it
abbrev pub IsHeld : Turn → Type 0
IsHeld (Says f) = Unit {0}
IsHeld (Fails (talks.Frame fault)) = Unit {0}
IsHeld (Fails _) = ⊥

-- the bytes of a conversation were written and read, no more and no less, where they are known
pub record Passed (old new : TalkState) (count : ℕ) (c : Conversation) : Type 0 where
  pub wrote : Appends old.sent new.sent (bytes_told count c)
  pub asked : Option (List ℕ)
  pub before : Consumes old.coming asked (bytes_asked c)
  pub last : ReadsTurn asked new.coming c.last

-- the request was talked about, and the talk ended so
pub record EndsBy (old new : TalkState) (ask : Ask) (shown : Pairs → Type 0) (end : Ending) : Type 0 where
  pub c : Conversation
  pub asked : c.asked ≡ handed ask.asked
  pub now : c.now ≡ ask.now
  pub whole : IsWhole c
  pub told : (ps : Pairs) → shown ps → AreToldOf ps c.trips
  pub completed : IsCompleted c
  pub ends : end ≡ checked_answer old.ready ask.asked.act (ending_by c.last)
  pub noted : new.events ≡ old.events ++ talk_events ask.count c
  pub passed : IsHeld c.last → Passed old new ask.count c
  -- so each guest that agrees with the record has this reply in the model
  pub reply : (G : Guest) (ps : Pairs) → G.ready ≡ old.ready → AgreesWithAll G new.events → shown ps → talk_end G ps ask.asked ask.now ≡ end

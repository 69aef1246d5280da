-- A request that is given up (defined by this project: the guest protocol, 'Deaths').
use Rattle.std.specs.Prelude.{◌≡◌, ◌++◌, [], Err}
use Rattle.fuse_wire.specs.declared.moment.Moment.{Moment}
use Rattle.fuse_request.specs.Act.{Asked}
use Rattle.fuse_guest.specs.declared.fault.TalkFault.TheVariants.{Ended}
use Rattle.fuse_guest.specs.Pairs.{Pairs}
use Rattle.fuse_guest.specs.Talk.{Guest, Fails, handed, talk_end}
use Rattle.fuse_guest.specs.Conversations.{Conversation}
use Rattle.guest_talk.specs.Asking.{Ask}
use Rattle.guest_talk.specs.Events.{talk_events, IsWhole, AgreesWithAll}
use Rattle.guest_talk.specs.TalkState.{TalkState}

-- nothing came of it
abbrev pub given_up : Asked → Moment → Conversation
given_up asked now = record { asked = handed asked; now = now; trips = []; last = Fails Ended }

-- it is noted as one whose guest ended before its first frame; no byte is written or read
pub record GivesUp (old new : TalkState) (ask : Ask) : Type 0 where
  pub c : Conversation
  pub asked : c.asked ≡ handed ask.asked
  pub now : c.now ≡ ask.now
  pub trips : c.trips ≡ []
  pub last : c.last ≡ Fails Ended
  pub whole : IsWhole c
  pub noted : new.events ≡ old.events ++ talk_events ask.count c
  -- so in the model of each guest that agrees with the record it failed
  pub reply : (G : Guest) (ps : Pairs) → AgreesWithAll G new.events → talk_end G ps ask.asked ask.now ≡ Err Ended

-- A request that is given up.
use Rattle.std.proofs.Common.{◌≡◌, ◌<◌, inl, ◌++◌, true, refl, subst, arith}
use Rattle.fuse_request.specs.Canon.{sayable}
use Rattle.fuse_guest.specs.Talk.{handed, max_frames}
use Rattle.fuse_guest.specs.Conversations.{IsCompleted, HasReply}
use Rattle.guest_talk.specs.Asking.{Ask}
use Rattle.guest_talk.specs.Events.{talk_events, IsWhole, AgreesWithAll}
use Rattle.guest_talk.specs.GivingUp.{GivesUp, given_up}
use Rattle.guest_talk.specs.TalkState.{TalkState}
use Rattle.guest_talk.proofs.Ends.{noted_last}

pub gives_up : HasReply → (old new : TalkState) (ask : Ask) → sayable (handed ask.asked) ≡ true
    → new.events ≡ old.events ++ talk_events ask.count (given_up ask.asked ask.now) → GivesUp old new ask
gives_up has_reply old new ask says noted =
    let c = given_up ask.asked ask.now in
    let whole : IsWhole c = record { sayable_one = says; trips = tt; last = tt } in
    let none : 0 < max_frames = omega arith in
    let completed : IsCompleted c = record { few = none; over = inl refl } in
    record {
      c = c;
      asked = refl;
      now = refl;
      trips = refl;
      last = refl;
      whole = whole;
      noted = noted;
      reply = λ G ps agrees.
          let all : AgreesWithAll G (old.events ++ talk_events ask.count c) = subst (AgreesWithAll G) noted agrees in
          has_reply G ps ask.asked c refl tt completed (all c (noted_last old.events ask.count c whole));
    }

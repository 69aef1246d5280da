-- The state of a talk with a guest (defined by this project).
use Rattle.std.specs.Prelude.{ℕ, List, Option}
use Rattle.guest_frames.specs.declared.ready.Ready.{Ready}
use Rattle.guest_talk.specs.declared.talk.Talk.{Talk}
use Rattle.guest_talk.specs.Events.{Event}

pub record TalkState : Type 0 where
  pub ready : Ready
  -- the bytes that are to come from the guest, and those that it was sent, where they are known
  pub coming : Option (List ℕ)
  pub sent : Option (List ℕ)
  -- what passed since READY
  pub events : List Event

abbrev pub talk_told : {R W : Type 0} → (R → Option (List ℕ)) → (W → Option (List ℕ)) → Talk R W → TalkState
talk_told remaining contents talk = record {
  ready = talk.ready;
  coming = remaining talk.source;
  sent = contents talk.sink;
  events = talk.record.events;
}

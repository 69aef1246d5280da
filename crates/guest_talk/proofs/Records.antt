-- What is noted stays noted.
use Rattle.std.proofs.Common.{List, ◌++◌, ap, ◌∙◌, append_assoc}
use Rattle.fuse_guest.specs.Conversations.{Conversation}
use Rattle.guest_talk.specs.Events.{Event, talk_events, IsNoted}
use Rattle.guest_talk.specs.Growing.{RecordsGrow}

still_noted : (events more : List Event) (c : Conversation) → IsNoted events c → IsNoted (events ++ more) c
still_noted events more c noted = record {
  before = noted.before;
  later = noted.later ++ more;
  count = noted.count;
  here = ap (λ (l : List Event). l ++ more) noted.here
      ∙ append_assoc noted.before (talk_events noted.count c ++ noted.later) more
      ∙ ap (λ (l : List Event). noted.before ++ l) (append_assoc (talk_events noted.count c) noted.later more);
  whole = noted.whole;
}

pub records_grow : RecordsGrow
records_grow G events more agrees c noted = agrees c (still_noted events more c noted)

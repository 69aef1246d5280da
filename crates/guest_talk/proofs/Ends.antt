-- How talks about requests end.
use Rattle.std.proofs.Common.{◌≡◌, ◌<◌, ◌+◌, ◌⊎◌, inl, inr, ℕ, List, [], ◌∷◌, ◌++◌, length, true, false, Err, refl, ap, sym, subst, ◌∙◌, append_assoc, arith}
use Rattle.std.proofs.lemmas.List.{append-nil, length-append}
use Rattle.fuse_request.specs.Canon.{sayable}
use Rattle.guest_frames.specs.Frames.{Frame}
use Rattle.fuse_guest.specs.declared.fault.TalkFault.{TalkFault}
use Rattle.fuse_guest.specs.declared.fault.TalkFault.TheVariants as talks
use Rattle.fuse_guest.specs.Pairs.{Pairs}
use Rattle.fuse_guest.specs.Talk.{Turn, Says, Fails, Ending, handed, max_frames, checked_answer}
use Rattle.fuse_guest.specs.Conversations.{Trip, Conversation, AreToldOf, IsCompleted, HasReply, asks_more, ending_by}
use Rattle.guest_talk.specs.Asking.{Ask, EndsBy, IsHeld, Passed}
use Rattle.guest_talk.specs.Events.{Event, frame_event, fault_event, talk_events, trip_events, IsReadFault, IsWhole, IsWholeTrip, IsNoted, AgreesWithAll}
use Rattle.guest_talk.specs.TalkState.{TalkState}
use Rattle.guest_talk.specs.inner.Pipes.{IsPipeFault}
use Rattle.guest_talk.specs.inner.Turns.{SendsNot, Hears, TellsFault, Lasts, Going, asking_frame, events_so_far}
use Rattle.guest_talk.proofs.Steps.{notes_more, each_more, flat_more}

abbrev talk_of : Ask → List Trip → Turn → Conversation
talk_of ask trips last = record { asked = handed ask.asked; now = ask.now; trips = trips; last = last }

-- what was noted last stands in the record
pub noted_last : (old : List Event) (count : ℕ) (c : Conversation) → IsWhole c → IsNoted (old ++ talk_events count c) c
noted_last old count c whole = record {
  before = old;
  later = [];
  count = count;
  here = ap (λ (l : List Event). old ++ l) (sym (append-nil (talk_events count c)));
  whole = whole;
}

pub ended : HasReply → (old new : TalkState) (ask : Ask) (shown : Pairs → Type 0) (end : Ending) (trips : List Trip) (last : Turn)
    → IsWhole (talk_of ask trips last) → ((ps : Pairs) → shown ps → AreToldOf ps trips) → length trips < max_frames
    → (asks_more last ≡ false) ⊎ (length trips + 1 ≡ max_frames) → end ≡ checked_answer old.ready ask.asked.act (ending_by last)
    → new.events ≡ old.events ++ talk_events ask.count (talk_of ask trips last)
    → (IsHeld last → Passed old new ask.count (talk_of ask trips last)) → EndsBy old new ask shown end
ended has_reply old new ask shown end trips last whole told few over ends noted passed =
    let c = talk_of ask trips last in
    let completed : IsCompleted c = record { few = few; over = over } in
    record {
      c = c;
      asked = refl;
      now = refl;
      whole = whole;
      told = told;
      completed = completed;
      ends = ends;
      noted = noted;
      passed = passed;
      reply = λ G ps same agrees are.
          let all : AgreesWithAll G (old.events ++ talk_events ask.count c) = subst (AgreesWithAll G) noted agrees in
          has_reply G ps ask.asked c refl (told ps are) completed (all c (noted_last old.events ask.count c whole))
          ∙ ap (λ r. checked_answer r ask.asked.act (ending_by last)) same ∙ sym ends;
    }

-- ---- after trips, by the last turn

-- a frame or a fault was read last
pub ends_last : HasReply → (old now new : TalkState) (ask : Ask) (shown : Pairs → Type 0) (n : ℕ) (end : Ending) (last : Turn)
    → Going old now ask shown n → Lasts now new last → n < max_frames → (asks_more last ≡ false) ⊎ (n + 1 ≡ max_frames)
    → end ≡ checked_answer now.ready ask.asked.act (ending_by last) → EndsBy old new ask shown end
ends_last has_reply old now new ask shown n end last going lasts few over ends =
    ended has_reply old new ask shown end going.trips last
    (record { sayable_one = going.says; trips = going.whole; last = lasts.whole })
    going.told
    (omega (arith, few, going.many))
    (over_by last going.trips n going.many over)
    (ends ∙ ap (λ r. checked_answer r ask.asked.act (ending_by last)) going.moves.notes.ready)
    (notes_more old now new _ _ going.moves.notes lasts.notes).noted
    (λ held. record {
      wrote = rw (← lasts.sent) at going.moves.sent;
      asked = now.coming;
      before = going.moves.came;
      last = lasts.came;
    })
  where
    over_by : (last : Turn) (ts : List Trip) (n : ℕ) → length ts ≡ n → (asks_more last ≡ false) ⊎ (n + 1 ≡ max_frames)
        → (asks_more last ≡ false) ⊎ (length ts + 1 ≡ max_frames)
    over_by last ts n many (inl none) = inl none
    over_by last ts n many (inr all) = inr (ap (λ k. k + 1) many ∙ all)

-- ---- where a write failed

pipe_is_not_held : (fault : TalkFault) → IsPipeFault fault → IsHeld (Fails fault) → ⊥
pipe_is_not_held talks.Ended pipe held = held
pipe_is_not_held talks.Hangs pipe held = held
pipe_is_not_held (talks.Frame fault) pipe held = pipe
pipe_is_not_held (talks.ChangesOf n) pipe held = pipe
pipe_is_not_held (talks.Body n m) pipe held = pipe
pipe_is_not_held (talks.BadBody n) pipe held = pipe
pipe_is_not_held talks.TooManyFrames pipe held = pipe

pub pipe_is_read : (fault : TalkFault) → IsPipeFault fault → IsReadFault fault
pipe_is_read talks.Ended pipe = tt
pipe_is_read talks.Hangs pipe = tt
pipe_is_read (talks.Frame fault) pipe = tt
pipe_is_read (talks.ChangesOf n) pipe = absurd pipe
pipe_is_read (talks.Body n m) pipe = absurd pipe
pipe_is_read (talks.BadBody n) pipe = absurd pipe
pipe_is_read talks.TooManyFrames pipe = absurd pipe

-- of REQUEST
pub ends_at_once : HasReply → (old new : TalkState) (ask : Ask) (shown : Pairs → Type 0) (fault : TalkFault) → sayable (handed ask.asked) ≡ true
    → SendsNot old new (asking_frame ask) fault → EndsBy old new ask shown (Err fault)
ends_at_once has_reply old new ask shown fault says s =
    ended has_reply old new ask shown (Err fault) [] (Fails fault)
    (record { sayable_one = says; trips = tt; last = pipe_is_read fault s.pipe })
    (λ ps are. tt)
    (omega arith)
    (inl refl)
    refl
    s.notes.noted
    (λ held. absurd (pipe_is_not_held fault s.pipe held))

-- of what a query gets
pub ends_told : HasReply → (old now heard new : TalkState) (ask : Ask) (shown : Pairs → Type 0) (n : ℕ) (query : Frame) (fault : TalkFault)
    → Going old now ask shown n → Hears now heard query → asks_more (Says query) ≡ true → TellsFault heard new shown query fault → n + 1 < max_frames
    → EndsBy old new ask shown (Err fault)
ends_told has_reply old now heard new ask shown n query fault going h asks t few =
    let trip : Trip = record { query = query; told = t.told } in
    let trips : List Trip = going.trips ++ trip ∷ [] in
    let heard_notes = notes_more old now heard _ _ going.moves.notes h.moves.notes in
    let all = notes_more old heard new _ _ heard_notes t.sends.notes in
    ended has_reply old new ask shown (Err fault) trips (Fails fault)
    (record {
      sayable_one = going.says;
      trips = each_more IsWholeTrip going.trips trip going.whole (record { query = h.whole; asks = asks; told = t.is.whole; kind = t.is.kind });
      last = pipe_is_read fault t.sends.pipe;
    })
    (λ ps are. each_more _ going.trips trip (going.told ps are) (t.is.shows ps are))
    (omega (arith, few, going.many, length-append going.trips (trip ∷ [])))
    (inl refl)
    refl
    (all.noted ∙ ap (λ (l : List Event). old.events ++ l) (both ask going.trips trip fault))
    (λ held. absurd (pipe_is_not_held fault t.sends.pipe held))
  where
    both : (ask : Ask) (ts : List Trip) (t : Trip) (fault : TalkFault)
        → (events_so_far ask ts ++ frame_event t.query ∷ []) ++ frame_event t.told ∷ fault_event fault ∷ []
        ≡ events_so_far ask (ts ++ t ∷ []) ++ fault_event fault ∷ []
    both ask ts t fault =
        append_assoc (events_so_far ask ts) (frame_event t.query ∷ []) (frame_event t.told ∷ fault_event fault ∷ [])
        ∙ sym (append_assoc (events_so_far ask ts) (trip_events t) (fault_event fault ∷ []))
        ∙ ap (λ (l : List Event). l ++ fault_event fault ∷ []) (flat_more trip_events (frame_event (asking_frame ask) ∷ []) ts t)

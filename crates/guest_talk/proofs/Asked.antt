-- What is said of a request that has no answer.
use Rattle.std.proofs.Common.{◌≡◌, ◌<◌, inl, inr, ℕ, List, [], true, Option, Ok, Err, refl, ap, sym, subst, ◌∙◌, arith}
use Rattle.std.proofs.lemmas.List.{append-nil}
use Rattle.fuse_request.specs.Act.{Act}
use Rattle.fuse_keeper.specs.declared.fault.StoreFault.{StoreFault}
use Rattle.guest_frames.specs.declared.ready.Ready.{Ready}
use Rattle.guest_frames.specs.Frames.{Frame, of_hello, of_ready, of_request, of_get, of_values, of_scan, of_pairs, of_answer, AnswerContent}
use Rattle.fuse_guest.specs.declared.fault.TalkFault.{TalkFault}
use Rattle.fuse_guest.specs.declared.fault.TalkFault.TheVariants as talks
use Rattle.fuse_guest.specs.declared.fault.TalkFault.TheVariants.{TooManyFrames}
use Rattle.fuse_guest.specs.Talk.{Says, Fails, max_frames, checked_answer}
use Rattle.fuse_guest.specs.Conversations.{HasReply, asks_more, ending_by}
use Rattle.guest_talk.specs.declared.fault.AskFault.{AskFault}
use Rattle.guest_talk.specs.declared.fault.AskFault.TheVariants as faults
use Rattle.guest_talk.specs.Asking.{EndsBy}
use Rattle.guest_talk.specs.Bytes.{all_but_ready, ReadsFault}
use Rattle.guest_talk.specs.Events.{Event, IsReadFault}
use Rattle.guest_talk.specs.TalkState.{TalkState}
use Rattle.guest_talk.specs.inner.Writes.{IsStoreFault}
use Rattle.guest_talk.specs.inner.Turns.{Notes, BeginsNot, Hears, HearsFault, HearsNot, Lasts, EndsWell, EndsWrong, EndsIll, IsJudgedWrong, Going}
use Rattle.guest_talk.specs.inner.Turning.{Asking, Answered, Failed}
use Rattle.guest_talk.proofs.Steps.{notes_more}
use Rattle.guest_talk.proofs.Ends.{ends_last, ends_at_once}

same_events : (old new : TalkState) → Notes old new [] → new.events ≡ old.events
same_events old new n = n.noted ∙ append-nil old.events

isnt_store : (e : StoreFault) → faults.Store e ≡ faults.Unsayable → ⊥
isnt_store e same = absurd cc

isnt_guest : (e : TalkFault) → faults.Guest e ≡ faults.Unsayable → ⊥
isnt_guest e same = absurd cc

pub from_ended : (old new : TalkState) (q : Asking) (fault : TalkFault) → EndsBy old new q.ask q.shown (Err fault) → new.ready ≡ old.ready → q.looks
    → Failed old new q (faults.Guest fault)
from_ended old new q fault ends ready looks = record {
  guest = ends;
  store = tt;
  unsayable = λ same. absurd (isnt_guest fault same);
  looks = looks;
  grows = (_, ends.noted);
  ready = ready;
}

pub from_store : (old new : TalkState) (q : Asking) (fault : StoreFault) (more : List Event) → IsStoreFault q.shown q.may_answer fault → Notes old new more
    → q.fails → Failed old new q (faults.Store fault)
from_store old new q fault more of_store notes fails = record {
  guest = tt;
  store = of_store;
  unsayable = λ same. absurd (isnt_store fault same);
  looks = fails;
  grows = (more, notes.noted);
  ready = notes.ready;
}

-- ---- by what failed

pub failed_begin : HasReply → (old new : TalkState) (q : Asking) (fault : AskFault) → BeginsNot old new q.ask fault → q.looks → q.fails
    → Failed old new q fault
failed_begin has_reply old new q (faults.Store e) b looks fails = from_store old new q e [] (λ ps are. inl b.0) b.1 fails
failed_begin has_reply old new q (faults.Guest e) b looks fails =
    from_ended old new q e (ends_at_once has_reply old new q.ask q.shown e b.0 b.1) b.1.notes.ready looks
failed_begin has_reply old new q faults.Unsayable b looks fails = record {
  guest = tt;
  store = tt;
  unsayable = λ same. (b.0, same_events old new b.1);
  looks = looks;
  grows = ([], b.1.noted);
  ready = b.1.ready;
}

fault_is_read : (old new : Option (List ℕ)) (fault : TalkFault) → ReadsFault all_but_ready old new fault → IsReadFault fault
fault_is_read old new talks.Ended reads = tt
fault_is_read old new talks.Hangs reads = tt
fault_is_read old new (talks.Frame fault) reads = tt
fault_is_read old new (talks.ChangesOf n) reads = absurd reads
fault_is_read old new (talks.Body n m) reads = absurd reads
fault_is_read old new (talks.BadBody n) reads = absurd reads
fault_is_read old new talks.TooManyFrames reads = absurd reads

pub lasts_of : (old new : TalkState) (fault : TalkFault) → HearsFault old new fault → Lasts old new (Fails fault)
lasts_of old new fault h = record { whole = fault_is_read old.coming new.coming fault h.came; notes = h.notes; sent = h.sent; came = h.came }

pub lasts_said : (old new : TalkState) (f : Frame) → Hears old new f → Lasts old new (Says f)
lasts_said old new f h = record { whole = h.whole; notes = h.moves.notes; sent = h.sent; came = h.moves.came }

pub failed_last : HasReply → (old now new : TalkState) (q : Asking) (fault : AskFault) → Going old now q.ask q.shown 65535
    → EndsIll now new q.ask.asked.act fault → q.looks → q.fails → Failed old new q fault
failed_last has_reply old now new q (faults.Store e) going ill looks fails =
    from_store old new q e _ (λ ps are. inl ill.0) (notes_more old now new _ _ going.moves.notes ill.1) fails
failed_last has_reply old now new q (faults.Guest e) going ill looks fails =
    from_ended old new q e
    (ends_last has_reply old now new q.ask q.shown 65535 (Err e) ill.last going ill.lasts (omega arith) (inr refl) (sym ill.ends))
    (notes_more old now new _ _ going.moves.notes ill.lasts.notes).ready looks
failed_last has_reply old now new q faults.Unsayable going ill looks fails = absurd ill

-- ---- an answer

pub answered : HasReply → (old now new : TalkState) (q : Asking) (n : ℕ) (a : AnswerContent) → Going old now q.ask q.shown n → n < max_frames
    → EndsWell now new q.ask.asked.act a → q.looks → Answered old new q a
answered has_reply old now new q n a going few well looks = record {
  ends = ends_last has_reply old now new q.ask q.shown n (Ok a) (Says (of_answer a)) going well.lasts few (inl refl) (sym well.taken);
  looks = looks;
  ready = (notes_more old now new _ _ going.moves.notes well.lasts.notes).ready;
}

-- ---- the last turn

pub ill_heard : (old new : TalkState) (act : Act) (fault : AskFault) → HearsNot old new fault → EndsIll old new act fault
ill_heard old new act (faults.Store e) h = h
ill_heard old new act (faults.Guest e) h = record { last = Fails e; lasts = lasts_of old new e h; ends = refl }
ill_heard old new act faults.Unsayable h = absurd h

pub wrong_said : (old new : TalkState) (act : Act) (f : Frame) (fault : TalkFault) → Hears old new f → IsJudgedWrong new.ready act f fault
    → EndsWrong old new act fault
wrong_said old new act f fault h wrong = record {
  last = Says f;
  lasts = lasts_said old new f h;
  ends = ap (λ r. checked_answer r act (ending_by (Says f))) (sym h.moves.notes.ready) ∙ wrong.ends;
}

too_many : (r : Ready) (act : Act) (f : Frame) → asks_more (Says f) ≡ true → checked_answer r act (ending_by (Says f)) ≡ Err TooManyFrames
too_many r act (of_get keys) asks = refl
too_many r act (of_scan s) asks = refl
too_many r act (of_hello h) asks = absurd cc
too_many r act (of_ready x) asks = absurd cc
too_many r act (of_request x) asks = absurd cc
too_many r act (of_values x) asks = absurd cc
too_many r act (of_pairs x more) asks = absurd cc
too_many r act (of_answer a) asks = absurd cc

pub asks_too_much : (old new : TalkState) (act : Act) (f : Frame) → Hears old new f → asks_more (Says f) ≡ true → EndsWrong old new act TooManyFrames
asks_too_much old new act f h asks = record { last = Says f; lasts = lasts_said old new f h; ends = too_many old.ready act f asks }

pub said_well : (old new : TalkState) (act : Act) (f : Frame) (x : AnswerContent) → Hears old new f
    → ((a : AnswerContent) × (f ≡ of_answer a) × (checked_answer new.ready act (Ok a) ≡ Ok a))
    → ((a : AnswerContent) → f ≡ of_answer a → x ≡ a) → EndsWell old new act x
said_well old new act f x h judged said =
    let a : AnswerContent = judged.0 in
    let is : f ≡ of_answer a = judged.1 in
    let same : a ≡ x = sym (said a is) in
    subst (EndsWell old new act) same (record {
      lasts = subst (λ (g : Frame). Lasts old new (Says g)) is (lasts_said old new f h);
      taken = ap (λ r. checked_answer r act (Ok a)) (sym h.moves.notes.ready) ∙ judged.2;
    })

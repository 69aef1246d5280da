-- One turn of a talk, and what comes of it.
use Rattle.std.proofs.Common.{◌≡◌, ◌<◌, ◌+◌, ◌⊎◌, inl, inr, ℕ, [], true, Result, Ok, Err, refl, ap, sym, ◌∙◌, arith}
use Rattle.std.specs.Prelude.{IfOk, IfErr}
use Rattle.guest_frames.specs.Frames.{Frame, AnswerContent}
use Rattle.fuse_guest.specs.declared.fault.TalkFault.{TalkFault}
use Rattle.fuse_guest.specs.Pairs.{Pairs}
use Rattle.fuse_guest.specs.Talk.{Says, Fails, max_frames, checked_answer}
use Rattle.fuse_guest.specs.Conversations.{HasReply, asks_more, ending_by}
use Rattle.guest_talk.specs.declared.fault.AskFault.{AskFault}
use Rattle.guest_talk.specs.declared.fault.AskFault.TheVariants as faults
use Rattle.guest_talk.specs.Asking.{Ask}
use Rattle.guest_talk.specs.TalkState.{TalkState}
use Rattle.guest_talk.specs.inner.Writes.{IsToldBy}
use Rattle.guest_talk.specs.inner.Turns.{Hears, HearsNot, Tells, TellsFault, TellsNot, query_of, LooksBy, IsJudgedWrong, BeginsNot, EndsWell, EndsIll, Going}
use Rattle.guest_talk.specs.inner.Turning.{Due, due_of, AsksOn, AsksInVain, IsOver, TakesNoTurn, Answered, Failed}
use Rattle.guest_talk.proofs.Steps.{notes_more, fewer, next_trip}
use Rattle.guest_talk.proofs.Ends.{ends_last, ends_told}
use Rattle.guest_talk.proofs.Looks.{Source, shown_by, asking_over, shown_before, shown_after}
use Rattle.guest_talk.proofs.Asked.{from_ended, from_store, lasts_of, lasts_said, answered, failed_begin, failed_last}

-- ---- the turn itself

pub looks_by : (looks fails : Type 0) (fault : AskFault) → looks → fails → LooksBy looks fails fault
looks_by looks fails (faults.Store e) went failed = failed
looks_by looks fails (faults.Guest e) went failed = went
looks_by looks fails faults.Unsayable went failed = went

pub heard_none : (old new : TalkState) (d : Due) (fault : AskFault) → HearsNot old new fault → TakesNoTurn old new d fault
heard_none old new d (faults.Store e) h = ((λ ps are. inl h.0), ([], h.1))
heard_none old new d (faults.Guest e) h = inl (record { wrong = record { last = Fails e; lasts = lasts_of old new e h; ends = refl }; over = refl })
heard_none old new d faults.Unsayable h = absurd h

pub said_wrong : (old new : TalkState) (d : Due) (f : Frame) (fault : TalkFault) → Hears old new f → IsJudgedWrong new.ready d.act f fault
    → TakesNoTurn old new d (faults.Guest fault)
said_wrong old new d f fault h wrong = inl (record {
  wrong = record {
    last = Says f;
    lasts = lasts_said old new f h;
    ends = ap (λ r. checked_answer r d.act (ending_by (Says f))) (sym h.moves.notes.ready) ∙ wrong.ends;
  };
  over = wrong.over;
})

pub told_none : (old heard new : TalkState) (d : Due) (f : Frame) (fault : AskFault) → Hears old heard f → asks_more (Says f) ≡ true
    → TellsNot heard new (query_of d.shown d.may_answer f) fault → TakesNoTurn old new d fault
told_none old heard new d f (faults.Store e) h asks t = (t.0, (_, notes_more old heard new _ _ h.moves.notes t.1))
told_none old heard new d f (faults.Guest e) h asks t = inr (record { heard = heard; query = f; hears = h; asks = asks; fails = t })
told_none old heard new d f faults.Unsayable h asks t = absurd t

pub told_one : (old heard new : TalkState) (shown : Pairs → Type 0) (f : Frame) → Hears old heard f → asks_more (Says f) ≡ true
    → Tells heard new shown f → AsksOn old new shown
told_one old heard new shown f h asks t = record { heard = heard; query = f; hears = h; asks = asks; tells = t }

-- ---- after the turns before it

less_told : (more less : Pairs → Type 0) (query told : Frame) → ((ps : Pairs) → less ps → more ps) → IsToldBy more query told → IsToldBy less query told
less_told more less query told shown is = record { whole = is.whole; kind = is.kind; shows = λ ps are. is.shows ps (shown ps are) }

pub went_on : {P : Type 0} (s : Source P) (old now new : TalkState) (ask : Ask) (a b d : P) (n : ℕ) → Going old now ask (shown_by s a b) n
    → s.looks a b → s.looks b d → AsksOn now new (shown_by s b d) → Going old new ask (shown_by s a d) (n + 1)
went_on s old now new ask a b d n going first later on =
    let before = fewer old now ask (shown_by s a b) (shown_by s a d) n (shown_before s a b d (s.or_less b d later)) going in
    let after = shown_after s a b d first (s.or_less b d later) in
    next_trip old now on.heard new ask (shown_by s a d) n on.query before on.hears on.asks
    (record { told = on.tells.told; is = less_told _ (shown_by s a d) on.query on.tells.told after on.tells.is; sends = on.tells.sends })

fails_by : {P : Type 0} (s : Source P) (b d : P) (fault : AskFault) → LooksBy (s.looks b d) (s.fails b d) fault → s.fails b d
fails_by s b d (faults.Store e) looked = looked
fails_by s b d (faults.Guest e) looked = s.or_less b d looked
fails_by s b d faults.Unsayable looked = s.or_less b d looked

pub guest_failed : HasReply → {P : Type 0} (s : Source P) (old now new : TalkState) (ask : Ask) (a b d : P) (n : ℕ) (e : TalkFault)
    → Going old now ask (shown_by s a d) n → n + 1 < max_frames → s.looks a b → s.looks b d
    → IsOver now new ask.asked.act e ⊎ AsksInVain now new (shown_by s b d) e → Failed old new (asking_over s ask a d) (faults.Guest e)
guest_failed has_reply s old now new ask a b d n e going few first later (inl o) =
    from_ended old new (asking_over s ask a d) e
    (ends_last has_reply old now new ask (shown_by s a d) n (Err e) o.wrong.last going o.wrong.lasts (omega (arith, few)) (inl o.over) (sym o.wrong.ends))
    (notes_more old now new _ _ going.moves.notes o.wrong.lasts.notes).ready (s.and_then a b d first later)
guest_failed has_reply s old now new ask a b d n e going few first later (inr vain) =
    let after = shown_after s a b d first (s.or_less b d later) in
    let t : TellsFault vain.heard new (shown_by s a d) vain.query e =
    record { told = vain.fails.told; is = less_told _ (shown_by s a d) vain.query vain.fails.told after vain.fails.is; sends = vain.fails.sends } in
    from_ended old new (asking_over s ask a d) e
    (ends_told has_reply old now vain.heard new ask (shown_by s a d) n vain.query e going vain.hears vain.asks t few)
    (notes_more old vain.heard new _ _ (notes_more old now vain.heard _ _ going.moves.notes vain.hears.moves.notes) t.sends.notes).ready
    (s.and_then a b d first later)

pub failed_turn : HasReply → {P : Type 0} (s : Source P) (old now new : TalkState) (ask : Ask) (a b d : P) (n : ℕ) (fault : AskFault)
    → Going old now ask (shown_by s a b) n → n + 1 < max_frames → s.looks a b → LooksBy (s.looks b d) (s.fails b d) fault
    → TakesNoTurn now new (due_of ask.asked.act (shown_by s b d) (s.may_answer b)) fault → Failed old new (asking_over s ask a d) fault
failed_turn has_reply s old now new ask a b d n (faults.Store e) going few first looked missed =
    from_store old new (asking_over s ask a d) e _
    (λ ps are. elim (missed.0 ps (shown_after s a b d first looked ps are)) [ inl memory ↦ inl memory | inr may ↦ inr (s.may_stay a b first e may) ])
    (notes_more old now new _ _ going.moves.notes missed.1.1) (s.and_fails a b d first looked)
failed_turn has_reply s old now new ask a b d n (faults.Guest e) going few first looked missed =
    guest_failed has_reply s old now new ask a b d n e
    (fewer old now ask (shown_by s a b) (shown_by s a d) n (shown_before s a b d (s.or_less b d looked)) going) few first looked missed
failed_turn has_reply s old now new ask a b d n faults.Unsayable going few first looked missed = absurd missed

pub answered_turn : HasReply → {P : Type 0} (s : Source P) (old now new : TalkState) (ask : Ask) (a b d : P) (n : ℕ) (x : AnswerContent)
    → Going old now ask (shown_by s a b) n → n < max_frames → s.looks a b → s.looks b d → EndsWell now new ask.asked.act x
    → Answered old new (asking_over s ask a d) x
answered_turn has_reply s old now new ask a b d n x going few first later well =
    answered has_reply old now new (asking_over s ask a d) n x
    (fewer old now ask (shown_by s a b) (shown_by s a d) n (shown_before s a b d (s.or_less b d later)) going) few well (s.and_then a b d first later)

-- ---- the last one

pub last_answered : HasReply → {P : Type 0} (s : Source P) (old now new : TalkState) (ask : Ask) (a b : P) {A : Type 0} (said : A → AnswerContent)
    (r : Result A AskFault) → Going old now ask (shown_by s a b) 65535 → s.looks a b → IfOk r (λ x. EndsWell now new ask.asked.act (said x))
    → IfOk r (λ x. Answered old new (asking_over s ask a b) (said x))
last_answered has_reply s old now new ask a b said (Ok x) going looks well =
    answered has_reply old now new (asking_over s ask a b) 65535 (said x) going (omega arith) well looks
last_answered has_reply s old now new ask a b said (Err e) going looks well = tt

pub last_failed : HasReply → {P : Type 0} (s : Source P) (old now new : TalkState) (ask : Ask) (a b : P) {A : Type 0} (r : Result A AskFault)
    → Going old now ask (shown_by s a b) 65535 → s.looks a b → IfErr r (EndsIll now new ask.asked.act) → IfErr r (Failed old new (asking_over s ask a b))
last_failed has_reply s old now new ask a b (Ok x) going looks ill = tt
last_failed has_reply s old now new ask a b (Err e) going looks ill =
    failed_last has_reply old now new (asking_over s ask a b) e going ill looks (s.or_less a b looks)

-- ---- the first one

pub begun_none : HasReply → {P : Type 0} (s : Source P) (old new : TalkState) (ask : Ask) (a : P) (fault : AskFault) → BeginsNot old new ask fault
    → Failed old new (asking_over s ask a a) fault
begun_none has_reply s old new ask a fault b = failed_begin has_reply old new (asking_over s ask a a) fault b (s.still a) (s.or_less a a (s.still a))

-- Messages that are processed in turns, one after another, and the bytes that come in one.
use Rattle.std.proofs.Common.{◌≡◌, ◌+◌, ℕ, Bool, true, false, List, [], ◌++◌, length, take, Option, refl, sym, ap, subst, ◌∙◌}
use Rattle.std.proofs.Common.{append_assoc, arith, length-append}
use Rattle.std.proofs.lemmas.List.{append-nil, take-append-drop}
use Rattle.std.proofs.Math.Seq.{take-append-add, drop-append-add}
use Rattle.std.specs.Io.KnownBytes.{Appends, Consumes}
use Rattle.fuse_request.specs.declared.framer.FrameFault.{FrameFault}
use Rattle.fuse_request.specs.Stream.{cut, joined, CutJoins}
use Rattle.fuse_request.specs.Framing.{HeldBytes}
use Rattle.fuse_keeper.specs.History.{HistoriesGrow}
use Rattle.fuse_keeper.specs.Stands.{StillStands}
use Rattle.fuse_keeper.specs.Model.{Model}
use Rattle.fuse_keeper.specs.KeeperState.{KeeperState, IsFirm, AnswersNoMore}
use Rattle.fuse_session.specs.declared.counts.SessionCounts.{SessionCounts}
use Rattle.fuse_session.specs.declared.ended.Ended.{Ended}
use Rattle.fuse_session.specs.declared.group.Next.{Next}
use Rattle.fuse_session.specs.declared.group.Progress.{Progress}
use Rattle.fuse_session.specs.declared.group.Next.TheVariants.{GoesOn as GoesOnHere}
use Rattle.fuse_session.specs.Port.{PortState, IsQuiet}
use Rattle.fuse_session.specs.Settling.{Replied}
use Rattle.fuse_session.specs.Counting.{plus, none_counted}
use Rattle.fuse_session.specs.inner.Receiving.{IsHearing, Heard, Comes}
use Rattle.fuse_session.specs.Ended.{ended_store}
use Rattle.fuse_session.specs.Passage.{passage}
use Rattle.fuse_session.specs.Processed.{StartsZero}
use Rattle.fuse_session.specs.Serving.{TookTurn, Broken, ProcessedAll, Waiting, nothing_waits, Whole, Run, lasts, goes_on}
use Rattle.fuse_session.specs.Ends.{Halted}
use Rattle.fuse_session.specs.inner.Turn.{waits}
use Rattle.fuse_session.proofs.Bytes.{appends_none, consumes_none, consumes_more}
use Rattle.fuse_session.proofs.Replies.{joined-append}
use Rattle.fuse_session.proofs.Counted.{none_plus}
use Rattle.fuse_session.proofs.Doing.{one_heard, hears_more, no_deeds, then_did}
use Rattle.fuse_session.specs.Deeds.{Deeds, Hears}
use Rattle.fuse_session.specs.Transcript.{PortEvent}
use Rattle.fuse_session.specs.declared.port.Received.{Received as Receipt}
use Rattle.fuse_session.proofs.Turns.{turned_none, turned_quiet, turned_more, turned_broken, turned_life}

pub hearing_replied : (a b : PortState) → IsHearing a b → Replied a b [] []
hearing_replied a b h = record {
  sent = subst (λ o. Appends a.sent o []) (sym h.sent) (appends_none a.sent);
  some = tt;
  places = [];
  gone = h.gone ∙ sym (append-nil a.gone);
  placed = refl;
  confirms = h.confirms;
}

-- the bytes that are held, and more after them
cut_more : CutJoins → (held mid r1 r2 : List ℕ) → mid ≡ (cut (held ++ r1)).1
    → cut (held ++ (r1 ++ r2)) ≡ ((cut (held ++ r1)).0 ++ (cut (mid ++ r2)).0, (cut (mid ++ r2)).1)
cut_more joins held mid r1 r2 is =
    ap cut (sym (append_assoc held r1 r2)) ∙ joins (held ++ r1) r2 ∙ ap (λ (w : List ℕ). ((cut (held ++ r1)).0 ++ (cut (w ++ r2)).0, (cut (w ++ r2)).1))
    (sym is)

prefix_more : CutJoins → (held mid r1 r2 : List ℕ) → mid ≡ (cut (held ++ r1)).1 → (cut (held ++ r1)).0 ++ (cut (mid ++ r2)).0 ≡ (cut (held ++ (r1 ++ r2))).0
prefix_more joins held mid r1 r2 is = sym (ap (λ (x : List (List ℕ) × List ℕ). x.0) (cut_more joins held mid r1 r2 is))

rest_more : CutJoins → (held mid r1 r2 : List ℕ) → mid ≡ (cut (held ++ r1)).1 → (cut (mid ++ r2)).1 ≡ (cut (held ++ (r1 ++ r2))).1
rest_more joins held mid r1 r2 is = sym (ap (λ (x : List (List ℕ) × List ℕ). x.1) (cut_more joins held mid r1 r2 is))

place_more : CutJoins → (held mid r1 r2 : List ℕ) (begin at place : ℕ) → mid ≡ (cut (held ++ r1)).1 → at ≡ begin + length (joined (cut (held ++ r1)).0)
    → place ≡ at + length (joined (cut (mid ++ r2)).0)
    → place ≡ begin + length (joined (cut (held ++ (r1 ++ r2))).0)
place_more joins held mid r1 r2 begin at place is one two =
    let a = (cut (held ++ r1)).0 in
    let b = (cut (mid ++ r2)).0 in
    omega (
      arith,
      one,
      two,
      ap (λ x. length (joined x)) (prefix_more joins held mid r1 r2 is),
      ap length (joined-append a b),
      length-append (joined a)
          (joined b),
    )

-- ---- a turn more

pub whole_more : (M : Model) → HistoriesGrow M → CutJoins → (holds mid new : KeeperState M) (did did' did'' : Deeds → Type 0) (p q r : PortState)
    (w w' w'' : Waiting) (counts counts' : SessionCounts)
    → (one : Whole (passage holds mid p q did) w w' counts) → Whole (passage mid new q r did') w' w'' counts'
    → (new.is_honest → mid.is_honest) → ((b : Deeds) → did' b → did'' (then_did one.turned.work.deeds b))
    → Whole (passage holds new p r did'') w w'' (plus counts counts')
whole_more M grows joins holds mid new did did' did'' p q r w w' w'' counts counts' one two honest_too onward = record {
  received = one.received ++ two.received;
  came = consumes_more p.coming q.coming r.coming one.received two.received one.came two.came;
  rest_is = two.rest_is ∙ rest_more joins w.bytes w'.bytes one.received two.received one.rest_is;
  at = place_more joins w.bytes w'.bytes one.received two.received w.at w'.at w''.at one.rest_is one.at two.at;
  turned = subst (λ f. TookTurn (passage holds new p r (Hears did'' (one.received ++ two.received))) w.pending w''.pending f true (plus counts counts'))
      (prefix_more joins w.bytes w'.bytes one.received two.received one.rest_is)
      (turned_more M grows holds mid new (Hears did one.received) (Hears did' two.received) (Hears did'' (one.received ++ two.received)) p q r
      w.pending w'.pending w''.pending (cut (w.bytes ++ one.received)).0 (cut (w'.bytes ++ two.received)).0 true counts
      counts' one.turned two.turned honest_too
      (λ b x. hears_more did' did'' one.turned.work.deeds b one.received two.received one.turned.work.done.1 (onward b) x));
}

pub halted_more : (M : Model) → HistoriesGrow M → CutJoins → (holds mid new : KeeperState M) (did did' did'' : Deeds → Type 0) (p q r : PortState)
    (w w' : Waiting) (next : Next) (count place : ℕ) (counts counts' : SessionCounts)
    → (one : Whole (passage holds mid p q did) w w' counts)
    → Halted (passage mid new q r did') w' (record { count = count; next = next; counts = counts' }) place
    → (new.is_honest → mid.is_honest) → ((b : Deeds) → did' b → did'' (then_did one.turned.work.deeds b))
    → Halted (passage holds new p r did'') w
    (record { count = length (cut (w.bytes ++ one.received)).0 + count; next = next; counts = plus counts counts' }) place
halted_more M grows joins holds mid new did did' did'' p q r w w' next count place counts counts' one two honest_too onward =
    let a = (cut (w.bytes ++ one.received)).0 in
    let b = (cut (w'.bytes ++ two.received)).0 in
    let all : a ++ b ≡ (cut (w.bytes ++ (one.received ++ two.received))).0 = prefix_more joins w.bytes w'.bytes one.received two.received one.rest_is in
    let t = two.processed in
    record {
      received = one.received ++ two.received;
      came = consumes_more p.coming q.coming r.coming one.received two.received one.came two.came;
      pending' = two.pending';
      processed = subst (λ ms. ProcessedAll (passage holds new p r (Hears did'' (one.received ++ two.received))) w.pending two.pending' ms
          (record { count = length a + count; next = next; counts = plus counts counts' })) all
          (record {
            all = λ goes. drop-append-add a b count ∙ t.all goes;
            zero = λ zero. subst StartsZero (sym (drop-append-add a b count)) (t.zero zero);
            turned = subst (λ f. TookTurn (passage holds new p r (Hears did'' (one.received ++ two.received))) w.pending two.pending' f (lasts next)
                (plus counts counts')) (sym (take-append-add a b count))
                (turned_more M grows holds mid new (Hears did one.received) (Hears did' two.received) (Hears did'' (one.received ++ two.received)) p q r
                w.pending w'.pending two.pending' a (take count b) (lasts next) counts counts' one.turned t.turned honest_too
                (λ d x. hears_more did' did'' one.turned.work.deeds d one.received two.received one.turned.work.done.1 (onward d) x));
          });
      at = omega (
        arith,
        one.at,
        two.at,
        ap (λ ms. length (joined (take (length a + count) ms))) all,
        ap (λ ms. length (joined ms)) (take-append-add a b count),
        ap length (joined-append a (take count b)),
        length-append (joined a) (joined (take count b)),
      );
    }

pub life_more : (M : Model) → HistoriesGrow M → CutJoins → (holds mid new : KeeperState M) (did did' did'' : Deeds → Type 0) (p q r : PortState)
    (w w' : Waiting) (counts : SessionCounts) (e : Ended)
    → (one : Whole (passage holds mid p q did) w w' counts) → Run (passage mid new q r did') w' e → AnswersNoMore holds mid
    → (new.is_honest → mid.is_honest) → (mid.is_honest → IsFirm holds → IsFirm mid)
    → ((b : Deeds) → did' b → did'' (then_did one.turned.work.deeds b))
    → Run (passage holds new p r did'') w e
life_more M grows joins holds mid new did did' did'' p q r w w' counts e one two no_more honest_too firm_too onward = record {
  received = one.received ++ two.received;
  came = consumes_more p.coming q.coming r.coming one.received two.received one.came two.came;
  broken = subst (λ f. Broken (passage holds new p r (Hears did'' (one.received ++ two.received))) w.pending f e)
      (prefix_more joins w.bytes w'.bytes one.received two.received one.rest_is)
      (turned_broken M grows holds mid new (Hears did one.received) (Hears did' two.received) (Hears did'' (one.received ++ two.received)) p q r
      w.pending w'.pending (cut (w.bytes ++ one.received)).0 (cut (w'.bytes ++ two.received)).0 counts e
      one.turned two.broken no_more honest_too firm_too
      (λ b x. hears_more did' did'' one.turned.work.deeds b one.received two.received one.turned.work.done.1 (onward b) x));
}

-- all messages were processed: a life too
pub whole_life : (M : Model) → StillStands M → (holds new : KeeperState M) (did : Deeds → Type 0) (p q : PortState) (w w' : Waiting) (counts : SessionCounts) (e : Ended)
    → ended_store e ≡ false → Whole (passage holds new p q did) w w' counts → (new.is_honest → IsFirm holds → IsFirm new)
    → Run (passage holds new p q did) w e
whole_life M still holds new did p q w w' counts e inexact one firm_still = record {
  received = one.received;
  came = one.came;
  broken = turned_life M still holds new (Hears did one.received) p q w.pending w'.pending (cut (w.bytes ++ one.received)).0 [] (cut (w.bytes ++ one.received)).0 true
      counts e inexact one.turned (sym (append-nil (cut (w.bytes ++ one.received)).0)) firm_still;
}

cut_none : cut [] ≡ ([], [])
unfolding cut
cut_none = refl

-- nothing came yet
pub whole_none : (M : Model) → (holds : KeeperState M) (did : Deeds → Type 0) (p : PortState) → did no_deeds
    → Whole (passage holds holds p p did) nothing_waits nothing_waits none_counted
whole_none M holds did p none = record {
  received = [];
  came = consumes_none p.coming;
  rest_is = sym (ap (λ (x : List (List ℕ) × List ℕ). x.1) cut_none);
  at = omega (arith, ap (λ (x : List (List ℕ) × List ℕ). length (joined x.0)) cut_none);
  turned = subst (λ f. TookTurn (passage holds holds p p (Hears did [])) [] [] f true none_counted) (sym (ap (λ (x : List (List ℕ) × List ℕ). x.0) cut_none))
      (turned_none M holds (Hears did []) p [] (none, refl));
}

-- ---- what came in a turn

-- one receive, as a turn in which nothing was done but this
quiet_heard : (M : Model) → (holds : KeeperState M) (p q : PortState) (ids : List ℕ) (result : Receipt) (bytes : List ℕ) → IsHearing p q
    → TookTurn (passage holds holds p q (λ d. d ≡ one_heard result bytes)) ids ids [] true none_counted
quiet_heard M holds p q ids result bytes hearing =
    turned_quiet M holds (λ d. d ≡ one_heard result bytes) p q ids (one_heard result bytes) refl refl refl refl (hearing_replied p q hearing)

heard_turned : (M : Model) → HistoriesGrow M → (holds new : KeeperState M) → (new.is_honest → holds.is_honest)
    → (did did' : Deeds → Type 0) (p q r : PortState) (ids ids' : List ℕ) (prefix : List (List ℕ)) (going : Bool) (counts : SessionCounts) (result : Receipt)
    (bytes : List ℕ) → ((b : Deeds) → did b → Hears did' bytes (then_did (one_heard result bytes) b)) → IsHearing p q
    → TookTurn (passage holds new q r did) ids ids' prefix going counts → TookTurn (passage holds new p r (Hears did' bytes)) ids ids' prefix going counts
heard_turned M grows holds new honest did did' p q r ids ids' prefix going counts result bytes onward hearing t =
    subst (λ c. TookTurn (passage holds new p r (Hears did' bytes)) ids ids' prefix going c) (none_plus counts)
    (let quiet = quiet_heard M holds p q ids result bytes hearing in
    turned_more M grows holds holds new (λ d. d ≡ one_heard result bytes) did (Hears did' bytes) p q r ids ids ids' [] prefix going none_counted counts
    quiet t honest (λ b x. subst (λ d. Hears did' bytes (then_did d b)) (sym quiet.work.done) (onward b x)))

-- the messages that wait are those of the bytes that came
pub heard_messages : (comes : List ℕ → Type 0) (before after : HeldBytes) (messages slice : List (List ℕ)) (fault : Option FrameFault)
    → (h : Heard comes before after messages fault) → slice ≡ messages → slice ≡ (cut (before.bytes ++ h.received)).0
heard_messages comes before after messages slice fault h same = same ∙ sym (ap (λ (x : List (List ℕ) × List ℕ). x.0) h.took.cut_is)

pub whole_heard : (M : Model) → HistoriesGrow M → (holds new : KeeperState M) → (new.is_honest → holds.is_honest)
    → (did did' : Deeds → Type 0) (became : List PortEvent → Type 0) (p q r : PortState) (ids ids' : List ℕ) (before after : HeldBytes) (messages slice : List (List ℕ)) (fault : Option FrameFault)
    (progress : Progress)
    → (h : Heard (Comes became p q) before after messages fault)
    → ((b : Deeds) → did b → Hears did' h.received (then_did (one_heard h.came.result h.received) b)) → IsHearing p q → slice ≡ messages → progress.next ≡ GoesOnHere
    → ProcessedAll (passage holds new q r did) ids ids' slice progress → IsQuiet q r
    → Whole (passage holds new p r did') (waits ids before) (waits ids' after) progress.counts
whole_heard M grows holds new honest did did' became p q r ids ids' before after messages slice fault progress h onward hearing same goes w quiet =
    let msgs = heard_messages (Comes became p q) before after messages slice fault h same in
    let all : take progress.count slice ≡ slice = sym (append-nil (take progress.count slice))
    ∙ ap (λ l. take progress.count slice ++ l) (sym (w.all (ap goes_on goes))) ∙ take-append-drop progress.count slice in
    record {
      received = h.received;
      came = subst (λ o. Consumes p.coming o h.received) (sym quiet.coming) h.came.bytes;
      rest_is = sym (ap (λ (x : List (List ℕ) × List ℕ). x.1) h.took.cut_is);
      at = h.took.at ∙ ap (λ x. before.at + length (joined x)) (sym same ∙ msgs);
      turned = subst (λ f. TookTurn (passage holds new p r (Hears did' h.received)) ids ids' f true progress.counts) (all ∙ msgs)
          (subst (λ b. TookTurn (passage holds new p r (Hears did' h.received)) ids ids' (take progress.count slice) b progress.counts) (ap lasts goes)
          (heard_turned M grows holds new honest did did' p q r ids ids' (take progress.count slice) (lasts progress.next) progress.counts h.came.result h.received
          onward hearing w.turned));
    }

pub halted_heard : (M : Model) → HistoriesGrow M → (holds new : KeeperState M) → (new.is_honest → holds.is_honest)
    → (did did' : Deeds → Type 0) (became : List PortEvent → Type 0) (p q r : PortState) (ids ids' : List ℕ) (before after : HeldBytes) (messages slice : List (List ℕ)) (fault : Option FrameFault)
    (progress : Progress) (kind : Next)
    → (h : Heard (Comes became p q) before after messages fault)
    → ((b : Deeds) → did b → Hears did' h.received (then_did (one_heard h.came.result h.received) b)) → IsHearing p q → slice ≡ messages
    → progress.next ≡ kind → ProcessedAll (passage holds new q r did) ids ids' slice progress → IsQuiet q r
    → Halted (passage holds new p r did') (waits ids before) (record { count = progress.count; next = kind; counts = progress.counts })
    (before.at + length (joined (take progress.count slice)))
halted_heard M grows holds new honest did did' became p q r ids ids' before after messages slice fault progress kind h onward hearing same kind_is w quiet =
    let msgs = heard_messages (Comes became p q) before after messages slice fault h same in
    record {
      received = h.received;
      came = subst (λ o. Consumes p.coming o h.received) (sym quiet.coming) h.came.bytes;
      pending' = ids';
      processed = subst (λ ms. ProcessedAll (passage holds new p r (Hears did' h.received)) ids ids' ms
          (record { count = progress.count; next = kind; counts = progress.counts })) msgs
          (record {
            all = λ goes. w.all (ap goes_on kind_is ∙ goes);
            zero = λ zero. w.zero (kind_is ∙ zero);
            turned = subst (λ b. TookTurn (passage holds new p r (Hears did' h.received)) ids ids' (take progress.count slice) b progress.counts) (ap lasts kind_is)
                (heard_turned M grows holds new honest did did' p q r ids ids' (take progress.count slice) (lasts progress.next) progress.counts h.came.result
                h.received onward hearing w.turned);
          });
      at = ap (λ ms. before.at + length (joined (take progress.count ms))) msgs;
    }

pub life_heard : (M : Model) → HistoriesGrow M → (holds new : KeeperState M) → (new.is_honest → holds.is_honest)
    → (did did' : Deeds → Type 0) (became : List PortEvent → Type 0) (p q r : PortState) (ids : List ℕ) (before after : HeldBytes) (messages slice : List (List ℕ)) (fault : Option FrameFault)
    (e : Ended)
    → (h : Heard (Comes became p q) before after messages fault)
    → ((b : Deeds) → did b → Hears did' h.received (then_did (one_heard h.came.result h.received) b)) → IsHearing p q → slice ≡ messages
    → Broken (passage holds new q r did) ids slice e → IsQuiet q r
    → Run (passage holds new p r did') (waits ids before) e
life_heard M grows holds new honest did did' became p q r ids before after messages slice fault e h onward hearing same b quiet =
    let msgs = heard_messages (Comes became p q) before after messages slice fault h same in
    let silence = quiet_heard M holds p q ids h.came.result h.received hearing in
    record {
      received = h.received;
      came = subst (λ o. Consumes p.coming o h.received) (sym quiet.coming) h.came.bytes;
      broken = subst (λ m. Broken (passage holds new p r (Hears did' h.received)) ids m e) msgs
          (turned_broken M grows holds holds new (λ d. d ≡ one_heard h.came.result h.received) did (Hears did' h.received) p q r ids ids [] slice none_counted
          e silence b (λ honest f may. may) honest (λ _ f. f)
          (λ d x. subst (λ e. Hears did' h.received (then_did e d)) (sym silence.work.done) (onward d x)));
    }

-- Groups, one after another.
use Rattle.std.proofs.Common.{◌≡◌, inl, inr, ⊎_elim, ℕ, ◌+◌, ◌-◌, ◌≤◌, Bool, true, false, not, List, [], ◌∷◌, ◌++◌, length, take, drop, get_or, ◌<◌, refl, sym, ap, subst, ◌∙◌}
use Rattle.std.proofs.Common.{append_assoc, arith, length-append, length-drop}
use Rattle.std.proofs.lemmas.List.{append-nil, take-append-drop, take_all, take-append-le, drop_all, take_more, drop-drop, map-append, length-map}
use Rattle.std.proofs.Math.Seq.{take-add, take-append-add}
use Rattle.fuse_request.specs.Opcodes.{Service}
use Rattle.fuse_wire.specs.declared.moment.Moment.{Moment}
use Rattle.fuse_request.specs.Stream.{joined}
use Rattle.fuse_keeper.specs.declared.fault.StoreFault.{StoreFault}
use Rattle.fuse_keeper.specs.Group.{left_pending}
use Rattle.fuse_keeper.specs.History.{History, grown, said, is_in, Includes, HistoriesGrow}
use Rattle.fuse_keeper.specs.Model.{Model}
use Rattle.fuse_keeper.specs.Stands.{Standing, Stands, StillStands}
use Rattle.fuse_keeper.specs.KeeperState.{KeeperState, StandsFor, IsFirm, AnswersNoMore}
use Rattle.fuse_session.specs.declared.counts.SessionCounts.{SessionCounts}
use Rattle.fuse_session.specs.declared.ended.Ended.{Ended}
use Rattle.fuse_session.specs.declared.ended.Ended.TheVariants as ended
use Rattle.fuse_session.specs.declared.group.Next.{Next}
use Rattle.fuse_session.specs.declared.group.Next.TheVariants.{GoesOn as GoesOnHere, Destroyed, ZeroUnique}
use Rattle.fuse_session.specs.Port.{PortState}
use Rattle.fuse_session.specs.Processed.{Timed, bytes_of, kept_in, own_answers, says_zero, message_id, StartsZero, GoesOn, Works}
use Rattle.fuse_session.specs.Processed.{moments_in}
use Rattle.fuse_session.specs.Settling.{Mark, replies, settled_in, NoneComesAgain, SentUpTo, Replied, FewHave}
use Rattle.fuse_session.specs.Counting.{plus, none_counted, counted}
use Rattle.fuse_session.specs.Batches.{Batch, timed_in, marks_in, pending_after, left_over, AllAnswered}
use Rattle.fuse_session.specs.Ended.{ended_store, MayEnd, IsIntact}
use Rattle.fuse_session.specs.Passage.{Passage, passage}
use Rattle.fuse_session.specs.Exchange.{grown_by, HoldsAt, Lived, Exact, FirstAnswered}
use Rattle.fuse_session.specs.Serving.{Work, settled_with, TookTurn, Broken, ProcessedAll, lasts, goes_on}
use Rattle.fuse_session.proofs.Firsts.{either_part, again_some, first_unsent}
use Rattle.fuse_session.proofs.Standing.{standing, exchanged, StandAt}
use Rattle.fuse_session.proofs.Handing.{left_within}
use Rattle.fuse_session.proofs.Replies.{replied_none, replied_more, joined-append, replies-append}
use Rattle.fuse_session.proofs.Outs.{own_answers-append, grown_kept, Works-append, GoesOn-append}
use Rattle.fuse_session.proofs.Settled.{settled-append, again-parts, includes_left, includes_right, in_either}
use Rattle.fuse_session.proofs.Gathering.{moments-append}
use Rattle.fuse_session.proofs.Batching.{are_more, answered_more, answered_last, answered_all, asked_both, left_both, rests_more, some_more, some_all}
use Rattle.fuse_session.proofs.Transcripts.{handed_more}
use Rattle.fuse_session.specs.Deeds.{Deeds}
use Rattle.fuse_session.proofs.Doing.{no_deeds, then_did}
use Rattle.fuse_session.specs.Transcript.{PortEvent, handed_in}
use Rattle.fuse_session.specs.Slices.{RestsOfAll, RestsOfSome}
use Rattle.fuse_session.proofs.Counted.{counted-append}
use Rattle.fuse_session.proofs.Groups.{leaves_map, firm_leaves, lived_all, exact_all}
use Rattle.fuse_session.proofs.Looking.{none_both, looked_none, looked_then, looked_if}

bytes-append : (xs ys : List Timed) → bytes_of (xs ++ ys) ≡ bytes_of xs ++ bytes_of ys
bytes-append xs ys = map-append (λ (t : Timed). t.bytes) xs ys

-- nothing was processed
pub turned_quiet : (M : Model) → (holds : KeeperState M) (did : Deeds → Type 0) (p q : PortState) (pending : List ℕ) (deeds : Deeds) → did deeds
    → deeds.moments ≡ [] → deeds.asked ≡ [] → handed_in deeds.events ≡ [] → Replied p q [] []
    → TookTurn (passage holds holds p q did) pending pending [] true none_counted
turned_quiet M holds did p q pending deeds done none unasked unhanded replied = record {
  work = record {
    timed = [];
    marks = [];
    deeds = deeds;
    done = done;
    batches = [];
    are = record { messages = refl; answers = refl };
    asked = unasked;
    first = λ _. first_unsent M holds p.confirms pending [] (λ s h. tt);
  };
  bytes = refl;
  full = refl;
  moments = none;
  answered = tt;
  left = refl;
  slices = unhanded;
  replied = replied;
  all = λ honest s h t so within again. record {
    works = tt;
    goes = λ _. tt;
    last = λ isnt. absurd (cc isnt);
    stands = subst (StandsFor holds s h) (sym (append-nil t)) so;
    sent = refl;
    counts_are = refl;
  };
  few = λ honest t again h. subst (λ (u : List ℕ). FewHave holds u pending) (sym (append-nil t)) h;
  destroyed = λ isnt. absurd (cc isnt);
  looked = λ _. looked_none M holds holds.is_honest;
}

pub turned_none : (M : Model) → (holds : KeeperState M) (did : Deeds → Type 0) (p : PortState) (pending : List ℕ) → did no_deeds
    → TookTurn (passage holds holds p p did) pending pending [] true none_counted
turned_none M holds did p pending none = turned_quiet M holds did p p pending no_deeds none refl refl refl (replied_none p)

-- the moments of two rows of messages
moments_both : (V : Service) → (xs ys : List Timed) (a b more : List Moment) → a ≡ moments_in V xs → b ≡ moments_in V ys ++ more
    → a ++ b ≡ moments_in V (xs ++ ys) ++ more
moments_both V xs ys a b more one two =
    ap (λ (l : List Moment). l ++ b) one ∙ ap (λ (l : List Moment). moments_in V xs ++ l) two
    ∙ sym (append_assoc (moments_in V xs) (moments_in V ys) more) ∙ ap (λ (l : List Moment). l ++ more) (sym (moments-append V xs ys))

-- the slices of two rows of answers
slices_both : (ms ns : List Mark) (a b : List PortEvent) → RestsOfAll ms (handed_in a) → RestsOfAll ns (handed_in b) → RestsOfAll (ms ++ ns) (handed_in (a ++ b))
slices_both ms ns a b one two =
    subst (RestsOfAll (ms ++ ns)) (sym (handed_more a b)) (rests_more ms ns (handed_in a) (handed_in b) one two)

-- the settled ids of two rows of messages
settled_both : (V : Service) → (c c' : Bool) (t : List ℕ) (xs ys : List Timed) (ms ns : List Mark) → c' ≡ c → length ms ≡ length xs
    → (t ++ settled_in V c (bytes_of xs) ms) ++ settled_in V c' (bytes_of ys) ns ≡ t ++ settled_in V c (bytes_of (xs ++ ys)) (ms ++ ns)
settled_both V c c' t xs ys ms ns same full =
    append_assoc t (settled_in V c (bytes_of xs) ms) (settled_in V c' (bytes_of ys) ns)
    ∙ ap (λ b. t ++ (settled_in V c (bytes_of xs) ms ++ settled_in V b (bytes_of ys) ns)) same
    ∙ ap (λ (q : List ℕ). t ++ q) (sym (settled-append V c (bytes_of xs) (bytes_of ys) ms ns (full ∙ sym (length-map xs (λ (t : Timed). t.bytes))))
    ∙ ap (λ b. settled_in V c b (ms ++ ns)) (sym (bytes-append xs ys)))

-- none of two rows of messages comes again
again_both : (V : Service) → (c c' : Bool) (t : List ℕ) (xs ys : List Timed) (ms ns : List Mark) → c' ≡ c → length ms ≡ length xs
    → NoneComesAgain V c t (bytes_of (xs ++ ys)) (ms ++ ns)
    → NoneComesAgain V c t (bytes_of xs) ms × NoneComesAgain V c' (t ++ settled_in V c (bytes_of xs) ms) (bytes_of ys) ns
again_both V c c' t xs ys ms ns same full each =
    let parts = again-parts V c t (bytes_of xs) (bytes_of ys) ms ns (full ∙ sym (length-map xs (λ (t : Timed). t.bytes)))
    (subst (λ b. NoneComesAgain V c t b (ms ++ ns)) (bytes-append xs ys) each) in
    (parts.0, subst (λ b. NoneComesAgain V b (t ++ settled_in V c (bytes_of xs) ms) (bytes_of ys) ns) (sym same) parts.1)

-- ---- the ids that are pending

both_included : (t pending mid more pending' : List ℕ) → Includes t pending → ((u : List ℕ) → Includes u pending → Includes u mid) → pending' ≡ mid ++ more
    → Includes (t ++ more) pending'
both_included t pending mid more pending' within f is i there =
    ⊎_elim (λ old. includes_left t more i (f t within i old)) (λ new. includes_right t more i new) (in_either mid more i (sym (ap (λ x. is_in x i) is) ∙ there))

-- the ids that are pending after batches were settled before or by the answers to these
left_settled : (V : Service) (c : Bool) (pending : List ℕ) (bs : List Batch) (t : List ℕ) → AllAnswered bs → Includes t pending
    → Includes (t ++ settled_in V c (bytes_of (timed_in bs)) (marks_in bs)) (left_over V c pending bs)
left_settled V c pending [] t answered within = subst (λ (u : List ℕ). Includes u pending) (sym (append-nil t)) within
left_settled V c pending (b ∷ bs) t answered within =
    let es = kept_in V b.timed in
    let here = settled_in V c (bytes_of b.timed) b.marks in
    subst (λ (u : List ℕ). Includes u (left_over V c (pending_after V c pending b) bs))
    (settled_both V c c t b.timed (timed_in bs) b.marks (marks_in bs) refl answered.0)
    (left_settled V c (pending_after V c pending b) bs (t ++ here) answered.1
    (both_included t pending (left_pending es pending) here (pending_after V c pending b) within (left_within pending (left_pending es pending) es refl) refl))

pub still_pending : (M : Model) → (p : Passage M) (ids ids' : List ℕ) (prefix : List (List ℕ)) (going : Bool) (counts : SessionCounts)
    → (one : TookTurn p ids ids' prefix going counts) → (t : List ℕ) → Includes t ids → Includes (settled_with t one.work) ids'
still_pending M p ids ids' prefix going counts one t within =
    let w = one.work in
    let c = p.port.confirms in
    subst (λ (l : List ℕ). Includes (settled_with t w) l) (sym one.left)
    (subst (λ (ts : List Timed). Includes (t ++ settled_in M.service c (bytes_of ts) w.marks) (left_over M.service c ids w.batches)) (sym w.are.messages)
    (subst (λ (ms : List Mark). Includes (t ++ settled_in M.service c (bytes_of (timed_in w.batches)) ms) (left_over M.service c ids w.batches)) (sym w.are.answers)
    (left_settled M.service c ids w.batches t one.answered within)))

-- ---- messages, and then others

-- the first of both
first_more : (M : Model) → HistoriesGrow M → (holds mid new : KeeperState M) (did did' : Deeds → Type 0) (p q r : PortState)
    (ids ids' : List ℕ) (prefix : List (List ℕ)) (counts : SessionCounts)
    → (one : TookTurn (passage holds mid p q did) ids ids' prefix true counts) (two : Work (passage mid new q r did') ids') → (new.is_honest → mid.is_honest)
    → new.is_honest → FirstAnswered holds ids (exchanged p.confirms (one.work.timed ++ two.timed) (one.work.marks ++ two.marks))
first_more M grows holds mid new did did' p q r ids ids' prefix counts one two honest_too honest first others parts s h t so within again =
    let a = one.work in
    let V = M.service in
    let c = p.confirms in
    let same = one.replied.confirms in
    elim (either_part a.timed two.timed first others parts) [
      | inl here ↦
          let few : length first ≤ length a.marks = omega (arith, one.full, ap length here.1, length-append first here.0) in
          let said = a.first (honest_too honest) first here.0 here.1 s h t so within
          (again_some V c t (bytes_of first) a.marks two.marks (omega (arith, few, length-map first (λ (x : Timed). x.bytes))) again) in
          record {
            works = said.works;
            unsent = said.unsent;
            sent = said.sent ∙ ap (λ (l : List Mark). replies l ++ said.unsent) (sym (take-append-le (length first) a.marks two.marks few));
          }
      | inr there ↦
          let zs = there.0 in
          let again' = again_both V c q.confirms t a.timed zs a.marks two.marks same one.full
          (subst (λ (l : List Timed). NoneComesAgain V c t (bytes_of l) (a.marks ++ two.marks)) there.1 again) in
          let x = one.all (honest_too honest) s h t so within again'.0 in
          let g = grown h (kept_in V a.timed) in
          let y = two.first honest zs others there.2 s g (settled_with t a) x.stands
          (still_pending M (passage holds mid p q did) ids ids' prefix true counts one t within) again'.1 in
          let long : length first ≡ length a.marks + length zs = ap length there.1 ∙ length-append a.timed zs ∙ ap (λ n. n + length zs) (sym one.full) in
          record {
            works = subst (Works M s h) (sym there.1) (Works-append M s h a.timed zs (x.goes refl) y.works);
            unsent = y.unsent;
            sent =
                ap (own_answers M s h) there.1 ∙ own_answers-append M grows s h a.timed zs
                ∙ ap (λ l. l ++ own_answers M s g zs) (sym x.sent) ∙ ap (λ l. replies a.marks ++ l) y.sent
                ∙ sym (append_assoc (replies a.marks) (replies (take (length zs) two.marks)) y.unsent)
                ∙ ap (λ l. l ++ y.unsent) (sym (replies-append a.marks (take (length zs) two.marks)) ∙ ap replies (sym (take-append-add a.marks two.marks (length zs))
                ∙ ap (λ n. take n (a.marks ++ two.marks)) (sym long)));
          }
    ]

-- what was done for both
abbrev work_more : (M : Model) → HistoriesGrow M → (holds mid new : KeeperState M) (did did' did'' : Deeds → Type 0) (p q r : PortState)
    (ids ids' : List ℕ) (prefix : List (List ℕ)) (counts : SessionCounts)
    → (one : TookTurn (passage holds mid p q did) ids ids' prefix true counts) (two : Work (passage mid new q r did') ids') → (new.is_honest → mid.is_honest)
    → ((b : Deeds) → did' b → did'' (then_did one.work.deeds b)) → Work (passage holds new p r did'') ids
work_more M grows holds mid new did did' did'' p q r ids ids' prefix counts one two honest_too onward = record {
  timed = one.work.timed ++ two.timed;
  marks = one.work.marks ++ two.marks;
  deeds = then_did one.work.deeds two.deeds;
  done = onward two.deeds two.done;
  batches = one.work.batches ++ two.batches;
  are = are_more one.work.batches two.batches one.work.timed two.timed one.work.marks two.marks one.work.are two.are;
  asked = asked_both M.service p.confirms q.confirms ids ids' one.work.batches two.batches one.work.deeds.asked two.deeds.asked one.replied.confirms one.left
      one.work.asked two.asked;
  first = first_more M grows holds mid new did did' p q r ids ids' prefix counts one two honest_too;
}

pub turned_more : (M : Model) → HistoriesGrow M → (holds mid new : KeeperState M) (did did' did'' : Deeds → Type 0) (p q r : PortState)
    (ids ids' ids'' : List ℕ) (prefix prefix' : List (List ℕ)) (going : Bool) (counts counts' : SessionCounts)
    → (one : TookTurn (passage holds mid p q did) ids ids' prefix true counts) → TookTurn (passage mid new q r did') ids' ids'' prefix' going counts'
    → (new.is_honest → mid.is_honest) → ((b : Deeds) → did' b → did'' (then_did one.work.deeds b))
    → TookTurn (passage holds new p r did'') ids ids'' (prefix ++ prefix') going (plus counts counts')
turned_more M grows holds mid new did did' did'' p q r ids ids' ids'' prefix prefix' going counts counts' one two honest_too onward =
    let a = one.work in
    let b = two.work in
    let c = p.confirms in
    let same = one.replied.confirms in
    record {
      work = work_more M grows holds mid new did did' did'' p q r ids ids' prefix counts one b honest_too onward;
      bytes = ap (λ f. f ++ prefix') one.bytes ∙ ap (λ f. bytes_of a.timed ++ f) two.bytes ∙ sym (bytes-append a.timed b.timed);
      full = length-append a.marks b.marks ∙ ap (λ n. n + length b.marks) one.full ∙ ap (λ n. length a.timed + n) two.full
          ∙ sym (length-append a.timed b.timed);
      moments = moments_both M.service a.timed b.timed a.deeds.moments b.deeds.moments [] one.moments
          (two.moments ∙ sym (append-nil (moments_in M.service b.timed))) ∙ append-nil (moments_in M.service (a.timed ++ b.timed));
      answered = answered_more a.batches b.batches one.answered two.answered;
      left = left_both M.service c q.confirms ids ids' ids'' a.batches b.batches same one.left two.left;
      slices = slices_both a.marks b.marks a.deeds.events b.deeds.events one.slices two.slices;
      replied = replied_more p q r a.marks b.marks [] one.replied two.replied;
      all = λ is s h t so within again.
          let parts = again_both M.service c q.confirms t a.timed b.timed a.marks b.marks same one.full again in
          let x = one.all (honest_too is) s h t so within parts.0 in
          let g = grown h (kept_in M.service a.timed) in
          let u = t ++ settled_in M.service c (bytes_of a.timed) a.marks in
          let y = two.all is s g u x.stands (still_pending M (passage holds mid p q did) ids ids' prefix true counts one t within) parts.1 in
          record {
            works = Works-append M s h a.timed b.timed (x.goes refl) y.works;
            goes = λ going_on. GoesOn-append M s h a.timed b.timed (x.goes refl) (y.goes going_on);
            last = λ over.
                let l = y.last over in
                record {
                  earlier = a.timed ++ l.earlier;
                  one = l.one;
                  parts = ap (λ f. a.timed ++ f) l.parts ∙ sym (append_assoc a.timed l.earlier (l.one ∷ []));
                  ends = (l.ends.0, ap (λ z. says_zero (said M s z (message_id l.one.bytes))) (grown_kept M.service h a.timed b.timed) ∙ l.ends.1);
                };
            stands = subst (λ z. StandsFor new s z (t ++ settled_in M.service c (bytes_of (a.timed ++ b.timed)) (a.marks ++ b.marks)))
                (sym (grown_kept M.service h a.timed b.timed))
                (subst (StandsFor new s (grown g (kept_in M.service b.timed)))
                (settled_both M.service c q.confirms t a.timed b.timed a.marks b.marks same one.full) y.stands);
            sent = replies-append a.marks b.marks ∙ ap (λ z. z ++ replies b.marks) x.sent ∙ ap (λ z. own_answers M s h a.timed ++ z) y.sent
                ∙ sym (own_answers-append M grows s h a.timed b.timed);
            counts_are = ap (λ z. plus z counts') x.counts_are ∙ ap (plus (counted M.service h a.timed)) y.counts_are
                ∙ sym (counted-append M.service h a.timed b.timed);
          };
      few = λ is t again h.
          let parts = again_both M.service c q.confirms t a.timed b.timed a.marks b.marks same one.full again in
          subst (λ (u : List ℕ). FewHave new u ids'') (settled_both M.service c q.confirms t a.timed b.timed a.marks b.marks same one.full)
          (two.few is (t ++ settled_in M.service c (bytes_of a.timed) a.marks) parts.1 (one.few (honest_too is) t parts.0 h));
      destroyed = λ over.
          let l = two.destroyed over in
          record {
            earlier = a.timed ++ l.earlier;
            one = l.one;
            parts = ap (λ f. a.timed ++ f) l.parts ∙ sym (append_assoc a.timed l.earlier (l.one ∷ []));
            destroy = l.destroy;
          };
      looked = λ none.
          let parts = none_both M.service a.timed b.timed none in
          looked_then M holds mid new new.is_honest (λ is. is) honest_too (one.looked parts.0) (two.looked parts.1);
    }

-- a life after messages that were answered
lived_more : (M : Model) → HistoriesGrow M → (Stood : Standing M → Type 0) (s : M.State) (h : History) (c c' : Bool) (t : List ℕ) (xs ys : List Timed)
    (ms ns : List Mark) (answer : List ℕ) → c' ≡ c → length ms ≡ length xs
    → GoesOn M s h xs → replies ms ≡ own_answers M s h xs
    → Lived M (grown_by (standing M s h t) (exchanged c xs ms)) (exchanged c' ys ns) Stood answer
    → Lived M (standing M s h t) (exchanged c (xs ++ ys) (ms ++ ns)) Stood answer
lived_more M grows Stood s h c c' t xs ys ms ns answer same full goes sent l =
    let g = grown h (kept_in M.service xs) in
    record {
      worked = xs ++ l.worked;
      unprocessed = l.unprocessed;
      parts = ap (λ f. xs ++ f) l.parts ∙ sym (append_assoc xs l.worked l.unprocessed);
      works = Works-append M s h xs l.worked goes l.works;
      stands = subst (λ x. Stood (standing M s x (t ++ settled_in M.service c (bytes_of (xs ++ l.worked)) (ms ++ ns)))) (sym (grown_kept M.service h xs l.worked))
          (subst (λ x. Stood (standing M s (grown g (kept_in M.service l.worked)) x)) (settled_both M.service c c' t xs l.worked ms ns same full) l.stands);
      sent = record {
        later = l.sent.later;
        first = own_answers-append M grows s h xs l.worked ∙ ap (λ x. x ++ own_answers M s g l.worked) (sym sent)
            ∙ ap (λ x. replies ms ++ x) l.sent.first
            ∙ sym (append_assoc (replies ms) (replies ns) l.sent.later) ∙ ap (λ x. x ++ l.sent.later) (sym (replies-append ms ns));
        next = l.sent.next;
      };
    }

exact_more : (M : Model) → HistoriesGrow M → (Stood Stood' : Standing M → Type 0) (s : M.State) (h : History) (c c' : Bool) (t : List ℕ)
    (xs ys : List Timed) (ms ns : List Mark) → c' ≡ c → length ms ≡ length xs
    → GoesOn M s h xs → replies ms ≡ own_answers M s h xs → ((after : Standing M) → Stood after → Stood' after)
    → Exact M (grown_by (standing M s h t) (exchanged c xs ms)) (exchanged c' ys ns) Stood
    → Exact M (standing M s h t) (exchanged c (xs ++ ys) (ms ++ ns)) Stood'
exact_more M grows Stood Stood' s h c c' t xs ys ms ns same full goes sent f e =
    let g = grown h (kept_in M.service xs) in
    record {
      worked = xs ++ e.worked;
      unprocessed = e.unprocessed;
      parts = ap (λ f. xs ++ f) e.parts ∙ sym (append_assoc xs e.worked e.unprocessed);
      works = Works-append M s h xs e.worked goes e.works;
      stands = subst (λ x. Stood' (standing M s x (t ++ settled_in M.service c (bytes_of (xs ++ e.worked)) (ms ++ ns)))) (sym (grown_kept M.service h xs e.worked))
          (subst (λ x. Stood' (standing M s (grown g (kept_in M.service e.worked)) x)) (settled_both M.service c c' t xs e.worked ms ns same full) (f _ e.stands));
      sent = replies-append ms ns ∙ ap (λ x. x ++ replies ns) sent ∙ ap (λ x. own_answers M s h xs ++ x) e.sent
          ∙ sym (own_answers-append M grows s h xs e.worked);
    }

pub may_end : (may may' : StoreFault → Type 0) (e : Ended) → ((f : StoreFault) → may' f → may f) → MayEnd may' e → MayEnd may e
may_end may may' ended.End m is = tt
may_end may may' ended.Destroyed m is = tt
may_end may may' ended.Turns m is = tt
may_end may may' (ended.Frame f) m is = tt
may_end may may' (ended.ZeroUnique at) m is = tt
may_end may may' ended.PortFailed m is = tt
may_end may may' (ended.Store fault) m is = m fault is
may_end may may' ended.Memory m is = tt

pub turned_broken : (M : Model) → HistoriesGrow M → (holds mid new : KeeperState M) (did did' did'' : Deeds → Type 0) (p q r : PortState)
    (ids ids' : List ℕ) (prefix messages : List (List ℕ)) (counts : SessionCounts) (e : Ended)
    → (one : TookTurn (passage holds mid p q did) ids ids' prefix true counts) → Broken (passage mid new q r did') ids' messages e
    → AnswersNoMore holds mid → (new.is_honest → mid.is_honest) → (mid.is_honest → IsFirm holds → IsFirm mid)
    → ((b : Deeds) → did' b → did'' (then_did one.work.deeds b))
    → Broken (passage holds new p r did'') ids (prefix ++ messages) e
turned_broken M grows holds mid new did did' did'' p q r ids ids' prefix messages counts e one two no_more honest_too firm_too onward =
    let a = one.work in
    let b = two.work in
    let c = p.confirms in
    let same = one.replied.confirms in
    let pass = passage holds mid p q did in
    let still = still_pending M pass ids ids' prefix true counts one in
    record {
      work = work_more M grows holds mid new did did' did'' p q r ids ids' prefix counts one b honest_too onward;
      others = two.others;
      answer = two.answer;
      part = two.part;
      prefix = ap (λ f. f ++ messages) one.bytes ∙ ap (λ f. bytes_of a.timed ++ f) two.prefix
          ∙ sym (append_assoc (bytes_of a.timed) (bytes_of b.timed) two.others)
          ∙ ap (λ f. f ++ two.others) (sym (bytes-append a.timed b.timed));
      moments = (
        two.moments.0,
        moments_both M.service a.timed b.timed a.deeds.moments b.deeds.moments two.moments.0 one.moments two.moments.1,
      );
      answered = answered_last a.batches b.batches one.answered two.answered;
      slices = subst (RestsOfSome (a.marks ++ b.marks) two.answer two.part) (sym (handed_more a.deeds.events b.deeds.events))
          (some_more a.marks b.marks two.answer two.part (handed_in a.deeds.events) (handed_in b.deeds.events) one.slices two.slices);
      replied = replied_more p q r a.marks b.marks two.part one.replied two.replied;
      exactly = λ how.
          let x = two.exactly how in
          record {
            no_part = x.no_part;
            slices = slices_both a.marks b.marks a.deeds.events b.deeds.events one.slices x.slices;
            exact = λ is s h t so within again.
                let parts = again_both M.service c q.confirms t a.timed b.timed a.marks b.marks same one.full again in
                let y = one.all (honest_too is) s h t so within parts.0 in
                exact_more M grows (λ after. ended_store e ≡ true → new.is_clean → HoldsAt new after × MayEnd mid.may_answer e)
                (λ after. ended_store e ≡ true → new.is_clean → HoldsAt new after × MayEnd holds.may_answer e)
                s h c q.confirms t a.timed b.timed a.marks b.marks same one.full (y.goes refl) y.sent
                (λ after stands store clean.
                let z = stands store clean in (z.0, may_end holds.may_answer mid.may_answer e (no_more (honest_too is)) z.1))
                (x.exact is s (grown h (kept_in M.service a.timed)) (settled_with t a) y.stands (still t within) parts.1);
          };
      life = λ intact s h t so within again.
          let parts = again_both M.service c q.confirms t a.timed b.timed a.marks b.marks same one.full again in
          let y = one.all (honest_too intact.honest) s h t so within parts.0 in
          lived_more M grows (HoldsAt new) s h c q.confirms t a.timed b.timed a.marks b.marks two.answer same one.full (y.goes refl) y.sent
          (two.life intact s (grown h (kept_in M.service a.timed)) (settled_with t a) y.stands (still t within) parts.1);
      crash = λ is firm s h t so within again.
          let parts = again_both M.service c q.confirms t a.timed b.timed a.marks b.marks same one.full again in
          let g = grown h (kept_in M.service a.timed) in
          let u = settled_with t a in
          let y = one.all (honest_too is) s h t so within parts.0 in
          leaves_map M new (λ x r. Lived M (standing M s g u) (exchanged q.confirms b.timed b.marks) (StandAt M x r) two.answer)
          (λ x r. Lived M (standing M s h t) (exchanged c (a.timed ++ b.timed) (a.marks ++ b.marks)) (StandAt M x r) two.answer)
          (λ x r l. lived_more M grows (StandAt M x r) s h c q.confirms t a.timed b.timed a.marks b.marks two.answer same one.full (y.goes refl) y.sent l)
          (two.crash is (firm_too (honest_too is) firm) s g u y.stands (still t within) parts.1);
      few = λ intact t again h.
          let parts = again_both M.service c q.confirms t a.timed b.timed a.marks b.marks same one.full again in
          let f = two.few intact (settled_with t a) parts.1 (one.few (honest_too intact.honest) t parts.0 h) in (
            f.0,
            subst (λ (u : List ℕ). FewHave new u f.0) (settled_both M.service c q.confirms t a.timed b.timed a.marks b.marks same one.full) f.1,
          );
      looked = λ none.
          let parts = none_both M.service a.timed b.timed none in
          looked_then M holds mid new (IsIntact new e) (λ intact. intact.honest) honest_too (one.looked parts.0) (two.looked parts.1);
    }

-- all answers were sent
sent_up_to : (marks : List Mark) (answers : List (List ℕ)) → replies marks ≡ answers → SentUpTo answers marks []
sent_up_to marks answers sent = record { later = []; first = sym (append-nil (replies marks) ∙ sent); next = inl refl }

-- messages that were answered, as a life, with others after them
pub turned_life : (M : Model) → StillStands M → (holds new : KeeperState M) (did : Deeds → Type 0) (p q : PortState) (ids ids' : List ℕ)
    (prefix others messages : List (List ℕ)) (going : Bool) (counts : SessionCounts) (e : Ended) → ended_store e ≡ false
    → TookTurn (passage holds new p q did) ids ids' prefix going counts → messages ≡ prefix ++ others → (new.is_honest → IsFirm holds → IsFirm new)
    → Broken (passage holds new p q did) ids messages e
turned_life M still holds new did p q ids ids' prefix others messages going counts e inexact one parts firm_still =
    let w = one.work in
    let x = exchanged p.confirms w.timed w.marks in
    record {
      work = w;
      others = others;
      answer = [];
      part = [];
      prefix = parts ∙ ap (λ f. f ++ others) one.bytes;
      moments = ([], one.moments ∙ sym (append-nil (moments_in M.service w.timed)));
      answered = answered_all w.batches one.answered;
      slices = some_all w.marks (handed_in w.deeds.events) one.slices;
      replied = one.replied;
      exactly = λ _. record {
        no_part = refl;
        slices = one.slices;
        exact = λ is s h t so within again.
            let a = one.all is s h t so within again in
            exact_all M (λ after. ended_store e ≡ true → new.is_clean → HoldsAt new after × MayEnd holds.may_answer e) (standing M s h t) x a.works
            (λ store _. absurd (cc (store, inexact))) a.sent;
      };
      life = λ intact s h t so within again.
          let a = one.all intact.honest s h t so within again in
          lived_all M (HoldsAt new) (standing M s h t) x [] a.works a.stands (sent_up_to w.marks _ a.sent);
      crash = λ is firm s h t so within again.
          let a = one.all is s h t so within again in
          leaves_map M new (λ x r. Stands M x r s (grown h (kept_in M.service w.timed)) (settled_with t w))
          (λ rows r. Lived M (standing M s h t) x (StandAt M rows r) [])
          (λ rows r stands. lived_all M (StandAt M rows r) (standing M s h t) x [] a.works stands (sent_up_to w.marks _ a.sent))
          (firm_leaves M still new s (grown h (kept_in M.service w.timed)) (settled_with t w) (firm_still is firm) a.stands);
      few = λ intact t again h. (ids', one.few intact.honest t again h);
      looked = λ none. looked_if M holds new (IsIntact new e) (λ intact. intact.honest) (one.looked none);
    }

-- ---- places in the messages

pub rest_slice : (messages : List (List ℕ)) (i : ℕ) → take (length messages - i) (drop i messages) ≡ drop i messages
rest_slice messages i = take_all (length messages - i) (drop i messages) (omega (arith, length-drop i messages))

pub parts_at : (messages : List (List ℕ)) (i : ℕ) → take i messages ++ take (length messages - i) (drop i messages) ≡ messages
parts_at messages i = ap (λ r. take i messages ++ r) (rest_slice messages i) ∙ take-append-drop i messages

pub take_parts : (messages : List (List ℕ)) (i n : ℕ) → take i messages ++ take n (take (length messages - i) (drop i messages)) ≡ take (i + n) messages
take_parts messages i n = ap (λ r. take i messages ++ take n r) (rest_slice messages i) ∙ sym (take-add i n messages)

pub within_parts : (messages : List (List ℕ)) (i n : ℕ) → i ≤ length messages → n ≤ length (take (length messages - i) (drop i messages))
    → i + n ≤ length messages
within_parts messages i n le le2 = omega (arith, ap length (rest_slice messages i), length-drop i messages, le, le2)

pub joined_at : (ms : List (List ℕ)) (i : ℕ) (m : List ℕ) → i < length ms
    → length (joined (take (i + 1) ms)) ≡ length (joined (take i ms)) + length (get_or ms i m)
joined_at ms i m lt =
    ap (λ x. length (joined x)) (take_more ms i m lt) ∙ ap length (joined-append (take i ms) (get_or ms i m ∷ []) ∙ ap (λ (x : List ℕ). joined (take i ms) ++ x)
    (append-nil (get_or ms i m)))
    ∙ length-append (joined (take i ms)) (get_or ms i m)

-- ---- messages processed

pub lasts_on : (rest : Next) → goes_on rest ≡ true → lasts rest ≡ true
lasts_on GoesOnHere is = refl
lasts_on Destroyed is = absurd (cc is)
lasts_on ZeroUnique is = absurd (cc is)

-- a group more
pub group_more : (M : Model) → HistoriesGrow M → (holds mid new : KeeperState M) (did did' did'' : Deeds → Type 0) (p q r : PortState)
    (ids ids' ids'' : List ℕ) (messages slice : List (List ℕ)) (i n : ℕ) (going : Bool) (counts counts' sum : SessionCounts)
    → slice ≡ take (length messages - i) (drop i messages) → sum ≡ plus counts counts'
    → (one : TookTurn (passage holds mid p q did) ids ids' (take i messages) true counts) → TookTurn (passage mid new q r did') ids' ids'' (take n slice) going counts'
    → (new.is_honest → mid.is_honest) → ((b : Deeds) → did' b → did'' (then_did one.work.deeds b))
    → TookTurn (passage holds new p r did'') ids ids'' (take (i + n) messages) going sum
group_more M grows holds mid new did did' did'' p q r ids ids' ids'' messages slice i n going counts counts' sum same sum_is one two honest_too onward =
    subst (λ f. TookTurn (passage holds new p r did'') ids ids'' f going sum) (take_parts messages i n)
    (subst (λ c. TookTurn (passage holds new p r did'') ids ids'' (take i messages ++ take n (take (length messages - i) (drop i messages))) going c) (sym sum_is)
    (turned_more M grows holds mid new did did' did'' p q r ids ids' ids'' (take i messages) (take n (take (length messages - i) (drop i messages))) going
    counts counts' one
    (subst (λ x. TookTurn (passage mid new q r did') ids' ids'' (take n x) going counts') same two) honest_too onward))

-- a fault in the next group
pub group_broken : (M : Model) → HistoriesGrow M → (holds mid new : KeeperState M) (did did' did'' : Deeds → Type 0) (p q r : PortState)
    (ids ids' : List ℕ) (messages slice : List (List ℕ)) (i : ℕ) (counts : SessionCounts) (e : Ended)
    → slice ≡ take (length messages - i) (drop i messages)
    → (one : TookTurn (passage holds mid p q did) ids ids' (take i messages) true counts) → Broken (passage mid new q r did') ids' slice e
    → AnswersNoMore holds mid → (new.is_honest → mid.is_honest) → (mid.is_honest → IsFirm holds → IsFirm mid)
    → ((b : Deeds) → did' b → did'' (then_did one.work.deeds b))
    → Broken (passage holds new p r did'') ids messages e
group_broken M grows holds mid new did did' did'' p q r ids ids' messages slice i counts e same one two no_more honest_too firm_too onward =
    subst (λ m. Broken (passage holds new p r did'') ids m e) (ap (λ x. take i messages ++ x) same ∙ parts_at messages i)
    (turned_broken M grows holds mid new did did' did'' p q r ids ids' (take i messages) slice counts e one two no_more honest_too firm_too onward)

-- the last group
pub worked_part : (M : Model) → (pass : Passage M) (ids ids' : List ℕ) (messages slice : List (List ℕ)) (i n : ℕ) (rest : Next) (counts : SessionCounts)
    → slice ≡ take (length messages - i) (drop i messages) → (goes_on rest ≡ false) → (rest ≡ ZeroUnique → StartsZero (drop n slice))
    → TookTurn pass ids ids' (take (i + n) messages) (lasts rest) counts
    → ProcessedAll pass ids ids' messages (record { count = i + n; next = rest; counts = counts })
worked_part M pass ids ids' messages slice i n rest counts same over zero t = record {
  all = λ is. absurd (cc (is, over));
  zero = λ is. subst StartsZero (ap (drop n) (same ∙ rest_slice messages i) ∙ drop-drop n i messages) (zero is);
  turned = t;
}

pub worked_all : (M : Model) → (pass : Passage M) (ids ids' : List ℕ) (messages : List (List ℕ)) (i : ℕ) (counts : SessionCounts)
    → length messages ≤ i → TookTurn pass ids ids' (take i messages) true counts
    → ProcessedAll pass ids ids' messages (record { count = i; next = GoesOnHere; counts = counts })
worked_all M pass ids ids' messages i counts past t = record {
  all = λ _. drop_all i messages past;
  zero = λ isnt. absurd (cc isnt);
  turned = t;
}

-- the bytes of the messages at a place
pub joined_more : (messages slice : List (List ℕ)) (i n : ℕ) → slice ≡ take n (drop i messages)
    → length (joined (take (i + n) messages)) ≡ length (joined (take i messages)) + length (joined slice)
joined_more messages slice i n is =
    ap (λ x. length (joined x)) (take-add i n messages) ∙ ap length (joined-append (take i messages) (take n (drop i messages)))
    ∙ length-append (joined (take i messages)) (joined (take n (drop i messages)))
    ∙ ap (λ x. length (joined (take i messages)) + length (joined x)) (sym is)

pub joined_within : (messages : List (List ℕ)) (i : ℕ) → length (joined (take i messages)) ≤ length (joined messages)
joined_within messages i = omega (
  arith,
  ap (λ x. length (joined x)) (take-append-drop i messages),
  ap length
      (joined-append (take i messages) (drop i messages)),
  length-append (joined (take i messages)) (joined (drop i messages)),
)

pub worked_slice : (messages : List (List ℕ)) (i n : ℕ) → take (i + n - i) (drop i messages) ≡ take n (drop i messages)
worked_slice messages i n = let e : i + n - i ≡ n = omega arith in ap (λ k. take k (drop i messages)) e

pub is_over : (b : Bool) → not b ≡ true → b ≡ false
is_over true is = absurd (cc is)
is_over false is = refl

pub isnt_over : (b : Bool) → not b ≡ false → b ≡ true
isnt_over true is = refl
isnt_over false is = absurd (cc is)

-- A group performed, and its answers sent.
use Rattle.std.proofs.Common.{◌≡◌, ◌⊎◌, inl, inr, ⊎_elim, ℕ, suc, ◌-◌, ◌≤◌, Bool, true, false, ◌&&◌, ◌==◌, List, [], ◌∷◌, ◌++◌, ◌+◌, length}
use Rattle.std.proofs.Common.{map}
use Rattle.std.proofs.Common.{take, drop, All, Some, slice_get, refl, sym, ap, subst, ◌∙◌, arith}
use Rattle.std.proofs.lemmas.List.{append-nil, take-append-drop, length-map}
use Rattle.fuse_wire.specs.declared.moment.Moment.{Moment}
use Rattle.fuse_request.specs.declared.request.Request.{Request}
use Rattle.fuse_request.specs.Classes.{SeenByClass}
use Rattle.fuse_keeper.specs.declared.keeper.Done.{Done}
use Rattle.fuse_keeper.specs.declared.fault.StoreFault.{StoreFault}
use Rattle.fuse_keeper.specs.History.{Entry, History, grown, kept_of, answers_over, ids_in, Includes, IsUnsettled, repeats, HistoriesGrow}
use Rattle.fuse_keeper.specs.Model.{Model}
use Rattle.fuse_keeper.specs.Stands.{Standing, Records, Stands, StandsForEither, AreThese, StillStands}
use Rattle.fuse_keeper.specs.KeeperState.{KeeperState, StandsFor, Performed, Leaves, IsFirm, KeepsHeld, ActsOn}
use Rattle.fuse_keeper.specs.Group.{entries_of, handed_to, left_pending}
use Rattle.fuse_keeper.specs.Performance.{Performance, performances_of}
use Rattle.fuse_session.specs.Transcript.{PortEvent, sends_of, handed_in}
use Rattle.fuse_session.specs.Slices.{RestsOfAll, RestsOfSome}
use Rattle.fuse_session.specs.Deeds.{Deeds, Did}
use Rattle.fuse_session.specs.inner.Turn.{Mute}
use Rattle.fuse_session.specs.declared.port.Sent.{Sent}
use Rattle.fuse_keeper.specs.Taking.{GroupsGrow}
use Rattle.fuse_session.proofs.Firsts.{group_first, first_unsent, same_answers}
use Rattle.fuse_session.proofs.Standing.{standing, exchanged, StandAt, stands_later, stands_kept}
use Rattle.fuse_session.specs.declared.ended.Ended.{Ended}
use Rattle.fuse_session.specs.declared.ended.Ended.TheVariants.{Store as ByStore}
use Rattle.fuse_session.specs.Ended.{ended_store, ended_between, MayEnd, IsIntact}
use Rattle.fuse_session.specs.inner.Finishing.{ended_at}
use Rattle.fuse_session.specs.Passage.{passage}
use Rattle.fuse_session.specs.declared.counts.SessionCounts.{SessionCounts}
use Rattle.fuse_session.specs.declared.group.Next.{Next}
use Rattle.fuse_session.specs.declared.group.Next.TheVariants.{ZeroUnique}
use Rattle.fuse_session.specs.declared.fault.Fault.{Fault}
use Rattle.fuse_session.specs.declared.fault.Fault.TheVariants.{PortFailed, Store, Memory}
use Rattle.fuse_session.specs.Port.{PortState}
use Rattle.fuse_session.specs.Processed.{Timed, bytes_of, kept_in, performed_of, own_answers, Works, StartsZero, moments_in}
use Rattle.fuse_session.specs.Settling.{Mark, replies, settled_in, NoneComesAgain, SentUpTo, Replied, FewHave}
use Rattle.fuse_session.specs.inner.Group.{Gathers, IsStuck, answers_in, repeats_in, wires, tallied, rest_by, last_zero}
use Rattle.fuse_session.proofs.Outs.{wires_are, answers_are_outs, outs_prefix}
use Rattle.fuse_session.specs.inner.Sending.{sending, SentAll, SentSome}
use Rattle.fuse_session.specs.Exchange.{Exchange, grown_by, HoldsAt, Lived, Exact}
use Rattle.fuse_session.specs.Serving.{TookTurn, Broken, OnlySaw, lasts}
use Rattle.fuse_session.proofs.Replies.{replied_none}
use Rattle.fuse_session.proofs.Batching.{one_batch, are_one, asked_one, left_one, some_all}
use Rattle.fuse_session.proofs.Transcripts.{handed_sends}
use Rattle.fuse_session.proofs.Ending.{works_group, goes_none, goes_last, ends_last}
use Rattle.fuse_session.proofs.Settled.{group_unsettled, settled_none, includes_left}
use Rattle.fuse_session.proofs.Handing.{few_kept, few_same, few_sent, few_unsent}
use Rattle.fuse_session.proofs.Counted.{tallied_is}
use Rattle.fuse_session.proofs.Gathering.{kept_gathered}
use Rattle.fuse_session.proofs.Looking.{looked_if}

-- ---- what stands, and what a crash leaves

pub leaves_map : (M : Model) → (left : KeeperState M) (P Q : M.Rows → Records → Type 0) → ((x : M.Rows) (r : Records) → P x r → Q x r) → Leaves left P
    → Leaves left Q
leaves_map M left P Q f l = (l.0, λ x r is. f x r (l.1 x r is))

pub firm_leaves : (M : Model) → StillStands M → (holds : KeeperState M) (s : M.State) (h : History) (t : List ℕ) → IsFirm holds → StandsFor holds s h t
    → Leaves holds (λ x r. Stands M x r s h t)
firm_leaves M still holds s h t firm so =
    leaves_map M holds (AreThese M so.rows so.records) (λ x r. Stands M x r s h t) (λ x r same. still.same so.rows so.records x r s h t same so.stands)
    (firm so.rows so.records so.held)

-- ---- lives

-- nothing was processed
pub lived_none : (M : Model) → (Stood : Standing M → Type 0) (s : M.State) (h : History) (c : Bool) (t : List ℕ) (timed : List Timed) → Stood (standing M s h t)
    → Lived M (standing M s h t) (exchanged c timed []) Stood []
lived_none M Stood s h c t timed so = record {
  worked = [];
  unprocessed = timed;
  parts = refl;
  works = tt;
  stands = subst (λ u. Stood (standing M s h u)) (sym (append-nil t)) so;
  sent = record { later = []; first = refl; next = inl refl };
}

-- all of it was
pub lived_all : (M : Model) → (Stood : Standing M → Type 0) (at : Standing M) (x : Exchange) (answer : List ℕ)
    → Works M at.state at.history x.timed → Stood (grown_by at x)
    → SentUpTo (own_answers M at.state at.history x.timed) x.marks answer → Lived M at x Stood answer
lived_all M Stood at x answer works so sent = record {
  worked = x.timed;
  unprocessed = [];
  parts = sym (append-nil x.timed);
  works = works;
  stands = so;
  sent = sent;
}

-- exactly nothing was sent
pub exact_none : (M : Model) → (Stood : Standing M → Type 0) (s : M.State) (h : History) (c : Bool) (t : List ℕ) (timed : List Timed) → Stood (standing M s h t)
    → Exact M (standing M s h t) (exchanged c timed []) Stood
exact_none M Stood s h c t timed so = record {
  worked = [];
  unprocessed = timed;
  parts = refl;
  works = tt;
  stands = subst (λ u. Stood (standing M s h u)) (sym (append-nil t)) so;
  sent = refl;
}

-- exactly all of it was
pub exact_all : (M : Model) → (Stood : Standing M → Type 0) (at : Standing M) (x : Exchange)
    → Works M at.state at.history x.timed → Stood (grown_by at x)
    → replies x.marks ≡ own_answers M at.state at.history x.timed → Exact M at x Stood
exact_all M Stood at x works so sent = record {
  worked = x.timed;
  unprocessed = [];
  parts = sym (append-nil x.timed);
  works = works;
  stands = so;
  sent = sent;
}

-- nothing was done at all
pub broken_none : (M : Model) → (holds holds' : KeeperState M) (did : Deeds → Type 0) (p q : PortState) (pending : List ℕ) (messages : List (List ℕ))
    (e : Ended) → ended_store e ≡ false → (deeds : Deeds) → did deeds → deeds.asked ≡ [] → handed_in deeds.events ≡ [] → Replied p q [] []
    → OnlySaw holds holds' (IsIntact holds' e)
    → KeepsHeld holds holds' → ((IsFirm holds) → (s : M.State) (h : History) (t : List ℕ) → StandsFor holds s h t → Leaves holds' (λ x r. Stands M x r s h t))
    → Broken (passage holds holds' p q did) pending messages e
broken_none M holds holds' did p q pending messages e inexact deeds done unasked unhanded replied looked keeps leaves = record {
  work = record {
    timed = [];
    marks = [];
    deeds = deeds;
    done = done;
    batches = [];
    are = record { messages = refl; answers = refl };
    asked = unasked;
    first = λ _. first_unsent M holds p.confirms pending [] (λ s h. tt);
  };
  others = messages;
  answer = [];
  part = [];
  prefix = refl;
  moments = (deeds.moments, refl);
  answered = tt;
  slices = some_all [] (handed_in deeds.events) unhanded;
  replied = replied;
  exactly = λ _. record {
    no_part = refl;
    slices = unhanded;
    exact = λ honest s h t so within again. exact_none M (λ after. ended_store e ≡ true → holds'.is_clean → HoldsAt holds' after × MayEnd holds.may_answer e)
        s h p.confirms t [] (λ is clean. absurd (cc (is, inexact)));
  };
  life = λ intact s h t so within again. lived_none M (HoldsAt holds') s h p.confirms t [] (stands_kept M holds holds' s h t keeps so);
  crash = λ honest is_firm s h t so within again. leaves_map M holds' (λ x r. Stands M x r s h t)
      (λ x r. Lived M (standing M s h t) (exchanged p.confirms [] []) (StandAt M x r) [])
      (λ x r left. lived_none M (StandAt M x r) s h p.confirms t [] left) (leaves is_firm s h t so);
  few = λ intact t again h. (pending, few_same M holds' p.confirms t pending [] (few_kept M holds holds' t pending keeps h));
  looked = λ _. looked;
}

-- ---- a group that wasn't performed

stored : (M : Model) → (s : M.State) (h : History) (c : Bool) (t : List ℕ) (ts : List Timed) (kept : List Entry) (x : M.Rows) (r : Records)
    → kept ≡ kept_in M.service ts
    → Works M s h ts → StandsForEither M (standing M s h t) (standing M s (grown h kept) t) x r
    → Lived M (standing M s h t) (exchanged c ts []) (StandAt M x r) []
stored M s h c t ts kept x r is works either = ⊎_elim
    (λ before. lived_none M (StandAt M x r) s h c t ts before)
    (λ after. lived_all M (StandAt M x r) (standing M s h t) (exchanged c ts []) [] works
    (subst (λ u. Stands M x r s (grown h (kept_in M.service ts)) u) (sym (ap (λ (q : List ℕ). t ++ q) (settled_none M.service c (bytes_of ts)) ∙ append-nil t))
    (subst (λ l. Stands M x r s (grown h l) t) is after)) (record { later = own_answers M s h ts; first = refl; next = inl refl }))
    either

pub broken_store : (M : Model) → SeenByClass → (holds holds' : KeeperState M) (gave : List Moment → Type 0) (performed : List Performance → Type 0)
    (became : List PortEvent → Type 0) (p : PortState) (pending : List ℕ)
    (messages : List (List ℕ)) (count : ℕ) (taken : List (Request × Moment)) (ends : Bool) (group : List (Request × Moment)) (fault : StoreFault)
    → Gathers M.service gave (take count messages) taken ends → group ≡ taken
    → performed (performances_of (entries_of group) (handed_to (kept_of M.service (entries_of group)) pending)) → became []
    → (holds'.is_clean → KeepsHeld holds holds')
    → (holds'.is_clean → (s : M.State) (h : History) (t : List ℕ) → StandsFor holds s h t → holds.may_answer fault)
    → (holds'.is_honest → (s : M.State) (h : History) (t : List ℕ) → StandsFor holds s h t → Includes t pending
    → All (IsUnsettled t) (kept_of M.service (entries_of group))
    → IsFirm holds → Leaves holds' (StandsForEither M (standing M s h t) (standing M s (grown h (kept_of M.service (entries_of group))) t)))
    → (kept_of M.service (entries_of group) ≡ [] → OnlySaw holds holds' (IsIntact holds' (ByStore fault)))
    → Broken (passage holds holds' p p (Mute (Did gave performed became))) pending messages (ByStore fault)
broken_store M sees holds holds' gave performed became p pending messages count taken ends group fault gathers same asked unsent keeps may crash looked =
    let V = M.service in
    let ts = gathers.timed in
    let es : entries_of group ≡ performed_of V ts = ap entries_of same ∙ gathers.entries in
    let kept = kept_of V (entries_of group) in
    let kept_is : kept ≡ kept_in V ts = kept_gathered sees V gave (take count messages) taken ends group gathers same in
    let all = performances_of (entries_of group) (handed_to kept pending) in
    record {
      work = record {
        timed = ts;
        marks = [];
        deeds = record { moments = moments_in V ts; asked = all; events = [] };
        done = record { done = record { moments = gathers.moments; asked = asked; events = unsent }; slices = []; events = refl };
        batches = one_batch ts [];
        are = are_one ts [];
        asked = asked_one sees V p.confirms pending ts [] (entries_of group) all es refl;
        first = λ _. first_unsent M holds p.confirms pending ts (λ s h. works_group M s h ts gathers.no_zero gathers.only);
      };
      others = drop count messages;
      answer = [];
      part = [];
      prefix = sym (take-append-drop count messages) ∙ ap (λ f. f ++ drop count messages) gathers.bytes;
      moments = ([], sym (append-nil (moments_in V ts)));
      answered = (inl refl, tt);
      slices = some_all [] [] refl;
      replied = replied_none p;
      exactly = λ _. record {
        no_part = refl;
        slices = refl;
        exact = λ honest s h t so within again. exact_none M (λ after. true ≡ true → holds'.is_clean → HoldsAt holds' after × holds.may_answer fault)
            s h p.confirms t ts (λ _ clean. (stands_kept M holds holds' s h t (keeps clean) so, may clean s h t so));
      };
      life = λ intact s h t so within again.
          lived_none M (HoldsAt holds') s h p.confirms t ts (stands_kept M holds holds' s h t (keeps (intact.clean refl)) so);
      crash = λ honest firm s h t so within again.
          leaves_map M holds' (StandsForEither M (standing M s h t) (standing M s (grown h kept) t))
          (λ x r. Lived M (standing M s h t) (exchanged p.confirms ts []) (StandAt M x r) [])
          (λ x r either. stored M s h p.confirms t ts kept x r kept_is (works_group M s h ts gathers.no_zero gathers.only) either)
          (crash honest s h t so within (subst (All (IsUnsettled t)) (sym kept_is) (group_unsettled V p.confirms t ts [] again)) firm);
      few = λ intact t again h.
          (pending, few_same M holds' p.confirms t pending ts (few_kept M holds holds' t pending (keeps (intact.clean refl)) h));
      looked = λ none. looked (kept_is ∙ none);
    }

-- ---- a group that was performed

answers_are : (M : Model) → (holds : KeeperState M) (s : M.State) (h : History) (t : List ℕ) (es : List Entry) (ts : List Timed)
    (dones : List Done) → Performed holds s h t es dones → es ≡ performed_of M.service ts
    → map (λ a. Some a) (answers_in dones) ≡ answers_over M s h (performed_of M.service ts)
answers_are M holds s h t es ts dones done is = same_answers dones ∙ done.answers ∙ ap (answers_over M s h) is

sent_are : (M : Model) → HistoriesGrow M → SeenByClass → (holds : KeeperState M) (s : M.State) (h : History) (t : List ℕ) (es : List Entry) (ts : List Timed)
    (prefix : List (List ℕ)) (dones : List Done) → Performed holds s h t es dones → es ≡ performed_of M.service ts
    → prefix ≡ bytes_of ts → wires M.service prefix (answers_in dones) ≡ own_answers M s h ts
sent_are M grows sees holds s h t es ts prefix dones done is bytes = ap (λ f. wires M.service f (answers_in dones)) bytes ∙ wires_are M grows sees s h ts (answers_in dones)
    (answers_are M holds s h t es ts dones done is)

now_stands : (M : Model) → StillStands M → (holds : KeeperState M) (s : M.State) (h : History) (t more : List ℕ) (es : List Entry) (ts : List Timed) (dones : List Done)
    → Performed holds s h t es dones → kept_of M.service es ≡ kept_in M.service ts
    → StandsFor holds s (grown h (kept_in M.service ts)) (t ++ more)
now_stands M still holds s h t more es ts dones done is = stands_later M still holds s (grown h (kept_in M.service ts)) t (t ++ more) (includes_left t more)
    (subst (λ l. StandsFor holds s (grown h l) t) is done.stands)

memory_is : (fault : Fault) → ended_between (ended_at fault) ≡ true → ended_store (ended_at fault) ≡ false → fault ≡ Memory
memory_is PortFailed is isnt = absurd (cc is)
memory_is (Store x) is isnt = absurd (cc isnt)
memory_is Memory is isnt = refl

-- the slices of the answers that were sent, and which one was begun
record SentSlices (became : List PortEvent → Type 0) (answers : List (List ℕ)) (marks : List Mark) (part : List ℕ) (fault : Fault) : Type 0 where
  answer : List ℕ
  sent : SentUpTo answers marks answer
  slices : List (List ℕ × Sent)
  calls : became (sends_of slices)
  kind : RestsOfSome marks answer part slices
  all : fault ≡ Memory → RestsOfAll marks slices

sent_slices : (became : List PortEvent → Type 0) (p q : PortState) (answers : List (List ℕ)) (fault : Fault) → (x : SentSome became p q answers fault)
    → SentSlices became answers x.marks x.part fault
sent_slices became p q answers Memory x =
    let a = x.all refl in
    record {
      answer = [];
      sent = record { later = x.sent.later; first = x.sent.first; next = inl refl };
      slices = a.slices;
      calls = a.calls;
      kind = subst (λ part. RestsOfSome x.marks [] part a.slices) (sym (x.memory refl)) (some_all x.marks a.slices a.kind);
      all = λ _. a.kind;
    }
sent_slices became p q answers PortFailed x =
    record {
      answer = x.answer;
      sent = x.sent;
      slices = x.hands.slices;
      calls = x.hands.calls;
      kind = x.hands.kind;
      all = λ isnt. absurd (cc isnt);
    }
sent_slices became p q answers (Store f) x =
    record {
      answer = x.answer;
      sent = x.sent;
      slices = x.hands.slices;
      calls = x.hands.calls;
      kind = x.hands.kind;
      all = λ isnt. absurd (cc isnt);
    }

-- its answers weren't all sent
pub broken_sent : (M : Model) → HistoriesGrow M → GroupsGrow M → StillStands M → SeenByClass → (holds holds' : KeeperState M) (gave : List Moment → Type 0) (performed_so : List Performance → Type 0)
    (became : List PortEvent → Type 0) (p q : PortState) (pending mid : List ℕ)
    (messages : List (List ℕ)) (count : ℕ) (taken : List (Request × Moment)) (ends : Bool) (group : List (Request × Moment)) (prefix : List (List ℕ))
    (dones list : List Done) (fault : Fault)
    → Gathers M.service gave (take count messages) taken ends → group ≡ taken
    → performed_so (performances_of (entries_of group) (handed_to (kept_of M.service (entries_of group)) pending))
    → prefix ≡ take count messages
    → (holds'.is_honest → (s : M.State) (h : History) (t : List ℕ) → StandsFor holds s h t → Includes t pending
    → All (IsUnsettled t) (kept_of M.service (entries_of group))
    → Performed holds' s h t (entries_of group) dones)
    → (holds'.is_honest → IsFirm holds → IsFirm holds')
    → (holds'.is_honest → (u : List ℕ) → All (IsUnsettled u) (kept_of M.service (entries_of group)) → FewHave holds u pending
    → FewHave holds' u mid)
    → length mid + length (kept_of M.service (entries_of group)) ≤ 16
    → ActsOn holds holds' (handed_to (kept_of M.service (entries_of group)) pending) (entries_of group) dones
    → list ≡ dones → SentSome became p q (wires M.service prefix (answers_in list)) fault
    → (kept_of M.service (entries_of group) ≡ [] → OnlySaw holds holds' holds'.is_honest)
    → Broken (passage holds holds' p q (Mute (Did gave performed_so became))) pending messages (ended_at fault)
broken_sent M grows groups still sees holds holds' gave performed_so became p q pending mid messages count taken ends group prefix dones list fault gathers same asked same_prefix
    performed firm_still few size acts same_list sent looked =
    let some = subst (λ l. SentSome became p q (wires M.service prefix (answers_in l)) fault) same_list sent in
    let sl = sent_slices became p q (wires M.service prefix (answers_in dones)) fault some in
    let ts = gathers.timed in
    let V = M.service in
    let es : entries_of group ≡ performed_of V ts = ap entries_of same ∙ gathers.entries in
    let kept = kept_of V (entries_of group) in
    let kept_is : kept ≡ kept_in V ts = kept_gathered sees V gave (take count messages) taken ends group gathers same in
    let all_asked = performances_of (entries_of group) (handed_to kept pending) in
    let bytes : prefix ≡ bytes_of ts = same_prefix ∙ gathers.bytes in
    let done = λ (honest : holds'.is_honest) (s : M.State) (h : History) (t : List ℕ) (so : StandsFor holds s h t) (within : Includes t pending)
    (again : NoneComesAgain M.service p.confirms t (bytes_of ts) some.marks).
    performed honest s h t so within (subst (All (IsUnsettled t)) (sym kept_is)
    (group_unsettled M.service p.confirms t ts some.marks again)) in
    let works = λ (s : M.State) (h : History). works_group M s h ts gathers.no_zero gathers.only in
    record {
      work = record {
        timed = ts;
        marks = some.marks;
        deeds = record { moments = moments_in M.service ts; asked = all_asked; events = sends_of sl.slices };
        done = record { done = record { moments = gathers.moments; asked = asked; events = sl.calls }; slices = sl.slices; events = refl };
        batches = one_batch ts some.marks;
        are = are_one ts some.marks;
        asked = asked_one sees M.service p.confirms pending ts some.marks (entries_of group) all_asked es refl;
        first = λ honest. group_first M grows groups sees holds holds' p.confirms pending ts
            (entries_of group) dones some.marks some.sent.later works es acts
            (ap (λ f. wires M.service f (answers_in dones)) (sym bytes) ∙ some.sent.first) honest;
      };
      others = drop count messages;
      answer = sl.answer;
      part = some.part;
      prefix = sym (take-append-drop count messages) ∙ ap (λ f. f ++ drop count messages) gathers.bytes;
      moments = ([], sym (append-nil (moments_in M.service ts)));
      answered = (inl refl, tt);
      slices = subst (RestsOfSome some.marks sl.answer some.part) (sym (handed_sends sl.slices)) sl.kind;
      replied = some.replied;
      exactly = λ is. record {
        no_part = some.memory (memory_is fault is some.sends);
        slices = subst (RestsOfAll some.marks) (sym (handed_sends sl.slices)) (sl.all (memory_is fault is some.sends));
        exact = λ honest s h t so within again.
            let d = done honest s h t so within again in
            let f = outs_prefix M s h ts some.marks some.sent.later (works s h) (sym (answers_are_outs M grows s h ts)
            ∙ sym (sent_are M grows sees holds' s h t (entries_of group) ts prefix dones d es bytes) ∙ some.sent.first) in
            record {
              worked = f.first;
              unprocessed = f.others;
              parts = f.parts;
              works = f.works;
              stands = λ is clean. absurd (cc (is, some.sends));
              sent = f.sent ∙ sym (answers_are_outs M grows s h f.first);
            };
      };
      life = λ intact s h t so within again.
          let d = done intact.honest s h t so within again in
          lived_all M (HoldsAt holds') (standing M s h t) (exchanged p.confirms ts some.marks) sl.answer (works s h)
          (now_stands M still holds' s h t _ (entries_of group) ts dones d kept_is) (subst (λ all. SentUpTo all some.marks sl.answer)
          (sent_are M grows sees holds' s h t (entries_of group) ts prefix dones d es bytes) sl.sent);
      crash = λ honest firm s h t so within again.
          let d = done honest s h t so within again in
          leaves_map M holds' (λ x r. Stands M x r s (grown h (kept_in M.service ts)) (t ++ settled_in M.service p.confirms (bytes_of ts) some.marks))
          (λ x r. Lived M (standing M s h t) (exchanged p.confirms ts some.marks) (StandAt M x r) sl.answer)
          (λ x r stands. lived_all M (StandAt M x r) (standing M s h t) (exchanged p.confirms ts some.marks) sl.answer (works s h) stands
          (subst (λ all. SentUpTo all some.marks sl.answer) (sent_are M grows sees holds' s h t (entries_of group) ts prefix dones d es bytes) sl.sent))
          (firm_leaves M still holds' s (grown h (kept_in M.service ts)) _ (firm_still honest firm)
          (now_stands M still holds' s h t (settled_in M.service p.confirms (bytes_of ts) some.marks) (entries_of group) ts dones d kept_is));
      few = λ intact t again h. (
        mid ++ ids_in kept,
        few_unsent M holds' p.confirms t mid kept ts some.marks kept_is size
            (few intact.honest t (subst (All (IsUnsettled t)) (sym kept_is)
            (group_unsettled M.service p.confirms t ts some.marks again)) h),
      );
      looked = λ none. looked_if M holds holds' (IsIntact holds' (ended_at fault)) (λ intact. intact.honest) (looked (kept_is ∙ none));
    }

-- ---- a group that was answered

lasts_not : (ended stuck : Bool) → lasts (rest_by ended stuck) ≡ true → ended ≡ false
lasts_not true stuck is = absurd (cc is)
lasts_not false stuck is = refl

ended_so : (ended stuck : Bool) → lasts (rest_by ended stuck) ≡ false → ended ≡ true
ended_so true stuck is = refl
ended_so false true is = absurd (cc is)
ended_so false false is = absurd (cc is)

and_true : (a b : Bool) → (a && b) ≡ true → (a ≡ true) × (b ≡ true)
and_true true b is = (refl, is)
and_true false b is = absurd (cc is)

and_false : (a b : Bool) → (a && b) ≡ false → (a ≡ false) ⊎ ((a ≡ true) × (b ≡ false))
and_false true b is = inr (refl, is)
and_false false b is = inl refl

pub turned : (M : Model) → HistoriesGrow M → GroupsGrow M → StillStands M → SeenByClass → (holds holds' : KeeperState M) (gave : List Moment → Type 0) (performed_so : List Performance → Type 0)
    (became : List PortEvent → Type 0) (p q : PortState) (pending mid pending' : List ℕ)
    (messages : List (List ℕ)) (count : ℕ)
    (taken : List (Request × Moment)) (ends : Bool) (group : List (Request × Moment)) (prefix : List (List ℕ)) (dones list : List Done) (stuck : Bool)
    (rest : Next) (counts : SessionCounts)
    → Gathers M.service gave (take count messages) taken ends → group ≡ taken
    → performed_so (performances_of (entries_of group) (handed_to (kept_of M.service (entries_of group)) pending))
    → mid ≡ left_pending (kept_of M.service (entries_of group)) pending → prefix ≡ take count messages
    → (holds'.is_honest → (s : M.State) (h : History) (t : List ℕ) → StandsFor holds s h t → Includes t pending
    → All (IsUnsettled t) (kept_of M.service (entries_of group))
    → Performed holds' s h t (entries_of group) dones)
    → (holds'.is_honest → (u : List ℕ) → All (IsUnsettled u) (kept_of M.service (entries_of group)) → FewHave holds u pending
    → FewHave holds' u mid) → length pending' ≤ 16
    → ActsOn holds holds' (handed_to (kept_of M.service (entries_of group)) pending) (entries_of group) dones
    → SentAll M.service (sending became p q mid pending') prefix (wires M.service prefix (answers_in list)) → list ≡ dones → rest ≡ rest_by (ends && last_zero (answers_in list)) stuck
    → counts ≡ tallied M.service prefix (repeats_in list)
    → (kept_of M.service (entries_of group) ≡ [] → OnlySaw holds holds' holds'.is_honest)
    → TookTurn (passage holds holds' p q (Mute (Did gave performed_so became))) pending pending' (take count messages) (lasts rest) counts
turned M grows groups still sees holds holds' gave performed_so became p q pending mid pending' messages count taken ends group prefix dones list stuck rest counts gathers same asked left same_prefix performed
    few size acts sent same_list is counts_are looked =
    let all = subst (λ l. SentAll M.service (sending became p q mid pending') prefix (wires M.service prefix (answers_in l))) same_list sent in
    let ts = gathers.timed in
    let V = M.service in
    let es : entries_of group ≡ performed_of V ts = ap entries_of same ∙ gathers.entries in
    let kept = kept_of V (entries_of group) in
    let kept_is : kept ≡ kept_in V ts = kept_gathered sees V gave (take count messages) taken ends group gathers same in
    let all_asked = performances_of (entries_of group) (handed_to kept pending) in
    let bytes : prefix ≡ bytes_of ts = same_prefix ∙ gathers.bytes in
    record {
      work = record {
        timed = ts;
        marks = all.marks;
        deeds = record { moments = moments_in M.service ts; asked = all_asked; events = sends_of all.hands.slices };
        done = record { done = record { moments = gathers.moments; asked = asked; events = all.hands.calls }; slices = all.hands.slices; events = refl };
        batches = one_batch ts all.marks;
        are = are_one ts all.marks;
        asked = asked_one sees M.service p.confirms pending ts all.marks (entries_of group) all_asked es refl;
        first = λ honest. group_first M grows groups sees holds holds' p.confirms pending ts (entries_of group) dones all.marks []
            (λ s h. works_group M s h ts gathers.no_zero gathers.only) es acts
            (ap (λ f. wires M.service f (answers_in dones)) (sym bytes) ∙ sym all.whole ∙ sym (append-nil (replies all.marks))) honest;
      };
      bytes = gathers.bytes;
      full = all.full ∙ ap length bytes ∙ length-map ts (λ (t : Timed). t.bytes);
      moments = refl;
      answered = (all.full ∙ ap length bytes ∙ length-map ts (λ (t : Timed). t.bytes), tt);
      left = left_one sees V p.confirms pending mid pending' ts all.marks (entries_of group) prefix es left bytes all.handed;
      slices = subst (RestsOfAll all.marks) (sym (handed_sends all.hands.slices)) all.hands.kind;
      replied = all.replied;
      all = λ honest s h t so within again.
          let d = performed honest s h t so within (subst (All (IsUnsettled t)) (sym kept_is)
          (group_unsettled M.service p.confirms t ts all.marks again)) in
          let says = answers_are M holds' s h t (entries_of group) ts dones d es in
          record {
            works = works_group M s h ts gathers.no_zero gathers.only;
            goes = λ going. elim (and_false ends (last_zero (answers_in list))
                (lasts_not (ends && last_zero (answers_in list)) stuck (sym (ap lasts is) ∙ going))) [
                  | inl no_end ↦ goes_none M s h ts gathers.no_zero (gathers.none no_end)
                  | inr both ↦ goes_last M sees s h ts (answers_in dones) gathers.no_zero gathers.only says
                      (sym (ap (λ l. last_zero (answers_in l)) same_list) ∙ both.1)
                ];
            last = λ over.
                let both = and_true ends (last_zero (answers_in list)) (ended_so (ends && last_zero (answers_in list)) stuck (sym (ap lasts is) ∙ over)) in
                ends_last M grows sees s h ts (answers_in dones) (gathers.ended both.0) says (sym (ap (λ l. last_zero (answers_in l)) same_list) ∙ both.1);
            stands = now_stands M still holds' s h t _ (entries_of group) ts dones d kept_is;
            sent = all.whole ∙ sent_are M grows sees holds' s h t (entries_of group) ts prefix dones d es bytes;
            counts_are = counts_are ∙ ap (λ l. tallied M.service prefix (repeats_in l)) same_list ∙ ap (λ f. tallied M.service f (repeats_in dones)) bytes
                ∙ ap (tallied M.service (bytes_of ts)) (d.repeated ∙ ap (repeats V h) es) ∙ tallied_is sees M.service ts h;
          };
      few = λ honest t again h.
          few_sent M holds' p.confirms t mid pending' prefix ts all.marks bytes all.handed size
          (few honest t (subst (All (IsUnsettled t)) (sym kept_is) (group_unsettled M.service p.confirms t ts all.marks again)) h);
      destroyed = λ over. gathers.ended (and_true ends (last_zero (answers_in list))
          (ended_so (ends && last_zero (answers_in list)) stuck (sym (ap lasts is) ∙ over))).0;
      looked = λ none. looked (kept_is ∙ none);
    }

pub stuck_zero : (ended stuck : Bool) → rest_by ended stuck ≡ ZeroUnique → stuck ≡ true
stuck_zero true stuck is = absurd (cc is)
stuck_zero false true is = refl
stuck_zero false false is = absurd (cc is)

pub starts_zero : (messages : List (List ℕ)) (n : ℕ) → n ≡ 0 → (messages ≡ [] → ⊥) → IsStuck messages → StartsZero (drop n messages)
starts_zero [] n is some stuck = absurd (some refl)
starts_zero (m ∷ ms) n is some stuck = subst (λ k. StartsZero (drop k (m ∷ ms))) (sym is) stuck

pub last_is : (dones : List Done) (d : Done) → Some d ≡ slice_get dones (length dones - 1) → (d.answer.errno == 0) ≡ last_zero (answers_in dones)
last_is [] d is = absurd (cc is)
last_is (x ∷ []) d is = let same : d ≡ x = cc is in ap (λ (y : Done). y.answer.errno == 0) same
last_is (x ∷ y ∷ rest) d is = let e1 : length (x ∷ y ∷ rest) - 1 ≡ suc (length rest) = omega arith in
    let e2 : length (y ∷ rest) - 1 ≡ length rest = omega arith in
    last_is (y ∷ rest) d (is ∙ ap (slice_get (x ∷ y ∷ rest)) e1 ∙ ap (slice_get (y ∷ rest)) (sym e2))

-- Which records stay, group after group, and which ids are to be handed on.
use Rattle.std.proofs.Common.{◌≡◌, ◌⊎◌, inl, inr, ℕ, ◌≤◌, ◌+◌, Bool, true, false, if◌then◌else◌, List, [], ◌∷◌, ◌++◌, length, All, Option, Some, None, is_some, refl, sym, ap}
use Rattle.std.proofs.Common.{subst, ◌∙◌, arith, length-append}
use Rattle.std.proofs.lemmas.List.{append-nil, length-map}
use Rattle.fuse_wire.specs.declared.id.Id.{Id}
use Rattle.fuse_wire.specs.declared.moment.Moment.{Moment}
use Rattle.fuse_answer.specs.Said.{Said}
use Rattle.fuse_request.specs.Opcodes.{Service}
use Rattle.fuse_request.specs.Classes.{SeenByClass}
use Rattle.fuse_request.specs.declared.request.Request.{Request}
use Rattle.fuse_keeper.specs.History.{Entry, entry_id, is_seen, unless_seen, kept_one, kept_of, is_in, ids_in, Includes, IsUnsettled}
use Rattle.fuse_keeper.specs.Model.{Model, IsOfGoodState}
use Rattle.fuse_keeper.specs.Stands.{Records, OthersStay}
use Rattle.fuse_keeper.specs.declared.keeper.Done.{Done}
use Rattle.fuse_keeper.specs.KeeperState.{KeeperState, of_service, IsSound, KeepsHeld, OfHeld, WhereHeld, HoldsOthers, Performs, LeavesGroup}
use Rattle.fuse_keeper.specs.Group.{entry_of, entries_of, ids_of, handed_to, left_pending}
use Rattle.fuse_session.specs.Port.{PortState}
use Rattle.fuse_session.specs.Processed.{Timed, bytes_of, kept_in}
use Rattle.fuse_session.specs.Settling.{Mark, settled_in, SomeAndMore, FewHave}
use Rattle.fuse_session.specs.Starts.{KeptRecords, TakesAtMostOne, HoldsUnder}
use Rattle.fuse_session.specs.Transcript.{PortEvent}
use Rattle.fuse_keeper.specs.Lots.{Lots, SameLots, TakesLot, RecordsUnder}
use Rattle.fuse_session.specs.inner.Moves.{HandsOn}
use Rattle.fuse_session.specs.inner.Group.{Gathers}
use Rattle.fuse_session.specs.inner.Sending.{sending, SentAll}
use Rattle.fuse_session.proofs.Settled.{all_settled, settled_none, settled_within, settled_short, none_again, includes_left, includes_right, in_either, unsettled_too}
use Rattle.fuse_session.proofs.Gathering.{kept_gathered}

-- what is left of one record
left_of : (b : Bool) (o now base : Option Said) → now ≡ (if b then None else o) → (b ≡ false → (o ≡ None) ⊎ (o ≡ base)) → (now ≡ None) ⊎ (now ≡ base)
left_of true o now base is so = inl is
left_of false o now base is so = elim (so refl) [ inl none ↦ inl (is ∙ none) | inr same ↦ inr (is ∙ same) ]

-- where all ids of the last group are handed on, the records are some of those of before and some of this group
pub more_step : (before old new : Records) (last settled : List ℕ) (group : List Entry) → SomeAndMore before last old → Includes settled last
    → OthersStay old settled group new → SomeAndMore before (ids_in group) new
more_step before old new last settled group some all others i isnt =
    left_of (is_in settled i) (old i) (new i) (before i) (others i isnt) (λ absent. some i (unsettled_too settled last i all absent))

-- ---- the lots of the records

is_absent : {A : Type 0} (o o' : Option A) → is_some o ≡ true → o ≡ o' → o' ≡ None → ⊥
is_absent None o' some is none = cc some
is_absent (Some a) o' some is none = cc (is, none)

-- the records are those of before or under the current lot: where a lot is taken, there was none
pub takes_more : (a b c : Lots) → TakesAtMostOne a b → ((lot : ℕ) → b.current ≡ Some lot → (c.current ≡ Some lot) × (c.numbers ≡ b.numbers))
    → (b.current ≡ None → TakesLot b c ⊎ ((c.current ≡ None) × (c.numbers ≡ b.numbers))) → TakesAtMostOne a c
takes_more a b c one kept taken = record {
  kept = λ lot is.
      let mid = one.kept lot is in
      let last = kept lot mid.0 in
      (last.0, last.1 ∙ mid.1);
  taken = λ none. elim (one.taken none) [
    | inl took ↦ let last = kept took.lot took.current in
        inl (record { lot = took.lot; is_new = took.is_new; numbers = last.1 ∙ took.numbers; current = last.0 })
    | inr not ↦ elim (taken not.0) [
      | inl took ↦ inl (record {
        lot = took.lot;
        is_new = subst (λ ns. is_in ns took.lot ≡ false) not.1 took.is_new;
        numbers = took.numbers ∙ ap (λ (ns : List ℕ). ns ++ took.lot ∷ []) not.1;
        current = took.current;
      })
      | inr still ↦ inr (still.0, still.1 ∙ not.1)
    ]
  ];
}

takes_none : (a : Lots) → TakesAtMostOne a a
takes_none a = record { kept = λ lot is. (is, refl); taken = λ none. inr (none, refl) }

-- a record after a group, by whether its id was settled, whether it had one, and whether it is of the group
under_one : (before : KeptRecords) (last settled : List ℕ) (old : Records) (under current under' current' : Option ℕ) (b g : Bool) (o now : Option Said) (i : ℕ)
    → (b ≡ true → g ≡ true → under' ≡ current') → (o ≡ None → g ≡ true → under' ≡ current')
    → ((a : Said) → o ≡ Some a → b ≡ false → under' ≡ under)
    → (is_some o ≡ true → ((is_some (before.records i) ≡ true) × (under ≡ before.lots.under i)) ⊎ (is_in last i ≡ true))
    → (is_in last i ≡ true → b ≡ true)
    → (g ≡ false → now ≡ (if b then None else o)) → is_some now ≡ true
    → ((is_some (before.records i) ≡ true) × (under' ≡ before.lots.under i)) ⊎ ((g ≡ true) × (under' ≡ current'))
under_one before last settled old under current under' current' true true o now i settled_so absent stays each within others some = inr (refl, settled_so refl refl)
under_one before last settled old under current under' current' true false o now i settled_so absent stays each within others some =
    absurd (is_absent now None some (others refl) refl)
under_one before last settled old under current under' current' false true None now i settled_so absent stays each within others some = inr (refl, absent refl refl)
under_one before last settled old under current under' current' false false None now i settled_so absent stays each within others some =
    absurd (is_absent now None some (others refl) refl)
under_one before last settled old under current under' current' false g (Some a) now i settled_so absent stays each within others some = elim (each refl) [
  | inl was ↦ inl (was.0, stays a refl refl ∙ was.1)
  | inr more ↦ absurd (cc (within more))
]

pub hands_more : (M : Model) → (before : KeptRecords) (holds holds' : KeeperState M) (pending mid : List ℕ) (kept es : List Entry)
    → kept_of M.service es ≡ kept
    → length kept ≤ 16 → OfHeld holds (λ rows records. HoldsOthers holds' records pending es)
    → OfHeld holds (λ rows records. RecordsUnder holds.lots holds'.lots records pending kept)
    → HandsOn before holds pending → HandsOn before holds' (mid ++ ids_in kept)
hands_more M before holds holds' pending mid kept es is few others lots h =
    let o = others h.rows h.records h.held h.rowed in
    let l = lots h.rows h.records h.held h.rowed in
    let u = h.under in
    let stay = subst (λ ks. OthersStay h.records pending ks o.records) is o.others in
    record {
      rows = o.rows;
      records = o.records;
      held = o.held;
      rowed = o.rowed;
      under = record {
        more = ids_in kept;
        few = subst (λ n. n ≤ 16) (sym (length-map kept entry_id)) few;
        some = more_step before.records h.records o.records u.more pending kept u.some h.all stay;
        takes = takes_more before.lots holds.lots holds'.lots u.takes l.kept l.taken;
        each = λ i some.
            under_one before u.more pending h.records (holds.lots.under i) holds.lots.current (holds'.lots.under i) holds'.lots.current (is_in pending i)
            (is_in (ids_in kept) i) (h.records i) (o.records i) i (λ was here. l.added i here (inr was)) (λ none here. l.added i here
            (inl none)) (l.others i)
            (λ was. elim (u.each i was) [ inl there ↦ inl there | inr one ↦ inr one.0 ]) (h.all i) (stay i) some;
      };
      all = includes_right mid (ids_in kept);
    }

-- more is to be handed on
pub hands_same : (M : Model) → (before : KeptRecords) (holds : KeeperState M) (pending all : List ℕ) → Includes all pending → HandsOn before holds pending
    → HandsOn before holds all
hands_same M before holds pending all within h = record {
  rows = h.rows;
  records = h.records;
  held = h.held;
  rowed = h.rowed;
  under = h.under;
  all = λ i there. within i (h.all i there);
}

pub holds_under : (M : Model) → (before : KeptRecords) (holds : KeeperState M) (pending : List ℕ) → HandsOn before holds pending → HoldsUnder before holds
holds_under M before holds pending h = record { rows = h.rows; records = h.records; held = h.held; rowed = h.rowed; so = h.under }

-- all is held still, under the same lots
pub hands_kept : (M : Model) → (before : KeptRecords) (holds holds' : KeeperState M) (pending : List ℕ) → KeepsHeld holds holds'
    → WhereHeld holds (SameLots holds.lots holds'.lots) → HandsOn before holds pending → HandsOn before holds' pending
hands_kept M before holds holds' pending keeps lots h =
    let same = lots h.rows h.records h.held in
    let u = h.under in
    record {
      rows = h.rows;
      records = h.records;
      held = keeps h.rows h.records h.held;
      rowed = h.rowed;
      under = record {
        more = u.more;
        few = u.few;
        some = u.some;
        takes = takes_more before.lots holds.lots holds'.lots u.takes (λ lot is. (same.current ∙ is, same.numbers)) (λ none. inr (same.current ∙ none, same.numbers));
        each = λ i some. elim (u.each i some) [
          | inl there ↦ inl (there.0, same.under i ∙ there.1)
          | inr one ↦ inr (one.0, same.under i ∙ one.1 ∙ sym same.current)
        ];
      };
      all = h.all;
    }

pub under_kept : (M : Model) → (before : KeptRecords) (holds holds' : KeeperState M) (pending : List ℕ) → KeepsHeld holds holds'
    → WhereHeld holds (SameLots holds.lots holds'.lots) → HandsOn before holds pending → HoldsUnder before holds'
under_kept M before holds holds' pending keeps lots h = holds_under M before holds' pending
    (hands_kept M before holds holds' pending keeps lots h)

-- where the port confirms, the answers to a group settle the ids of all its kept requests
pub hands_group : (M : Model) → SeenByClass → (before : KeptRecords) (holds : KeeperState M) (gave : List Moment → Type 0) (became : List PortEvent → Type 0) (p q : PortState) (mid pending' : List ℕ)
    (messages : List (List ℕ)) (taken : List (Request × Moment)) (ends : Bool)
    (group : List (Request × Moment)) (prefix answers' : List (List ℕ)) → Gathers M.service gave messages taken ends → group ≡ taken → prefix ≡ messages → p.confirms ≡ true
    → SentAll M.service (sending became p q mid pending') prefix answers'
    → HandsOn before holds (mid ++ ids_in (kept_of M.service (entries_of group))) → HandsOn before holds pending'
hands_group M sees before holds gave became p q mid pending' messages taken ends group prefix answers' gathers same same_prefix confirms all h =
    let bytes : prefix ≡ bytes_of gathers.timed = same_prefix ∙ gathers.bytes in
    let full : length all.marks ≡ length gathers.timed = all.full ∙ ap length bytes ∙ length-map gathers.timed (λ (t : Timed). t.bytes) in
    subst (HandsOn before holds) (sym (all.handed ∙ ap (λ c. mid ++ settled_in M.service c prefix all.marks) confirms ∙ ap (λ f. mid ++ settled_in M.service true f all.marks) bytes
    ∙ ap (λ (x : List ℕ). mid ++ x)
    (all_settled M.service gathers.timed all.marks full ∙ ap ids_in (sym
    (kept_gathered sees M.service gave messages taken ends group gathers same))))) h

-- no more ids are pending then than its kept requests settle
pub pending_short : SeenByClass → (V : Service) (gave : List Moment → Type 0) (became : List PortEvent → Type 0) (p q : PortState) (mid pending' : List ℕ)
    (messages : List (List ℕ)) (taken : List (Request × Moment)) (ends : Bool)
    (group : List (Request × Moment)) (prefix answers' : List (List ℕ)) → Gathers V gave messages taken ends → group ≡ taken
    → prefix ≡ messages
    → SentAll V (sending became p q mid pending') prefix answers' → length mid + length (kept_of V (entries_of group)) ≤ 16
    → length pending' ≤ 16
pending_short sees V gave became p q mid pending' messages taken ends group prefix answers' gathers same same_prefix all few =
    let bytes : prefix ≡ bytes_of gathers.timed = same_prefix ∙ gathers.bytes in
    let new = settled_in V p.confirms (bytes_of gathers.timed) all.marks in
    let is : pending' ≡ mid ++ new = all.handed ∙ ap (λ f. mid ++ settled_in V p.confirms f all.marks) bytes in
    omega (
      arith,
      ap length is,
      length-append mid new,
      settled_short V p.confirms gathers.timed all.marks,
      ap length (kept_gathered sees V gave messages taken ends group gathers same),
      few,
    )

-- at first nothing is to be handed on
pub hands_start : (M : Model) → (holds : KeeperState M) (pending : List ℕ) (rows : M.Rows) (records : Records) → holds.holds rows records → IsOfGoodState M rows
    → HandsOn (record { records = records; lots = holds.lots }) holds pending
hands_start M holds pending rows records held rowed = record {
  rows = rows;
  records = records;
  held = held;
  rowed = rowed;
  under = record {
    more = [];
    few = omega arith;
    some = λ i _. inr refl;
    takes = takes_none holds.lots;
    each = λ i some. inl (some, refl);
  };
  all = λ i there. absurd (cc there);
}

-- ---- of the settled ids few have a record

pub few_kept : (M : Model) → (holds holds' : KeeperState M) (u pending : List ℕ) → KeepsHeld holds holds' → FewHave holds u pending → FewHave holds' u pending
few_kept M holds holds' u pending keeps h = record {
  rows = h.rows;
  records = h.records;
  held = keeps h.rows h.records h.held;
  rowed = h.rowed;
  few = h.few;
  others = h.others;
}

none_left : (b : Bool) (o now : Option Said) → now ≡ (if b then None else o) → (b ≡ false → o ≡ None) → now ≡ None
none_left true o now is none = is
none_left false o now is none = is ∙ none refl

-- a group was performed whose kept requests have other ids: what was to be handed on is gone
pub few_performed : (M : Model) → (holds holds' : KeeperState M) (u pending mid : List ℕ) (group : List Entry) → length mid ≤ 16
    → OfHeld holds (λ rows records. HoldsOthers holds' records pending group)
    → All (IsUnsettled u) (kept_of M.service group) → FewHave holds u pending → FewHave holds' u mid
few_performed M holds holds' u pending mid group few stay other h =
    let o = stay h.rows h.records h.held h.rowed in
    record {
      rows = o.rows;
      records = o.records;
      held = o.held;
      rowed = o.rowed;
      few = few;
      others = λ i there _.
          none_left (is_in pending i) (h.records i) (o.records i) (o.others i (none_again u (kept_of M.service group) i other there))
          (λ absent. h.others i there absent);
    }

-- ids more are settled, and all of these are to be handed on
pub few_more : (M : Model) → (holds : KeeperState M) (u mid new more : List ℕ) → length more ≤ 16 → Includes more mid → Includes more new → FewHave holds u mid
    → FewHave holds (u ++ new) more
few_more M holds u mid new more few old_too new_too h = record {
  rows = h.rows;
  records = h.records;
  held = h.held;
  rowed = h.rowed;
  few = few;
  others = λ i there isnt. elim (in_either u new i there) [
    | inl old ↦ h.others i old (unsettled_too more mid i old_too isnt)
    | inr one ↦ absurd (let here = new_too i one in cc (here, isnt))
  ];
}

-- no ids more are
pub few_same : (M : Model) → (holds : KeeperState M) (c : Bool) (u more : List ℕ) (ts : List Timed) → FewHave holds u more
    → FewHave holds (u ++ settled_in M.service c (bytes_of ts) []) more
few_same M holds c u more ts h = subst (λ x. FewHave holds x more) (sym (ap (λ (q : List ℕ). u ++ q) (settled_none M.service c (bytes_of ts)) ∙ append-nil u)) h

-- the answers to a group were sent, all of them or some
pub few_sent : (M : Model) → (holds : KeeperState M) (c : Bool) (u mid pending' : List ℕ) (prefix : List (List ℕ)) (ts : List Timed) (marks : List Mark)
    → prefix ≡ bytes_of ts → pending' ≡ mid ++ settled_in M.service c prefix marks → length pending' ≤ 16
    → FewHave holds u mid → FewHave holds (u ++ settled_in M.service c (bytes_of ts) marks) pending'
few_sent M holds c u mid pending' prefix ts marks bytes handed few h =
    let new = settled_in M.service c (bytes_of ts) marks in
    let is : pending' ≡ mid ++ new = handed ∙ ap (λ f. mid ++ settled_in M.service c f marks) bytes in
    subst (FewHave holds (u ++ new)) (sym is) (few_more M holds u mid new (mid ++ new) (subst (λ x. length x ≤ 16) is few) (includes_left mid new)
    (includes_right mid new) h)

pub few_unsent : (M : Model) → (holds : KeeperState M) (c : Bool) (u mid : List ℕ) (kept : List Entry) (ts : List Timed) (marks : List Mark)
    → kept ≡ kept_in M.service ts → length mid + length kept ≤ 16
    → FewHave holds u mid → FewHave holds (u ++ settled_in M.service c (bytes_of ts) marks) (mid ++ ids_in kept)
few_unsent M holds c u mid kept ts marks is few h =
    few_more M holds u mid (settled_in M.service c (bytes_of ts) marks) (mid ++ ids_in kept)
    (omega (arith, length-append mid (ids_in kept), length-map kept entry_id, few)) (includes_left mid (ids_in kept))
    (λ i there. includes_right mid (ids_in kept) i (ap (λ g. is_in (ids_in g) i) is ∙ settled_within M.service c ts marks i there)) h

-- ---- a group was performed, if there was one

-- what is handed on with a group was pending
handed_within : (t pending : List ℕ) (kept : List Entry) → Includes t pending → Includes t (handed_to kept pending)
handed_within t pending [] within = λ i there. absurd (cc there)
handed_within t pending (e ∷ kept) within = within

pub performs_all : (M : Model) → (holds holds' : KeeperState M) (pending : List ℕ) (kept es : List Entry) (dones : List Done)
    → Performs holds holds' (handed_to kept pending) es dones → Performs holds holds' pending es dones
performs_all M holds holds' pending kept es dones performs honest s h t so within un =
    performs honest s h t so (handed_within t pending kept within) un

pub leaves_all : (M : Model) → (holds holds' : KeeperState M) (pending : List ℕ) (kept es : List Entry)
    → LeavesGroup holds holds' (handed_to kept pending) es
    → LeavesGroup holds holds' pending es
leaves_all M holds holds' pending kept es leaves s h t so within un firm = leaves s h t so (handed_within t pending kept within) un firm

-- the service that a keeper gave is that of the model, where it is honest afterwards
pub gives : (M : Model) → (V : Service) (k k' : KeeperState M) → k.service ≡ V → k'.service ≡ k.service → IsSound k' → k'.is_honest → V ≡ M.service
gives M V k k' is stays sound honest = sym is ∙ sym stays ∙ sound.service honest

-- so what a crash leaves is said of the model with that service
pub leaves_for : (M : Model) → (V : Service) (holds holds' : KeeperState M) (ids : List ℕ) (es : List Entry) → V ≡ M.service → LeavesGroup holds holds' ids es
    → LeavesGroup (of_service V holds) (of_service V holds') ids es
leaves_for M V holds holds' ids es is leaves = subst (λ W. LeavesGroup (of_service W holds) (of_service W holds') ids es) (sym is) leaves

-- what is still pending then was pending
pub left_within : (pending left : List ℕ) (kept : List Entry) → left ≡ left_pending kept pending → (t : List ℕ) → Includes t pending
    → Includes t left
left_within pending left [] is t within = subst (Includes t) (sym is) within
left_within pending left (e ∷ kept) is t within = subst (Includes t) (sym is) (λ i there. absurd (cc there))

one_short : (V : Service) (e : Entry) → length (kept_one V e) ≤ 1
one_short V e = elim (is_seen V e) as (λ b. length (unless_seen b e) ≤ 1) [ true ↦ omega arith | false ↦ omega arith ]

kept_short : (V : Service) (es : List Entry) → length (kept_of V es) ≤ length es
kept_short V [] = omega arith
kept_short V (e ∷ es) = omega (arith, length-append (kept_one V e) (kept_of V es), one_short V e, kept_short V es)

-- no more are kept of a group than it has
pub kept_few : (V : Service) (taken group : List (Request × Moment)) → group ≡ taken → length taken ≤ 16
    → length (kept_of V (entries_of group)) ≤ 16
kept_few V taken group same few = omega (arith, kept_short V (entries_of group), length-map group entry_of, ap length same, few)

few_both : (pending left : List ℕ) (kept : List Entry) → left ≡ left_pending kept pending → length pending ≤ 16 → length kept ≤ 16
    → length left + length kept ≤ 16
few_both pending left [] is few short = omega (arith, ap length is, few)
few_both pending left (e ∷ kept) is few short = omega (arith, ap length is, short)

pub left_few : (V : Service) (pending : List Id) (left : List ℕ) (taken group : List (Request × Moment)) → group ≡ taken → length taken ≤ 16
    → length pending ≤ 16 → left ≡ left_pending (kept_of V (entries_of group)) (ids_of pending)
    → length left + length (kept_of V (entries_of group)) ≤ 16
left_few V pending left taken group same short few is =
    few_both (ids_of pending) left (kept_of V (entries_of group)) is (omega (arith, length-map pending (λ (x : Id). x.0), few))
    (kept_few V taken group same short)

-- what is kept of a group is this: where nothing is, all is held still
pub hands_on : (M : Model) → (before : KeptRecords) (holds holds' : KeeperState M) (pending left : List ℕ) (kept es : List Entry)
    → kept_of M.service es ≡ kept
    → left ≡ left_pending kept pending → length kept ≤ 16 → OfHeld holds (λ rows records. HoldsOthers holds' records
    (handed_to kept pending) es)
    → OfHeld holds (λ rows records. RecordsUnder holds.lots holds'.lots records (handed_to kept pending) kept)
    → (kept ≡ [] → KeepsHeld holds holds' × WhereHeld holds (SameLots holds.lots holds'.lots))
    → HandsOn before holds pending → HandsOn before holds' (left ++ ids_in kept)
hands_on M before holds holds' pending left [] es of is few others lots none h =
    let same = none refl in
    hands_same M before holds' pending (left ++ []) (λ i there. subst (λ (l : List ℕ). is_in (l ++ []) i ≡ true) (sym is)
    (includes_left pending [] i there))
    (hands_kept M before holds holds' pending same.0 same.1 h)
hands_on M before holds holds' pending left (e ∷ kept) es of is few others lots none h =
    hands_more M before holds holds' pending left (e ∷ kept) es of few others lots h

pub few_left : (M : Model) → (holds holds' : KeeperState M) (u pending left : List ℕ) (kept es : List Entry) → kept_of M.service es ≡ kept
    → left ≡ left_pending kept pending → length left ≤ 16 → OfHeld holds (λ rows records. HoldsOthers holds' records
    (handed_to kept pending) es)
    → All (IsUnsettled u) (kept_of M.service es) → FewHave holds u pending → FewHave holds' u left
few_left M holds holds' u pending left [] es of is few stay un h =
    let o = stay h.rows h.records h.held h.rowed in
    record {
      rows = o.rows;
      records = o.records;
      held = o.held;
      rowed = o.rowed;
      few = few;
      others = λ i there absent. none_left false (h.records i) (o.records i) (o.others i (ap (λ ks. is_in (ids_in ks) i) of))
          (λ _. h.others i there (subst (λ l. is_in l i ≡ false) is absent));
    }
few_left M holds holds' u pending left (e ∷ kept) es of is few stay un h = few_performed M holds holds' u pending left es few stay un h

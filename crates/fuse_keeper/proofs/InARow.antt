-- Entries that are taken one after the other.
use Rattle.std.proofs.Common.{◌≡◌, ℕ, ◌+◌, ◌<◌, Bool, true, false, ◌==◌, if◌then◌else◌, List, [], ◌∷◌, ◌++◌, length, take, get_or, All}
use Rattle.std.proofs.Common.{Option, Some, None, refl}
use Rattle.std.proofs.Common.{sym, ap, subst, ◌∙◌}
use Rattle.std.proofs.lemmas.List.{append_assoc, append-nil, take_more}
use Rattle.fuse_wire.specs.declared.moment.Moment.{Moment}
use Rattle.fuse_request.specs.declared.request.Request.{Request}
use Rattle.fuse_answer.specs.Said.{Said}
use Rattle.fuse_keeper.specs.Model.{Model}
use Rattle.fuse_keeper.specs.declared.keeper.Done.{Done}
use Rattle.fuse_keeper.specs.declared.group.Record.{Record}
use Rattle.fuse_keeper.specs.History.{Entry, entry_id, is_seen, unless_seen, kept_of, IsUnsettled}
use Rattle.fuse_keeper.specs.Stands.{Records, KeeperContent, Standing, without, StandsAt, AreThese, PerformedBy}
use Rattle.fuse_keeper.specs.Group.{entry_of, entries_of}
use Rattle.fuse_keeper.specs.Taking.{TookBy, TookIf, Took, TakesAll}
use Rattle.fuse_keeper.specs.inner.Overlay.{over}
use Rattle.fuse_keeper.proofs.Histories.{map-append}
use Rattle.fuse_keeper.proofs.Performing.{PerformedBy-same, none_yet, one_more}
use Rattle.fuse_keeper.proofs.Seeing.{kept_first, kept_rest}
use Rattle.fuse_keeper.proofs.Overlays.{over-same, without-same}

took_same_by : (M : Model) → (o : Option Said) (old new : KeeperContent M) (e : Entry) (after : KeeperContent M) (done : Done)
    → AreThese M old.rows old.records new.rows new.records → TookBy M o old e after done → TookBy M o new e after done
took_same_by M (Some known) old new e after done same took = (took.0 ∙ sym same.0, λ i. took.1 i ∙ sym (same.1 i), took.2, took.3)
took_same_by M None old new e after done same took = (
  λ s good is. took.0 s good (sym same.0 ∙ is),
  λ i. took.1 i ∙ ap (λ o. if entry_id e == i then Some done.answer else o) (sym (same.1 i)),
  took.2,
)

took_same_if : (M : Model) → (seen : Bool) (old new : KeeperContent M) (e : Entry) (after : KeeperContent M) (done : Done)
    → AreThese M old.rows old.records new.rows new.records → TookIf M seen old e after done → TookIf M seen new e after done
took_same_if M true old new e after done same took =
    ((took.0.0 ∙ sym same.0, λ i. took.0.1 i ∙ sym (same.1 i)), λ s good is. took.1 s good (sym same.0 ∙ is), took.2)
took_same_if M false old new e after done same took =
    subst (λ o. TookBy M o new e after done) (sym (same.1 (entry_id e))) (took_same_by M (old.records (entry_id e)) old new e after done same took)

-- an entry is taken over the same rows and records
pub took_same : (M : Model) → (old new : KeeperContent M) (e : Entry) (after : KeeperContent M) (done : Done)
    → AreThese M old.rows old.records new.rows new.records → Took M old e after done → Took M new e after done
took_same M old new e after done same took = took_same_if M (is_seen M.service e) old new e after done same took

pub none_taken : (M : Model) → (held : KeeperContent M) → TakesAll M held [] held []
none_taken M held = (refl, λ i. refl)

pub same_taken : (M : Model) → (old new : KeeperContent M) (es : List Entry) (after : KeeperContent M) (dones : List Done)
    → AreThese M old.rows old.records new.rows new.records → TakesAll M old es after dones → TakesAll M new es after dones
same_taken M old new [] after [] same all = (all.0 ∙ sym same.0, λ i. all.1 i ∙ sym (same.1 i))
same_taken M old new [] after (done ∷ dones) same all = absurd all
same_taken M old new (e ∷ es) after [] same all = absurd all
same_taken M old new (e ∷ es) after (done ∷ dones) same (mid, took, rest) = (mid, took_same M old new e mid done same took, rest)

-- what is held after them may be named anew
pub led_same : (M : Model) → (before : KeeperContent M) (es : List Entry) (old : KeeperContent M) (dones : List Done) (new : KeeperContent M)
    → AreThese M old.rows old.records new.rows new.records → TakesAll M before es old dones → TakesAll M before es new dones
led_same M before [] old [] new same all = (same.0 ∙ all.0, λ i. same.1 i ∙ all.1 i)
led_same M before [] old (done ∷ dones) new same all = absurd all
led_same M before (e ∷ es) old [] new same all = absurd all
led_same M before (e ∷ es) old (done ∷ dones) new same (mid, took, rest) = (mid, took, led_same M mid es old dones new same rest)

pub one_more_taken : (M : Model) → (before : KeeperContent M) (es : List Entry) (mid : KeeperContent M) (dones : List Done) (e : Entry) (after : KeeperContent M) (done : Done)
    → TakesAll M before es mid dones → Took M mid e after done → TakesAll M before (es ++ e ∷ []) after (dones ++ done ∷ [])
one_more_taken M before [] mid [] e after done all took =
    (after, took_same M mid before e after done (sym all.0, λ i. sym (all.1 i)) took, (refl, λ i. refl))
one_more_taken M before [] mid (d ∷ dones) e after done all took = absurd all
one_more_taken M before (o ∷ es) mid [] e after done all took = absurd all
one_more_taken M before (o ∷ es) mid (d ∷ dones) e after done (next, first, rest) took =
    (next, first, one_more_taken M next es mid dones e after done rest took)

-- more entries are taken where a group was performed
taken_after : (M : Model) → (held : KeeperContent M) (es : List Entry) (after : KeeperContent M) (dones : List Done) (at : Standing M) (before : List Entry)
    (done_before : List Done)
    → PerformedBy M (AreThese M held.rows held.records) at before done_before → All (IsUnsettled at.settled) (kept_of M.service es) → TakesAll M held es after dones
    → PerformedBy M (AreThese M after.rows after.records) at (before ++ es) (done_before ++ dones)
taken_after M held [] after [] at before done_before so fresh all =
    rw (append-nil before, append-nil done_before) (PerformedBy-same M held after at before done_before all so)
taken_after M held [] after (d ∷ dones) at before done_before so fresh all = absurd all
taken_after M held (e ∷ es) after [] at before done_before so fresh all = absurd all
taken_after M held (e ∷ es) after (d ∷ dones) at before done_before so fresh (mid, took, rest) =
    let one = one_more M held e mid d at before done_before (kept_first M.service (IsUnsettled at.settled) e es fresh) took so in
    let whole = taken_after M mid es after dones at (before ++ e ∷ []) (done_before ++ d ∷ []) one
    (kept_rest M.service (IsUnsettled at.settled) e es fresh) rest in
    subst (λ ds. PerformedBy M (AreThese M after.rows after.records) at (before ++ e ∷ es) ds) (append_assoc done_before (d ∷ []) dones)
    (subst (λ xs. PerformedBy M (AreThese M after.rows after.records) at xs ((done_before ++ d ∷ []) ++ dones)) (append_assoc before (e ∷ []) es) whole)

-- entries that are taken over rows and records that stand were performed
pub taken_is_performed : (M : Model) → (before : KeeperContent M) (es : List Entry) (after : KeeperContent M) (dones : List Done) (at : Standing M)
    → StandsAt M before at → All (IsUnsettled at.settled) (kept_of M.service es) → TakesAll M before es after dones
    → PerformedBy M (AreThese M after.rows after.records) at es dones
taken_is_performed M before es after dones at so fresh all = taken_after M before es after dones at [] [] (none_yet M before at so) fresh all

seen_step : (M : Model) → (seen : Bool) (before : KeeperContent M) (e : Entry) (after : KeeperContent M) (done : Done) (rest : List Entry)
    → unless_seen seen e ++ rest ≡ [] → TookIf M seen before e after done
    → AreThese M before.rows before.records after.rows after.records × (rest ≡ [])
seen_step M true before e after done rest none took = (took.0, none)
seen_step M false before e after done rest none took = absurd (cc none)

-- seen ones leave all as it was
pub seen_taken : (M : Model) → (before : KeeperContent M) (es : List Entry) (after : KeeperContent M) (dones : List Done)
    → kept_of M.service es ≡ [] → TakesAll M before es after dones → AreThese M before.rows before.records after.rows after.records
seen_taken M before [] after [] none all = all
seen_taken M before [] after (d ∷ dones) none all = absurd all
seen_taken M before (e ∷ es) after [] none all = absurd all
seen_taken M before (e ∷ es) after (d ∷ dones) none (mid, took, rest) =
    let step = seen_step M (is_seen M.service e) before e mid d (kept_of M.service es) none took in
    let later = seen_taken M mid es after dones step.1 rest in
    (later.0 ∙ step.0.0, λ i. later.1 i ∙ step.0.1 i)

-- ---- steps of a loop

-- nothing is taken yet
pub none_taken_yet : (M : Model) → (rows rows' : M.Rows) (records : Records) (added : List Record) (dones : List Done) → rows' ≡ rows → added ≡ []
    → dones ≡ [] → TakesAll M (record { rows = rows; records = records }) [] (record { rows = rows'; records = over added records }) dones
none_taken_yet M rows rows' records added dones is none empty =
    subst (λ (ds : List Done). TakesAll M (record { rows = rows; records = records }) [] (record { rows = rows'; records = over added records }) ds)
    (sym empty) (is, λ i. ap (λ l. over l records i) none)

-- one more of a group
pub one_more_taken_of : (M : Model) → (group : List (Request × Moment)) (i : ℕ) (d : Request × Moment) (before mid after : KeeperContent M) (done : Done)
    (dones dones' : List Done)
    → i < length group → Took M mid (entry_of (get_or group i d)) after done → TakesAll M before (entries_of (take i group)) mid dones
    → dones' ≡ dones ++ done ∷ [] → TakesAll M before (entries_of (take (i + 1) group)) after dones'
one_more_taken_of M group i d before mid after done dones dones' lt took so_far is =
    let all = ap entries_of (take_more group i d lt) ∙ map-append entry_of (take i group) (get_or group i d ∷ []) in
    rw (is, all) (one_more_taken M before (entries_of (take i group)) mid dones (entry_of (get_or group i d)) after done so_far took)

-- ---- a keeper in memory

-- over the records that aren't settled, and kept
pub kept_taken : (M : Model) → (rows : M.Rows) (records : Records) (settled : List ℕ) (added : List Record) (rows' : M.Rows) (reserved records' : Records)
    (es : List Entry) (dones : List Done)
    → TakesAll M (record { rows = rows; records = without settled records }) es (record { rows = rows'; records = over added (without settled records) }) dones
    → ((i : ℕ) → reserved i ≡ records i) → ((i : ℕ) → records' i ≡ over added (without settled reserved) i)
    → TakesAll M (record { rows = rows; records = without settled records }) es (record { rows = rows'; records = records' }) dones
kept_taken M rows records settled added rows' reserved records' es dones all same are =
    led_same M (record { rows = rows; records = without settled records }) es (record { rows = rows'; records = over added (without settled records) }) dones
    (record { rows = rows'; records = records' })
    (refl, λ i. are i ∙ over-same added (without settled reserved) (without settled records) i (without-same settled reserved records i (same i))) all

-- whichever way what it held is named
pub named_taken : (M : Model) → (old new : KeeperContent M) (settled : List ℕ) (es : List Entry) (after : KeeperContent M) (dones : List Done)
    → AreThese M old.rows old.records new.rows new.records → TakesAll M (record old { records = without settled old.records }) es after dones
    → TakesAll M (record new { records = without settled new.records }) es after dones
named_taken M old new settled es after dones same all =
    same_taken M (record old { records = without settled old.records }) (record new { records = without settled new.records }) es after dones
    (same.0, λ i. without-same settled new.records old.records i (same.1 i)) all

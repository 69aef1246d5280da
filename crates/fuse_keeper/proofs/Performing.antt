-- How a group is performed, one entry after another.
use Rattle.std.proofs.Common.{◌≡◌, ℕ, ◌+◌, ◌<◌, zero, suc, true, ◌⊎◌, inl, inr, List, [], ◌∷◌, ◌++◌, length, take}
use Rattle.std.proofs.Common.{get_or, All, Some, refl, sym, ap, ◌∙◌, arith}
use Rattle.std.proofs.lemmas.List.{take_more}
use Rattle.fuse_wire.specs.declared.moment.Moment.{Moment}
use Rattle.fuse_request.specs.declared.request.Request.{Request}
use Rattle.fuse_request.specs.Opcodes.{Service}
use Rattle.fuse_keeper.specs.Model.{Model}
use Rattle.fuse_keeper.specs.declared.keeper.Done.{Done}
use Rattle.fuse_keeper.specs.History.{Entry, entry_id, History, grown, kept_one, kept_of, answers_over, is_in, ids_in, Includes, IsUnsettled, repeats}
use Rattle.fuse_keeper.specs.Stands.{Records, KeeperContent, Standing, Stands, StandsAt, StandsBy, AreThese, PerformedBy}
use Rattle.fuse_keeper.specs.Group.{entry_of, entries_of}
use Rattle.fuse_keeper.specs.Taking.{Took}
use Rattle.fuse_keeper.proofs.Histories.{map-append}
use Rattle.fuse_keeper.proofs.Standing.{Stands-same, advanced}
use Rattle.fuse_keeper.proofs.Seeing.{kept_of-more, grown-more, kept_at_place, answers-more, repeats-more}
use Rattle.fuse_keeper.proofs.Settled.{includes_left, includes_right}

-- ---- these rows and records stand

pub these_stand : (M : Model) → (rows : M.Rows) (records : Records) (s : M.State) (h : History) (t : List ℕ) → StandsBy M (AreThese M rows records) s h t
    → Stands M rows records s h t
these_stand M rows records s h t so = Stands-same M so.rows so.records rows records s h t (sym so.held.0, λ i. sym (so.held.1 i)) so.stands

pub stand_so : (M : Model) → (rows : M.Rows) (records : Records) (s : M.State) (h : History) (t : List ℕ) → Stands M rows records s h t
    → StandsBy M (AreThese M rows records) s h t
stand_so M rows records s h t so = record { rows = rows; records = records; held = (refl, λ i. refl); stands = so }

pub PerformedBy-same : (M : Model) → (old new : KeeperContent M) (at : Standing M) (es : List Entry) (dones : List Done)
    → AreThese M old.rows old.records new.rows new.records → PerformedBy M (AreThese M old.rows old.records) at es dones
    → PerformedBy M (AreThese M new.rows new.records) at es dones
PerformedBy-same M old new at es dones same does =
    let h = grown at.history (kept_of M.service es) in
    record {
      stands = stand_so M new.rows new.records at.state h at.settled (Stands-same M old.rows old.records new.rows new.records at.state h at.settled same
          (these_stand M old.rows old.records at.state h at.settled does.stands));
      answers = does.answers;
      repeated = does.repeated;
    }

-- ---- one after another

-- nothing performed yet
pub none_yet : (M : Model) → (held : KeeperContent M) (at : Standing M) → StandsAt M held at → PerformedBy M (AreThese M held.rows held.records) at [] []
none_yet M held at so =
    record { stands = stand_so M held.rows held.records at.state at.history at.settled so; answers = refl; repeated = refl }

-- one more
pub one_more : (M : Model) → (before : KeeperContent M) (e : Entry) (after : KeeperContent M) (done : Done) (at : Standing M) (es : List Entry) (dones : List Done)
    → All (IsUnsettled at.settled) (kept_one M.service e) → Took M before e after done → PerformedBy M (AreThese M before.rows before.records) at es dones
    → PerformedBy M (AreThese M after.rows after.records) at (es ++ e ∷ []) (dones ++ done ∷ [])
one_more M before e after done at es dones fresh took so_far =
    let V = M.service in
    let s = at.state in
    let h = at.history in
    let g = grown h (kept_of V es) in
    let step = advanced M before e after done (record at { history = g }) fresh took
    (these_stand M before.rows before.records s g at.settled so_far.stands) in
    record {
      stands = rw (grown-more V h es e) (stand_so M after.rows after.records s (grown g (kept_one V e)) at.settled step.stands);
      answers = map-append (λ d. Some d.answer) dones (done ∷ []) ∙ ap (λ r. r ++ Some done.answer ∷ []) so_far.answers
          ∙ ap (λ o. answers_over M s h es ++ o ∷ []) (sym step.answer) ∙ sym (answers-more M s h es e);
      repeated = map-append (λ d. d.repeated) dones (done ∷ []) ∙ ap (λ r. r ++ done.repeated ∷ []) so_far.repeated
          ∙ ap (λ b. repeats V h es ++ b ∷ []) step.repeated ∙ sym (repeats-more V h es e);
    }

-- what holds of each entry of a group holds at its place
pub entry_at_place : (P : Entry → Type 0) (group : List (Request × Moment)) (i : ℕ) (d : Request × Moment) → i < length group → All P (entries_of group)
    → P (entry_of (get_or group i d))
entry_at_place P [] i d lt each = absurd (omega arith)
entry_at_place P (x ∷ group) zero d lt each = each zero (entry_of x) (omega arith)
entry_at_place P (x ∷ group) (suc i) d lt each = entry_at_place P group i d (omega arith) (λ k z below. each (suc k) z (omega (arith, below)))

-- one more of a group
pub one_more_of : (M : Model) → (group : List (Request × Moment)) (i : ℕ) (d : Request × Moment) (before after : KeeperContent M) (done : Done) (at : Standing M)
    (dones dones' : List Done)
    → i < length group → All (IsUnsettled at.settled) (kept_of M.service (entries_of group)) → Took M before (entry_of (get_or group i d)) after done
    → PerformedBy M (AreThese M before.rows before.records) at (entries_of (take i group)) dones
    → dones' ≡ dones ++ done ∷ [] → PerformedBy M (AreThese M after.rows after.records) at (entries_of (take (i + 1) group)) dones'
one_more_of M group i d before after done at dones dones' lt fresh took so_far is =
    let e = entry_of (get_or group i d) in
    let all = ap entries_of (take_more group i d lt) ∙ map-append entry_of (take i group) (get_or group i d ∷ []) in
    rw (is, all) (one_more M before e after done at (entries_of (take i group)) dones (kept_at_place M.service (IsUnsettled at.settled) group i d lt fresh) took
    so_far)

-- ---- the ids of a group

-- the ids of what was recorded are those of the kept ones so far
pub ids_more : (V : Service) (group : List (Request × Moment)) (n : ℕ) (d : Request × Moment) (old new : List ℕ) → n < length group
    → Includes (ids_in (kept_of V (entries_of (take n group)))) old
    → ((i : ℕ) → is_in new i ≡ true → (is_in old i ≡ true) ⊎ (is_in (ids_in (kept_one V (entry_of (get_or group n d)))) i ≡ true))
    → Includes (ids_in (kept_of V (entries_of (take (n + 1) group)))) new
ids_more V group n d old new lt within adds i there =
    let before = kept_of V (entries_of (take n group)) in
    let one = kept_one V (entry_of (get_or group n d)) in
    let parts : ids_in (kept_of V (entries_of (take (n + 1) group))) ≡ ids_in before ++ ids_in one =
    ap (λ es. ids_in (kept_of V es)) (ap entries_of (take_more group n d lt) ∙ map-append entry_of (take n group) (get_or group n d ∷ []))
    ∙ ap ids_in (kept_of-more V (entries_of (take n group)) (entry_of (get_or group n d)))
    ∙ map-append entry_id before one in
    ap (λ l. is_in l i) parts ∙ elim (adds i there) [
      | inl old_one ↦ includes_left (ids_in before) (ids_in one) i (within i old_one)
      | inr new_one ↦ includes_right (ids_in before) (ids_in one) i new_one
    ]

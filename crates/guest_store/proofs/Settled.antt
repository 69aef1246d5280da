-- What a whole call makes, in the words of a keeper.
use Rattle.std.proofs.Common.{◌≡◌, ℕ, List, [], ◌∷◌, ◌++◌, Bool, true, false, cond, All, Option, Some, None}
use Rattle.std.proofs.Common.{refl, sym, ap, subst, ◌∙◌}
use Rattle.fuse_answer.specs.Said.{Said}
use Rattle.fuse_keeper.specs.Model.{Model}
use Rattle.fuse_keeper.specs.Group.{IsPerformed}
use Rattle.fuse_keeper.specs.History.{Entry, is_seen, unless_seen, kept_of, IsUnsettled, Includes, is_in}
use Rattle.fuse_keeper.specs.Stands.{KeeperContent, Standing, StandsAt, AreThese, without}
use Rattle.fuse_keeper.specs.Taking.{TakesAll}
use Rattle.guest_store.specs.Holding.{Holding, records_of, content_of}
use Rattle.guest_store.specs.Group.{said_of, done_newly, taken_if, without_record, without_settled, with_lot_for, lot_for, with_group, dones_of, keeps_nothing, prepared, transacted, performed, all_dones}
use Rattle.guest_store.specs.Performing.{HasPerformed, CallPerforms}
use Rattle.guest_store.proofs.Finds.{found_settled}
use Rattle.guest_store.proofs.Took.{Below, group_good, group_performed, group_taken, kept_for, by_kept}

-- ---- settled ids

same_state : {M : Model} → (ids : List ℕ) (y : Holding M) → (without_settled ids y).state ≡ y.state
same_state [] y = refl
same_state (id ∷ ids) y = same_state ids (without_record id y)

right_still : (b : Bool) (r : Option Said) (a : Said) → cond b None r ≡ Some a → r ≡ Some a
right_still true r a is = absurd cc
right_still false r a is = is

kept_still : (b c : Bool) (r : Option Said) → (b ≡ true → c ≡ true) → c ≡ false → cond b None r ≡ r
kept_still true c r within off = absurd (let on = within refl in let clash = sym on ∙ off in cc)
kept_still false c r within off = refl

settled_stand : {M : Model} → (ids : List ℕ) (y : Holding M) (at : Standing M) → Includes at.settled ids → StandsAt M (content_of M y) at
    → StandsAt M (content_of M (without_settled ids y)) at
settled_stand {M} ids y at within so = record {
  tree = so.tree;
  distinct = so.distinct;
  rows_are = ap M.held_for (same_state ids y) ∙ so.rows_are;
  right = λ i a is. so.right i a (right_still (is_in ids i) (records_of y.kept i) a (sym (found_settled (λ k. k.said) ids y i) ∙ is));
  kept = λ i off.
      found_settled (λ k. k.said) ids y i ∙ kept_still (is_in ids i) (is_in at.settled i) (records_of y.kept i) (within i) off ∙ so.kept i off;
}

-- ---- the lot

lotted_stand : {M : Model} → (lot : Option ℕ) (y : Holding M) (at : Standing M) → StandsAt M (content_of M y) at
    → StandsAt M (content_of M (with_lot_for lot y)) at
lotted_stand None y at so = so
lotted_stand (Some n) y at so = so

lotted_state : {M : Model} → (lot : Option ℕ) (y : Holding M) → (with_lot_for lot y).state ≡ y.state
lotted_state None y = refl
lotted_state (Some n) y = refl

pub prepared_state : {M : Model} → (lot : Option ℕ) (ids : List ℕ) (y : Holding M) → (prepared lot ids y).state ≡ y.state
prepared_state lot ids y = lotted_state lot (without_settled ids y) ∙ same_state ids y

prepared_good : {M : Model} → (lot : Option ℕ) (ids : List ℕ) (y : Holding M) → M.IsGood y.state → M.IsGood (prepared lot ids y).state
prepared_good {M} lot ids y good = subst M.IsGood (sym (prepared_state lot ids y)) good

call_good : {M : Model} → Below M → (lot : Option ℕ) (ids : List ℕ) (es : List Entry) (y : Holding M) → All (IsPerformed M.service) es → M.IsGood y.state
    → M.IsGood (performed lot ids es y).state
call_good {M} g lot ids es y are good =
    by_kept (λ (z : Holding M). M.IsGood z.state) (kept_of M.service es) ids y (transacted lot ids es y) (λ none empty. good)
    (group_good g (lot_for lot y) es (prepared lot ids y) are (prepared_good lot ids y good))

-- ---- a group of seen requests alone

seen_one : (b : Bool) (e : Entry) (rest : List Entry) → unless_seen b e ++ rest ≡ [] → (b ≡ true) × (rest ≡ [])
seen_one true e rest none = (refl, none)
seen_one false e rest none = absurd (cc none)

-- it leaves what is held
pub group_seen : {M : Model} → (lot : ℕ) (es : List Entry) (y : Holding M) → kept_of M.service es ≡ [] → with_group lot es y ≡ y
group_seen lot [] y none = refl
group_seen {M} lot (e ∷ es) y none =
    let one = seen_one (is_seen M.service e) e (kept_of M.service es) none in
    ap (λ b. with_group lot es (taken_if b lot e y).holding) one.0 ∙ group_seen lot es y one.1

-- whatever the lot and the records, it is answered by the state
pub dones_seen : {M : Model} → (lot other : ℕ) (es : List Entry) (y z : Holding M) → kept_of M.service es ≡ [] → y.state ≡ z.state
    → dones_of lot es y ≡ dones_of other es z
dones_seen lot other [] y z none same = refl
dones_seen {M} lot other (e ∷ es) y z none same =
    let one = seen_one (is_seen M.service e) e (kept_of M.service es) none in
    ap (λ b. (taken_if b lot e y).done ∷ dones_of lot es (taken_if b lot e y).holding) one.0
    ∙ ap (λ (t : M.State). done_newly (said_of e (record y { state = t })) ∷ dones_of lot es y) same
    ∙ ap (λ ds. done_newly (said_of e z) ∷ ds) (dones_seen lot other es y z one.1 same)
    ∙ ap (λ b. (taken_if b other e z).done ∷ dones_of other es (taken_if b other e z).holding) (sym one.0)

-- where nothing is to be kept, nothing changes
pub call_seen : {M : Model} → (lot : Option ℕ) (es : List Entry) (y : Holding M) → kept_of M.service es ≡ [] → performed lot [] es y ≡ y
call_seen lot es y none = ap (λ kept. cond (keeps_nothing kept []) y (transacted lot [] es y)) none

-- its answers are those over what is held
pub seen_dones : {M : Model} → (lot : Option ℕ) (n : ℕ) (ids : List ℕ) (es : List Entry) (y : Holding M) → kept_of M.service es ≡ []
    → all_dones lot ids es y ≡ dones_of n es y
seen_dones lot n ids es y none = dones_seen (lot_for lot y) n es (prepared lot ids y) y none (prepared_state lot ids y)

-- ---- a whole call, over what is held of a good state

module _ {M : Model} (g : Below M) (lot : Option ℕ) (ids : List ℕ) (es : List Entry) (y : Holding M) (are : All (IsPerformed M.service) es) (good : M.IsGood y.state) where
  seen_performed : (at : Standing M) → StandsAt M (content_of M y) at → All (IsUnsettled at.settled) (kept_of M.service es) → kept_of M.service es ≡ []
      → HasPerformed M y at es (all_dones lot ids es y)
  seen_performed at so each none =
      subst (λ ds. HasPerformed M y at es ds) (sym (seen_dones lot 0 ids es y none))
      (subst (λ (z : Holding M). HasPerformed M z at es (dones_of 0 es y)) (group_seen 0 es y none) (group_performed g 0 es y at are good each so))

  seen_taken : (before : KeeperContent M) → AreThese M (M.held_for y.state) (records_of y.kept) before.rows before.records → kept_of M.service es ≡ []
      → ids ≡ []
      → TakesAll M (record before { records = without ids before.records }) es (content_of M y) (all_dones lot ids es y)
  seen_taken before same none empty =
      let left : KeeperContent M = record before { records = without ids before.records } in
      subst (λ ds. TakesAll M left es (content_of M y) ds) (sym (seen_dones lot 0 ids es y none))
      (subst (λ (z : Holding M). TakesAll M left es (content_of M z) (dones_of 0 es y)) (group_seen 0 es y none)
      ((g.grow).same_taken (content_of M y) left es (content_of M (with_group 0 es y)) (dones_of 0 es y)
      (same.0, λ i. ap (λ l. cond (is_in l i) None (before.records i)) empty ∙ same.1 i) (group_taken g 0 es y are good)))

  -- what a call makes stands for the history grown by the group, and each answer is the one said in it
  call_performed : (at : Standing M) → Includes at.settled ids → All (IsUnsettled at.settled) (kept_of M.service es) → StandsAt M (content_of M y) at
      → HasPerformed M (performed lot ids es y) at es (all_dones lot ids es y)
  call_performed at within each so =
      let z = without_settled ids y in
      by_kept (λ (w : Holding M). HasPerformed M w at es (all_dones lot ids es y)) (kept_of M.service es) ids y (transacted lot ids es y)
      (λ none empty. seen_performed at so each none)
      (group_performed g (lot_for lot y) es (prepared lot ids y) at are (prepared_good lot ids y good) each
      (lotted_stand lot z at (settled_stand ids y at within so)))

  -- the entries of the group are taken over the records that aren't settled
  call_taken : (before : KeeperContent M) → AreThese M (M.held_for y.state) (records_of y.kept) before.rows before.records
      → TakesAll M (record before { records = without ids before.records }) es (content_of M (performed lot ids es y)) (all_dones lot ids es y)
  call_taken before same =
      let z = without_settled ids y in
      let left : KeeperContent M = record before { records = without ids before.records } in
      by_kept (λ (w : Holding M). TakesAll M left es (content_of M w) (all_dones lot ids es y)) (kept_of M.service es) ids y (transacted lot ids es y)
      (λ none empty. seen_taken before same none empty)
      ((g.grow).same_taken (content_of M (prepared lot ids y)) left es (content_of M (transacted lot ids es y)) (all_dones lot ids es y) (
        same.0 ∙ sym (ap M.held_for (prepared_state lot ids y)),
        λ i. ap (λ o. cond (is_in ids i) None o) (same.1 i) ∙ sym (ap (λ ks. records_of ks i) (kept_for lot z) ∙ found_settled (λ k. k.said) ids y i),
      )
      (group_taken g (lot_for lot y) es (prepared lot ids y) are (prepared_good lot ids y good)))

  pub call_performs : CallPerforms M lot ids es y
  call_performs = record { good = call_good g lot ids es y are good; group = call_performed; acts = call_taken }

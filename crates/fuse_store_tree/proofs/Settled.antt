-- What a whole call makes, in the words of a keeper.
use Rattle.std.proofs.Common.{◌≡◌, ℕ, List, [], ◌∷◌, Bool, true, false, cond, All, Option, Some, None}
use Rattle.std.proofs.Common.{refl, sym, ap, subst, ◌∙◌}
use Rattle.fuse_answer.specs.Said.{Said}
use Rattle.fuse_tree.specs.State.{State, Tree}
use Rattle.fuse_rows.specs.Rows.{Rows}
use Rattle.fuse_tree.specs.Rowed.{rowed}
use Rattle.fuse_keeper.specs.History.{Entry, History, kept_of, IsUnsettled, Includes, is_in}
use Rattle.fuse_keeper.specs.Stands.{Records, KeeperContent, Standing, Stands, AreThese, without}
use Rattle.fuse_keeper.specs.Taking.{TakesAll}
use Rattle.fuse_request.specs.Opcodes.{Service}
use Rattle.fuse_store_tree.specs.Store.{records_of}
use Rattle.fuse_store_tree.specs.Holding.{Holding}
use Rattle.fuse_init.specs.declared.profile.Profile.{Profile}
use Rattle.fuse_tree.specs.TheTree.{tree_of}
use Rattle.fuse_store_tree.specs.Group.{without_record, without_settled, with_lot_for, lot_for, with_group, dones_of, keeps_nothing, transacted, performed, all_dones}
use Rattle.fuse_store_tree.proofs.Finds.{found_settled}
use Rattle.fuse_store_tree.specs.Performing.{keeper_content_of, HasPerformed}
use Rattle.fuse_store_tree.proofs.Groups.{group_seen, dones_seen, prepared_tree as same_prepared}
use Rattle.fuse_store_tree.proofs.Took.{Below, group_tree, group_good, group_performed, group_taken, kept_for, by_kept}

-- ---- settled ids

same_tree : (ids : List ℕ) (y : Holding) → (without_settled ids y).tree ≡ y.tree
same_tree [] y = refl
same_tree (id ∷ ids) y = same_tree ids (without_record id y)

right_still : (b : Bool) (r : Option Said) (a : Said) → cond b None r ≡ Some a → r ≡ Some a
right_still true r a is = absurd cc
right_still false r a is = is

kept_still : (b c : Bool) (r : Option Said) → (b ≡ true → c ≡ true) → c ≡ false → cond b None r ≡ r
kept_still true c r within off = absurd (let on = within refl in let clash = sym on ∙ off in cc)
kept_still false c r within off = refl

settled_stand : (p : Profile) (ids : List ℕ) (y : Holding) (s : State) (h : History) (t : List ℕ) → Includes t ids → Stands (tree_of p) (rowed y.tree) (records_of y.kept) s h t
    → Stands (tree_of p) (rowed (without_settled ids y).tree) (records_of (without_settled ids y).kept) s h t
settled_stand p ids y s h t within so = record {
  tree = so.tree;
  distinct = so.distinct;
  rows_are = ap rowed (same_tree ids y) ∙ so.rows_are;
  right = λ i a is. so.right i a (right_still (is_in ids i) (records_of y.kept i) a (sym (found_settled (λ k. k.said) ids y i) ∙ is));
  kept = λ i off. found_settled (λ k. k.said) ids y i ∙ kept_still (is_in ids i) (is_in t i) (records_of y.kept i) (within i) off ∙ so.kept i off;
}

-- ---- the lot

lotted_stand : (p : Profile) (lot : Option ℕ) (y : Holding) (s : State) (h : History) (t : List ℕ) → Stands (tree_of p) (rowed y.tree) (records_of y.kept) s h t
    → Stands (tree_of p) (rowed (with_lot_for lot y).tree) (records_of (with_lot_for lot y).kept) s h t
lotted_stand p None y s h t so = so
lotted_stand p (Some n) y s h t so = so

lotted_tree : (lot : Option ℕ) (y : Holding) → (with_lot_for lot y).tree ≡ y.tree
lotted_tree None y = refl
lotted_tree (Some n) y = refl

prepared_tree : (lot : Option ℕ) (ids : List ℕ) (y : Holding) → Tree y.tree → Tree (with_lot_for lot (without_settled ids y)).tree
prepared_tree lot ids y tree = subst Tree (sym (lotted_tree lot (without_settled ids y) ∙ same_tree ids y)) tree

-- what a call makes is a tree still
pub call_tree : {p : Profile} → Below p → (V : Service) (lot : Option ℕ) (ids : List ℕ) (es : List Entry) (y : Holding) → Tree y.tree
    → Tree (performed V lot ids es y).tree
call_tree g V lot ids es y tree =
    by_kept (λ z. Tree z.tree) (kept_of V es) ids y (transacted V lot ids es y) (λ none empty. tree)
    (group_tree g V (lot_for lot y) es (with_lot_for lot (without_settled ids y)) (prepared_tree lot ids y tree))

pub call_good : {p : Profile} → Below p → (V : Service) (lot : Option ℕ) (ids : List ℕ) (es : List Entry) (y : Holding) → (tree_of p).IsGood y.tree
    → (tree_of p).IsGood (performed V lot ids es y).tree
call_good {p} g V lot ids es y good =
    let z = without_settled ids y in
    by_kept (λ z. (tree_of p).IsGood z.tree) (kept_of V es) ids y (transacted V lot ids es y) (λ none empty. good)
    (group_good g V (lot_for lot y) es (with_lot_for lot z) (subst (tree_of p).IsGood (sym (lotted_tree lot z ∙ same_tree ids y)) good))

-- ---- a group of seen requests alone

-- where nothing is to be kept, nothing changes
pub call_seen : (V : Service) (lot : Option ℕ) (es : List Entry) (y : Holding) → kept_of V es ≡ [] → performed V lot [] es y ≡ y
call_seen V lot es y none = ap (λ kept. cond (keeps_nothing kept []) y (transacted V lot [] es y)) none

pub nothing_kept : (kept : List Entry) (ids : List ℕ) → keeps_nothing kept ids ≡ true → (kept ≡ []) × (ids ≡ [])
nothing_kept [] [] is = (refl, refl)
nothing_kept [] (id ∷ ids) is = absurd (cc is)
nothing_kept (e ∷ es) ids is = absurd (cc is)

-- its answers are those over what is held
pub seen_dones : (V : Service) (lot : Option ℕ) (n : ℕ) (ids : List ℕ) (es : List Entry) (y : Holding) → kept_of V es ≡ []
    → all_dones V lot ids es y ≡ dones_of V n es y
seen_dones V lot n ids es y none = dones_seen V (lot_for lot y) n es (with_lot_for lot (without_settled ids y)) y none (same_prepared lot ids y)

seen_performed : {p : Profile} → Below p → (lot : Option ℕ) (ids : List ℕ) (es : List Entry) (y : Holding) (at : Standing (tree_of p))
    → Stands (tree_of p) (rowed y.tree) (records_of y.kept) at.state at.history at.settled
    → All (IsUnsettled at.settled) (kept_of (tree_of p).service es)
    → kept_of (tree_of p).service es ≡ [] → HasPerformed p y at es (all_dones (tree_of p).service lot ids es y)
seen_performed {p} g lot ids es y at so each none =
    let V = (tree_of p).service in
    subst (λ ds. HasPerformed p y at es ds) (sym (seen_dones V lot 0 ids es y none))
    (subst (λ z. HasPerformed p z at es (dones_of V 0 es y)) (group_seen V 0 es y none) (group_performed g 0 es y at each so))

seen_taken : {p : Profile} → Below p → (lot : Option ℕ) (ids : List ℕ) (es : List Entry) (y : Holding) (rows : Rows) (records : Records)
    → AreThese (tree_of p) (rowed y.tree) (records_of y.kept) rows records → kept_of (tree_of p).service es ≡ [] → ids ≡ []
    → TakesAll (tree_of p) (record { rows = rows; records = without ids records }) es (keeper_content_of p y) (all_dones (tree_of p).service lot ids es y)
seen_taken {p} g lot ids es y rows records are none empty =
    let V = (tree_of p).service in
    let before : KeeperContent (tree_of p) = record { rows = rows; records = without ids records } in
    subst (λ ds. TakesAll (tree_of p) before es (keeper_content_of p y) ds) (sym (seen_dones V lot 0 ids es y none))
    (subst (λ z. TakesAll (tree_of p) before es (keeper_content_of p z) (dones_of V 0 es y)) (group_seen V 0 es y none)
    ((g.grow).same_taken (keeper_content_of p y) before es (keeper_content_of p (with_group V 0 es y)) (dones_of V 0 es y)
    (are.0, λ i. ap (λ l. cond (is_in l i) None (records i)) empty ∙ are.1 i) (group_taken g 0 es y)))

-- ---- a whole call

-- what a call makes stands for the history grown by the group, and each answer is the one said in it
pub call_performed : {p : Profile} → Below p → (lot : Option ℕ) (ids : List ℕ) (es : List Entry) (y : Holding) (s : State) (h : History) (t : List ℕ) → Tree y.tree
    → Includes t ids
    → All (IsUnsettled t) (kept_of (tree_of p).service es) → Stands (tree_of p) (rowed y.tree) (records_of y.kept) s h t
    → HasPerformed p (performed (tree_of p).service lot ids es y) (record { state = s; history = h; settled = t }) es
    (all_dones (tree_of p).service lot ids es y)
call_performed {p} g lot ids es y s h t tree within each so =
    let V = (tree_of p).service in
    let z = without_settled ids y in
    let at : Standing (tree_of p) = record { state = s; history = h; settled = t } in
    by_kept (λ w. HasPerformed p w at es (all_dones V lot ids es y)) (kept_of V es) ids y (transacted V lot ids es y)
    (λ none empty. seen_performed g lot ids es y at so each none)
    (group_performed g (lot_for lot y) es (with_lot_for lot z) at each (lotted_stand p lot z s h t (settled_stand p ids y s h t within so)))

-- the entries of the group are taken over the records that aren't settled
pub call_taken : {p : Profile} → Below p → (lot : Option ℕ) (ids : List ℕ) (es : List Entry) (y : Holding) (rows : Rows) (records : Records) → Tree y.tree
    → AreThese (tree_of p) (rowed y.tree) (records_of y.kept) rows records
    → TakesAll (tree_of p) (record { rows = rows; records = without ids records }) es (keeper_content_of p (performed (tree_of p).service lot ids es y))
    (all_dones (tree_of p).service lot ids es y)
call_taken {p} g lot ids es y rows records tree are =
    let V = (tree_of p).service in
    let z = without_settled ids y in
    let before = with_lot_for lot z in
    by_kept (λ w. TakesAll (tree_of p) (record { rows = rows; records = without ids records }) es (keeper_content_of p w) (all_dones V lot ids es y))
    (kept_of V es) ids y (transacted V lot ids es y) (λ none empty. seen_taken g lot ids es y rows records are none empty)
    ((g.grow).same_taken (keeper_content_of p before) (record { rows = rows; records = without ids records }) es
    (keeper_content_of p (transacted V lot ids es y)) (all_dones V lot ids es y) (
      are.0 ∙ sym (ap rowed (lotted_tree lot z ∙ same_tree ids y)),
      λ i. ap (λ o. cond (is_in ids i) None o) (are.1 i) ∙ sym (ap (λ ks. records_of ks i) (kept_for lot z) ∙ found_settled (λ k. k.said) ids y i),
    )
    (group_taken g (lot_for lot y) es before))

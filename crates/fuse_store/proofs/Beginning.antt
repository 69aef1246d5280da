-- A mount that begins, in the words of a keeper.
use Rattle.std.proofs.Common.{◌≡◌, ℕ, Bool, List, [], Option, None, Ok, Result, refl, sym, ap, subst, ◌∙◌}
use Rattle.fuse_tree.specs.State.{State as TreeState, profile_of, Tree}
use Rattle.fuse_tree.specs.Clearing.{cleared_tree}
use Rattle.fuse_rows.specs.Rows.{Rows}
use Rattle.fuse_tree.specs.Rowed.{rowed}
use Rattle.fuse_tree.specs.Laws.{RowsTellState}
use Rattle.fuse_keeper.specs.History.{History, after, said, Distinct}
use Rattle.fuse_keeper.specs.Stands.{Records, Stands}
use Rattle.fuse_keeper.specs.KeeperState.{BeginsMount, DropsLots, LeavesMount, StandsFor}
use Rattle.fuse_keeper.specs.declared.fault.StoreFault.{StoreFault}
use Rattle.fuse_init.specs.declared.profile.Profile.{Profile}
use Rattle.fuse_store_tree.specs.Store.{records_of}
use Rattle.fuse_store_tree.specs.Holding.{Holding}
use Rattle.fuse_store_tree.specs.declared.meta.Meta.{Meta}
use Rattle.fuse_store_tree.specs.StoreState.{StoreState, IsAtRest, ServesStore}
use Rattle.fuse_store_tree.specs.Lots.{LotsAreSame}
use Rattle.fuse_store_tree.specs.Performing.{OneHolding, HoldingStands}
use Rattle.fuse_tree.specs.TheTree.{tree_of}
use Rattle.fuse_store.specs.Mounting.{cleared_for}
use Rattle.fuse_store.specs.TableState.{IsOf, table_told}
use Rattle.fuse_store.proofs.Serving.{stands_on, holds_at, leaves_either}
use Rattle.fuse_store.proofs.Grouping.{its_own}

-- a start stands for no history
pub starts : (p : Profile) (s : TreeState) → (tree_of p).IsGood s → Stands (tree_of p) (rowed s) (records_of []) s [] []
unfolding after said Distinct
starts p s good = record {
  tree = good;
  distinct = tt;
  rows_are = refl;
  right = λ i a there. absurd cc;
  kept = λ i off. refl;
}

-- what is left of what was held: the tree of a new mount, without a record
pub record Clears (g : Holding → Holding) : Type 0 where
  pub tree : (y : Holding) → (g y).tree ≡ cleared_tree y.tree
  pub kept : (y : Holding) → (g y).kept ≡ []
  pub lots : (y : Holding) → (g y).lots ≡ []

pub clears_all : Clears cleared_for
clears_all = record { tree = λ y. refl; kept = λ y. refl; lots = λ y. refl }

module _ (p : Profile) (rows_tell : RowsTellState) (clear : (s : TreeState) → (tree_of p).IsGood s → (tree_of p).IsGood (cleared_tree s)) (g : Holding → Holding) (clears : Clears g) where
  -- it keeps the profile
  keeps_profile : (y : Holding) → Tree y.tree → profile_of y.tree ≡ p → profile_of (g y).tree ≡ p
  keeps_profile y tree own = ap profile_of (clears.tree y) ∙ (clear y.tree (record { tree = tree; profile = own })).profile

  -- it stands for the mount that begins
  begun : (y : Holding) (rows : Rows) (records : Records) (s : TreeState) (h : History) (t : List ℕ) → IsOf y rows records
      → Stands (tree_of p) rows records s h t → HoldingStands p (g y) (cleared_tree (after (tree_of p) s h)) [] []
  begun y rows records s h t is so =
      let same : y.tree ≡ after (tree_of p) s h = rows_tell y.tree (after (tree_of p) s h) (sym is.rows_are ∙ so.rows_are) in
      let new : (g y).tree ≡ cleared_tree (after (tree_of p) s h) = clears.tree y ∙ ap cleared_tree same in
      subst (λ ks. Stands (tree_of p) (rowed (g y).tree) (records_of ks) (cleared_tree (after (tree_of p) s h)) [] []) (sym (clears.kept y))
      (subst (λ u. Stands (tree_of p) (rowed (g y).tree) (records_of []) u [] []) new (starts p (g y).tree (subst (tree_of p).IsGood (sym new) (clear (after (tree_of p) s h) so.tree))))

  -- a store of which a mount began, where it stood for this
  pub begun_after : OneHolding → (n : Option Meta) (b : StoreState) (y : Holding) → IsAtRest n (g y) b → (s : TreeState) (h : History) (t : List ℕ)
      → Stands (tree_of p) (rowed y.tree) (records_of y.kept) s h t → (lot : Option ℕ) (failed : Bool)
      → StandsFor (table_told p ⊥ n b lot failed) (cleared_tree (after (tree_of p) s h)) [] []
  begun_after one n b y at s h t so lot failed = record {
    rows = rowed (g y).tree;
    records = records_of (g y).kept;
    held =
        let good = subst (tree_of p).IsGood (sym (rows_tell y.tree (after (tree_of p) s h) so.rows_are)) so.tree in
        holds_at one n b (g y) (rowed (g y).tree) (records_of (g y).kept) (keeps_profile y good.tree good.profile) at (its_own (g y));
    stands = begun y (rowed y.tree) (records_of y.kept) s h t (its_own y) so;
  }

  module _ (one : OneHolding) (m : Option Meta) (a b : StoreState) {X : Type 0} (x : X) (serves : ServesStore {E = StoreFault} m None g a b (Ok x)) where
    pub begins_mount : (lot now : Option ℕ) (was is : Bool) → BeginsMount (table_told p ⊥ m a lot was) (table_told p ⊥ None b now is)
    begins_mount lot now was is clean s h t so =
        let y = so.held.holding in
        let after = serves.done clean y so.held.rests in
        record {
          rows = rowed (g y).tree;
          records = records_of (g y).kept;
          held = holds_at one None b (g y) (rowed (g y).tree) (records_of (g y).kept) (keeps_profile y so.held.rests.rests.holds.0.tree so.held.profile) after
              (its_own (g y));
          stands = begun y so.rows so.records s h t so.held.is_of so.stands;
        }

    pub drops_lots : LotsAreSame → (lot : Option ℕ) (was is : Bool) → DropsLots (table_told p ⊥ m a lot was) (table_told p ⊥ None b None is)
    drops_lots told lot was is clean rows records at =
        let y = at.holding in
        let same = told None b.contents.seen (g y) b.tables.now (serves.done clean y at.rests).rests.holds.0 in
        record { numbers = same.numbers ∙ clears.lots y; current = same.current }

  pub leaves_mount : OneHolding → {X : Type 0} → (m : Option Meta) (a b : StoreState) → (r : Result X StoreFault) → ServesStore m None g a b r → (lot now : Option ℕ) (was is : Bool) → LeavesMount (table_told p ⊥ m a lot was) (table_told p ⊥ None b now is)
  leaves_mount one m a b r serves lot now was is s h t so firm =
      let y = so.held.holding in
      leaves_either one m None g a b serves.crash y so.held.rests p so.held.profile
      (keeps_profile y so.held.rests.rests.holds.0.tree so.held.profile) now is s (cleared_tree (after (tree_of p) s h)) h [] t []
      (stands_on p y so.rows so.records s h t so.held.is_of so.stands) (begun y so.rows so.records s h t so.held.is_of so.stands)

-- Laws of the content of a database and of the effect of a call, in the words of a keeper (defined by this project).
use Rattle.std.specs.Prelude.{◌≡◌, ℕ, List, [], All, Option}
use Rattle.sqlite.specs.Effect.{Database}
use Rattle.fuse_tree.specs.State.{State, Tree}
use Rattle.fuse_rows.specs.Rows.{Rows}
use Rattle.fuse_tree.specs.Rowed.{rowed}
use Rattle.fuse_keeper.specs.History.{Entry, History, kept_of, Includes, IsUnsettled}
use Rattle.fuse_keeper.specs.Stands.{Records, KeeperContent, Standing, Stands, AreThese, PerformedBy, OthersStay, without}
use Rattle.fuse_keeper.specs.Taking.{TakesAll}
use Rattle.fuse_keeper.specs.Lots.{RecordsUnder}
use Rattle.fuse_keeper.specs.declared.keeper.Done.{Done}
use Rattle.fuse_init.specs.declared.profile.Profile.{Profile}
use Rattle.fuse_tree.specs.TheTree.{tree_of}
use Rattle.fuse_store_tree.specs.Store.{records_of}
use Rattle.fuse_store_tree.specs.Holding.{Holding, HeldFor, AreBelow, lots_of}
use Rattle.fuse_store_tree.specs.Group.{lot_after, performed, all_dones}

-- a database and a data file hold only one thing
abbrev pub OneHolding : Type 0
OneHolding = (file : List ℕ) (x y : Holding) (d : Database) → HeldFor file x d → HeldFor file y d → x ≡ y

-- its rows and records, as those of a profile
abbrev pub keeper_content_of : (p : Profile) → Holding → KeeperContent (tree_of p)
keeper_content_of p y = record { rows = rowed y.tree; records = records_of y.kept }

-- the holding stands for a history
abbrev pub HoldingStands : Profile → Holding → State → History → List ℕ → Type 0
HoldingStands p y s h t = Stands (tree_of p) (rowed y.tree) (records_of y.kept) s h t

-- the holding stands for the history extended by a group, and each answer is the one said in it
abbrev pub HasPerformed : (p : Profile) → Holding → Standing (tree_of p) → List Entry → List Done → Type 0
HasPerformed p y at es dones = PerformedBy (tree_of p) (AreThese (tree_of p) (rowed y.tree) (records_of y.kept)) at es dones

-- of a call with the lot of this opening, settled ids and a group
pub record CallsPerform (p : Profile) : Type 0 where
  -- a tree stays a tree
  pub tree : (lot : Option ℕ) (ids : List ℕ) (es : List Entry) (y : Holding) → Tree y.tree
      → Tree (performed (tree_of p).service lot ids es y).tree
  -- of the profile
  pub good : (lot : Option ℕ) (ids : List ℕ) (es : List Entry) (y : Holding) → (tree_of p).IsGood y.tree
      → (tree_of p).IsGood (performed (tree_of p).service lot ids es y).tree
  -- the group is performed
  pub group : (lot : Option ℕ) (ids : List ℕ) (es : List Entry) (y : Holding) (s : State) (h : History) (t : List ℕ) → Tree y.tree → Includes t ids
      → All (IsUnsettled t) (kept_of (tree_of p).service es) → HoldingStands p y s h t
      → HasPerformed p (performed (tree_of p).service lot ids es y) (record { state = s; history = h; settled = t }) es
      (all_dones (tree_of p).service lot ids es y)
  -- the entries are taken one after the other over the records that aren't settled
  pub acts : (lot : Option ℕ) (ids : List ℕ) (es : List Entry) (y : Holding) (rows : Rows) (records : Records) → Tree y.tree
      → AreThese (tree_of p) (rowed y.tree) (records_of y.kept) rows records
      → TakesAll (tree_of p) (record { rows = rows; records = without ids records }) es (keeper_content_of p (performed (tree_of p).service lot ids es y))
      (all_dones (tree_of p).service lot ids es y)
  -- the records of other ids stay, without the settled ones
  pub others : (lot : Option ℕ) (ids : List ℕ) (es : List Entry) (y : Holding)
      → OthersStay (records_of y.kept) ids (kept_of (tree_of p).service es) (records_of (performed (tree_of p).service lot ids es y).kept)
  -- the lot of the records of the group
  pub lots : (lot : Option ℕ) (ids : List ℕ) (es : List Entry) (y : Holding) → AreBelow y.next_lot y.lots
      → RecordsUnder (lots_of lot y) (lots_of (lot_after (tree_of p).service lot ids es y) (performed (tree_of p).service lot ids es y)) (records_of y.kept) ids
      (kept_of (tree_of p).service es)
  -- where no entry is kept and no id is settled, nothing changes
  pub seen : (lot : Option ℕ) (es : List Entry) (y : Holding) → kept_of (tree_of p).service es ≡ [] → performed (tree_of p).service lot [] es y ≡ y

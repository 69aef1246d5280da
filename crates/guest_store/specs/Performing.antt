-- Laws of the effect of a call, in the words of a keeper (defined by this project).
use Rattle.std.specs.Prelude.{◌≡◌, ℕ, List, [], All, Option}
use Rattle.fuse_keeper.specs.Model.{Model}
use Rattle.fuse_keeper.specs.Group.{IsPerformed}
use Rattle.fuse_keeper.specs.History.{Entry, kept_of, Includes, IsUnsettled}
use Rattle.fuse_keeper.specs.Stands.{KeeperContent, Standing, StandsAt, AreThese, PerformedBy, OthersStay, without}
use Rattle.fuse_keeper.specs.Taking.{TakesAll}
use Rattle.fuse_keeper.specs.Lots.{RecordsUnder}
use Rattle.fuse_keeper.specs.declared.keeper.Done.{Done}
use Rattle.guest_store.specs.Holding.{Holding, records_of, content_of, AreBelow, lots_of}
use Rattle.guest_store.specs.Group.{lot_after, performed, all_dones}

-- good states with the same rows are the same
abbrev pub RowsTellState : Model → Type 0
RowsTellState M = (s t : M.State) → M.IsGood s → M.IsGood t → M.held_for s ≡ M.held_for t → s ≡ t

-- the holding stands for the history extended by a group, and each answer is the one said in it
abbrev pub HasPerformed : (M : Model) → Holding M → Standing M → List Entry → List Done → Type 0
HasPerformed M y at es dones = PerformedBy M (AreThese M (M.held_for y.state) (records_of y.kept)) at es dones

-- of a call with the lot of this opening, settled ids and a group, over what is held of a good state
pub record CallPerforms (M : Model) (lot : Option ℕ) (ids : List ℕ) (es : List Entry) (y : Holding M) : Type 0 where
  pub good : M.IsGood (performed lot ids es y).state
  -- the group is performed
  pub group : (at : Standing M) → Includes at.settled ids → All (IsUnsettled at.settled) (kept_of M.service es) → StandsAt M (content_of M y) at
      → HasPerformed M (performed lot ids es y) at es (all_dones lot ids es y)
  -- the entries are taken one after the other over the records that aren't settled
  pub acts : (before : KeeperContent M) → AreThese M (M.held_for y.state) (records_of y.kept) before.rows before.records
      → TakesAll M (record before { records = without ids before.records }) es (content_of M (performed lot ids es y)) (all_dones lot ids es y)

pub record CallsPerform (M : Model) : Type 0 where
  -- the requests of the group are kept or seen
  pub calls : (lot : Option ℕ) (ids : List ℕ) (es : List Entry) (y : Holding M) → All (IsPerformed M.service) es → M.IsGood y.state → CallPerforms M lot ids es y
  -- the records of other ids stay, without the settled ones
  pub others : (lot : Option ℕ) (ids : List ℕ) (es : List Entry) (y : Holding M)
      → OthersStay (records_of y.kept) ids (kept_of M.service es) (records_of (performed lot ids es y).kept)
  -- the lot of the records of the group
  pub lots : (lot : Option ℕ) (ids : List ℕ) (es : List Entry) (y : Holding M) → AreBelow y.next_lot y.lots
      → RecordsUnder (lots_of lot y) (lots_of (lot_after lot ids es y) (performed lot ids es y)) (records_of y.kept) ids (kept_of M.service es)
  -- where no entry is kept and no id is settled, nothing changes
  pub seen : (lot : Option ℕ) (es : List Entry) (y : Holding M) → kept_of M.service es ≡ [] → performed lot [] es y ≡ y

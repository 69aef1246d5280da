-- A mount that begins, in the words of a keeper.
use Rattle.std.proofs.Common.{◌≡◌, ℕ, Bool, [], Option, None, Ok, Result, refl, sym, subst, ◌∙◌}
use Rattle.fuse_keeper.specs.History.{after, said, Distinct}
use Rattle.fuse_keeper.specs.Stands.{Records, Standing, Stands}
use Rattle.fuse_keeper.specs.KeeperState.{BeginsMount, DropsLots, LeavesMount}
use Rattle.fuse_keeper.specs.declared.fault.StoreFault.{StoreFault}
use Rattle.fuse_guest.specs.Talk.{Guest}
use Rattle.fuse_guest.specs.GuestModel.{GuestState, guest_model, cleared_guest}
use Rattle.guest_tables.specs.Reading.{HoldingsAreRead}
use Rattle.guest_store.specs.Holding.{records_of}
use Rattle.guest_store.specs.Mounting.{begun}
use Rattle.guest_store.specs.StoreState.{HeldOf, StoreState, ServesStore}
use Rattle.guest_store.specs.TableState.{IsOf, guest_told}
use Rattle.guest_store.proofs.Serving.{HoldingStands, stands_on, holds_at, its_own, lots_same, leaves_either}

-- a start stands for no history
pub starts : (G : Guest) (s : GuestState) → (guest_model G).IsGood s → Stands (guest_model G) s (records_of []) s [] []
unfolding after said Distinct
starts G s good = record {
  tree = good;
  distinct = tt;
  rows_are = refl;
  right = λ i a there. absurd cc;
  kept = λ i off. refl;
}

-- the standing of a mount that begins after this history
abbrev newly : (G : Guest) → Standing (guest_model G) → Standing (guest_model G)
newly G at = record { state = cleared_guest (after (guest_model G) at.state at.history); history = []; settled = [] }

stands_newly : (G : Guest) (y : HeldOf G) (rows : GuestState) (records : Records) (at : Standing (guest_model G)) → IsOf G y rows records
    → Stands (guest_model G) rows records at.state at.history at.settled → HoldingStands G (begun y) (newly G at)
stands_newly G y rows records at is so =
    let last = after (guest_model G) at.state at.history in
    let same : y.state ≡ last = sym is.rows_are ∙ so.rows_are in
    subst (λ (u : GuestState). Stands (guest_model G) (cleared_guest u) (records_of []) (cleared_guest last) [] []) (sym same)
    (starts G (cleared_guest last) so.tree)

module _ (read : HoldingsAreRead) (G : Guest) (a b : StoreState) where
  pub begins_mount : {X : Type 0} → (x : X) → ServesStore G begun a b (Ok x) → (lot now : Option ℕ) (was is : Bool)
      → BeginsMount (guest_told G a lot was) (guest_told G b now is)
  begins_mount x serves lot now was is clean s h t so =
      let n = so.held.number in
      let y = so.held.holding in
      let z : HeldOf G = begun y in
      record {
        rows = z.state;
        records = records_of z.kept;
        held = holds_at read G b.tables n z z.state (records_of z.kept) (serves.done clean n y so.held.rests) (its_own G z);
        stands = stands_newly G y so.rows so.records (record { state = s; history = h; settled = t }) so.held.is_of so.stands;
      }

  pub drops_lots : {X : Type 0} → (x : X) → ServesStore G begun a b (Ok x) → (lot : Option ℕ) (was is : Bool)
      → DropsLots (guest_told G a lot was) (guest_told G b None is)
  drops_lots x serves lot was is clean rows records at =
      let n = at.number in
      let same = lots_same read G None n (begun at.holding) b.tables.now (serves.done clean n at.holding at.rests).holds in
      record { numbers = same.numbers; current = same.current }

  pub leaves_mount : {X : Type 0} → (r : Result X StoreFault) → ServesStore G begun a b r → (lot now : Option ℕ) (was is : Bool)
      → LeavesMount (guest_told G a lot was) (guest_told G b now is)
  leaves_mount r serves lot now was is s h t so firm =
      let at : Standing (guest_model G) = record { state = s; history = h; settled = t } in
      let y = so.held.holding in
      leaves_either read G begun a b serves.crash so.held.number y so.held.rests now is at (newly G at) (stands_on G y so.rows so.records at so.held.is_of so.stands)
      (λ honest. stands_newly G y so.rows so.records at so.held.is_of so.stands)

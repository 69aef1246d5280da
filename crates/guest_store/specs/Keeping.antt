-- The state of a keeper of a guest (defined by this project).
use Rattle.std.specs.Prelude.{ℕ, List, Option}
use Rattle.sqlite.specs.Held.{Held, state}
use Rattle.sqlite_trees.specs.declared.store.Store.{Ghosts}
use Rattle.fuse_keeper.specs.KeeperState.{KeeperState}
use Rattle.fuse_guest.specs.Talk.{Guest}
use Rattle.fuse_guest.specs.GuestModel.{guest_model}
use Rattle.guest_talk.specs.TalkState.{TalkState, talk_told}
use Rattle.guest_store.specs.declared.store.Broken.{Broken}
use Rattle.guest_store.specs.declared.store.Deaths.{Deaths}
use Rattle.guest_store.specs.declared.store.GuestStore.{GuestStore}
use Rattle.guest_store.specs.declared.keeper.GuestKeeper.{GuestKeeper}
use Rattle.guest_store.specs.StoreState.{StoreState}
use Rattle.guest_store.specs.TableState.{guest_told}

-- the database, and what passed the pipes
abbrev pub store_of : {S R W : Type 0} → Ghosts S → (R → Option (List ℕ)) → (W → Option (List ℕ)) → GuestStore S R W → StoreState
store_of g remaining contents s = record { tables = state g s.pairs.conn; talk = talk_told remaining contents s.talk }

abbrev pub keeper_told : {G S R W : Type 0} → (guest : Guest) → Ghosts S → (R → Option (List ℕ)) → (W → Option (List ℕ)) → GuestKeeper G S R W
    → KeeperState (guest_model guest)
keeper_told guest g remaining contents k = guest_told guest (store_of g remaining contents k.store) k.lot.number k.failed

abbrev pub conn_of : {G S R W : Type 0} → GuestKeeper G S R W → Held S
conn_of k = k.store.pairs.conn

-- the request at which the guest failed
abbrev pub broken_of : {G S R W : Type 0} → GuestKeeper G S R W → Option Broken
broken_of k = k.store.broken

-- the request that ended guests before, by what `set_deaths` said
abbrev pub deaths_of : {G S R W : Type 0} → GuestKeeper G S R W → Option Deaths
deaths_of k = k.deaths

-- what passed its pipes
abbrev pub talk_of : {G S R W : Type 0} → (R → Option (List ℕ)) → (W → Option (List ℕ)) → GuestKeeper G S R W → TalkState
talk_of remaining contents k = talk_told remaining contents k.store.talk

-- its database, and what passed the pipes
abbrev pub store_at : {G S R W : Type 0} → Ghosts S → (R → Option (List ℕ)) → (W → Option (List ℕ)) → GuestKeeper G S R W → StoreState
store_at g remaining contents k = store_of g remaining contents k.store

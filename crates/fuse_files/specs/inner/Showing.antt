-- How a store is shown (defined by this project).
use Rattle.std.specs.Prelude.{◌≡◌, ℕ, Bool, true, false, IsTrue, List, Option, Some, None, Result, Ok, Err}
use Rattle.sqlite_trees.specs.declared.store.Store.{Ghosts}
use Rattle.sqlite.specs.State.{State, HasCleanDisk}
use Rattle.fuse_store_tree.specs.StoreState.{StoreState}
use Rattle.sqlite.specs.Held.{Held, state}
use Rattle.fuse_keeper.specs.declared.fault.StoreFault.{StoreFault}
use Rattle.fuse_rows.specs.Rows.{Rows}
use Rattle.fuse_tree.specs.Rowed.{rowed}
use Rattle.fuse_store_tables.specs.declared.version.Layout.{Layout}
use Rattle.fuse_store_tables.specs.declared.version.Layout.TheVariants.{Second, Third}
use Rattle.fuse_store_tables.specs.Moves.{InsideAs}
use Rattle.fuse_store_tables.specs.Saying.{IsTabled}
use Rattle.fuse_store_tree.specs.Holding.{Holding, HeldFor}
use Rattle.fuse_store_tables.specs.Content.{LeftAs}
use Rattle.fuse_store.specs.Opening.{Stored, StoredFor, WasFor}
use Rattle.fuse_show.specs.declared.fault.ShowFault.{ShowFault}
use Rattle.fuse_show.specs.declared.fault.ShowFault.TheVariants.{Look, NotATree, NoSuchPath, NotDirectory, NotFile, Output}
use Rattle.fuse_commands.specs.declared.ending.Ending.{Ending}
use Rattle.fuse_commands.specs.declared.ending.Ending.TheVariants as ending
use Rattle.fuse_commands.specs.Endings.{store_ending}
use Rattle.fuse_files.specs.StoreShown.{SaysNothing, SaysSo}

-- whatever was called, the disk has returned what was written
abbrev pub IsAlwaysClean : {S : Type 0} → Ghosts S → Type 0
IsAlwaysClean {S} g = (conn : Held S) → HasCleanDisk (state g conn)

-- a store was not opened, for a fault with this ending
pub record Fails (s : StoreState) (e : Ending) : Type 0 where
  pub outside : (z : Stored) → WasFor z s → SaysNothing e
  pub says : SaysSo s.tables.now e

-- a transaction is open over these rows of a store, and this data file
pub record Sees (rows : Rows) (file : List ℕ) (s : State) : Type 0 where
  pub holding : Holding
  pub inside : InsideAs (HeldFor file holding) s
  pub same : rowed holding.tree ≡ rows

-- a look at the store begins, which has these rows then
pub record LooksAt (rows : Stored → Rows) (s : StoreState) (file : List ℕ) (look : State) : Type 0 where
  pub sees : (z : Stored) → WasFor z s → Sees (rows z) file look
  pub tabled : IsTabled s.tables.now

-- of each store this was shown
pub record ShowsOver (Shown : Stored → Type 0) (s : StoreState) (e : Ending) : Type 0 where
  pub shown : (z : Stored) → WasFor z s → Shown z
  pub says : SaysSo s.tables.now e

-- only in version 3 contents lie beside the tables
abbrev pub is_third : Layout → Bool
is_third Second = false
is_third Third = true

-- the ending of a look with this fault
abbrev pub showing_ending : Option StoreFault → Ending
showing_ending None = ending.Damaged
showing_ending (Some f) = store_ending f

-- the ending of what was shown, and of a look that failed
abbrev pub shown_ending : Ending → Result (Unit {0}) ShowFault → Ending
shown_ending failed (Ok _) = ending.Done
shown_ending failed (Err (Look f)) = failed
shown_ending failed (Err NotATree) = ending.Damaged
shown_ending failed (Err NoSuchPath) = ending.NoSuchPath
shown_ending failed (Err NotDirectory) = ending.NotDirectory
shown_ending failed (Err NotFile) = ending.NotFile
shown_ending failed (Err Output) = ending.PortFailed

-- a store whose contents lie in its tables, so that it is the same over any data file
abbrev pub WasInside : Stored → State → Type 0
WasInside z s = IsTrue s.is_open × (s.in_transaction ≡ false) × ((file : List ℕ) → LeftAs (StoredFor file z) s.committed.trees)

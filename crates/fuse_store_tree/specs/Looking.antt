-- Reads of the tables by `plan` (defined by this project).
use Rattle.std.specs.Prelude.{◌≡◌, IsTrue, ℕ, List, Option, Some, None, IfSome}
use Rattle.sqlite.specs.State.{State, HasCleanDisk}
use Rattle.fuse_keeper.specs.declared.fault.StoreFault.{StoreFault}
use Rattle.fuse_keeper.specs.declared.fault.StoreFault.TheVariants.{Memory as OutOfMemory}
use Rattle.fuse_tree.specs.declared.look.LookFault.{LookFault}
use Rattle.fuse_tree.specs.declared.look.LookFault.TheVariants.{Memory, Failed}
use Rattle.fuse_rows.specs.Rows.{Rows}
use Rattle.fuse_store_tables.specs.Faults.{IsOutside, IsPlain}
use Rattle.fuse_store_tables.specs.Moves.{InsideAs, IsReady, LookedInside, Stays}
use Rattle.fuse_store_tree.specs.declared.look.LastNode.{LastNode}
use Rattle.fuse_store_tree.specs.declared.meta.Meta.{Meta}
use Rattle.fuse_store_tree.specs.Pieces.{ReadsFile}
use Rattle.fuse_store_tree.specs.Store.{Store, Held}
use Rattle.fuse_store_tree.specs.Holding.{HeldFor}
use Rattle.fuse_store_tree.specs.Knowing.{KnownTables, Knows, Recalls}

-- the fault of a read, as `plan` gets it
abbrev pub told_as : StoreFault → LookFault
told_as OutOfMemory = Memory
told_as _ = Failed

abbrev pub as_look_fault : Option StoreFault → Option LookFault
as_look_fault None = None
as_look_fault (Some f) = Some (told_as f)

-- a transaction is open, and its tables hold these rows over this data file
abbrev pub sees_in : List ℕ → State → Rows → Type 0
sees_in file s rows = (x : Store) × InsideAs (Held file x) s × (x.rows ≡ rows)

-- and what is known is right of them
abbrev pub sees_known : List ℕ → Option Meta → State → Rows → Type 0
sees_known file known s rows = sees_in file s rows × Knows known rows

-- and what the last look for a node found is in them
abbrev pub sees_with : List ℕ → Option Meta → Option LastNode → State → Rows → Type 0
sees_with file known last s rows = sees_known file known s rows × Recalls last rows

-- only reads that succeeded lie between the two, the fault is as it was, and what is known stays right
pub record WentWell (old new : KnownTables) (was is : Option StoreFault) (first last : Option LastNode) : Type 0 where
  pub looked : LookedInside old.tables new.tables
  pub file : ReadsFile old.file new.file
  pub same : is ≡ was
  pub knows : HasCleanDisk new.tables → (file : List ℕ) (rows : Rows) → sees_in file old.tables rows → Knows old.known rows → Knows new.known rows
  pub recalls : HasCleanDisk new.tables → (file : List ℕ) (rows : Rows) → sees_in file old.tables rows → Recalls first rows → Recalls last rows

-- only reads lie between the two, and the last may have failed; its fault is plain, and outside where a tree was held and nothing was misread
pub record MayFail (old new : KnownTables) (was is : Option StoreFault) : Type 0 where
  pub stays : Stays old.tables new.tables
  pub file : ReadsFile old.file new.file
  pub plain : was ≡ None → IfSome is IsPlain
  pub sure : was ≡ None → HasCleanDisk new.tables → IsTrue new.file.is_clean → IsReady (HeldFor new.file.bytes) old.tables → IfSome is IsOutside

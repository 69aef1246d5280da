-- What is left of files whose store was not opened stands for what they stood for.
use Rattle.std.proofs.Common.{◌≡◌, ◌⊎◌, ℕ, List, inl, inr, sym, subst}
use Rattle.std.specs.Prelude.{Option, Some, None, IfSome}
use Rattle.sqlite_disk.specs.declared.Disk.{Ghosts}
use Rattle.sqlite_trees.specs.Tree.{Trees}
use Rattle.sqlite.specs.declared.file.Leftover.{Leftover}
use Rattle.sqlite.specs.declared.file.Leftover.TheVariants as leftover
use Rattle.fuse_keeper.specs.Stands.{Standing, StandsAt}
use Rattle.fuse_init.specs.declared.profile.Profile.{Profile}
use Rattle.fuse_tree.specs.TheTree.{tree_of}
use Rattle.fuse_store.specs.Opening.{opened_for}
use Rattle.fuse_store.specs.Opening.Stored.{Second}
use Rattle.fuse_store_files.specs.declared.files.Opening.TheVariants.{Existing}
use Rattle.fuse_store_files.specs.declared.left.StoreLeft.{StoreLeft}
use Rattle.fuse_store_files.specs.Files.{StoreImage, FilesStand, FilesHold, HoldSome, TreesTell, AreFound}
use Rattle.fuse_store_files.specs.Left.{LeavesOpening, LeavesTables, IsOpenedFrom}
use Rattle.fuse_files.specs.StoreLives.{TablesMayLeaveUnopened, MayBeLeftUnopened}

module _ (p : Profile) (first : StoreImage) (at : Standing (tree_of p)) (stand : FilesStand p first at) where
  -- what was found stands so, and so does what the opening makes of it
  abbrev Tells : List ℕ → Trees → Type 0
  Tells = TreesTell (λ x r. StandsAt (tree_of p) (record { rows = x; records = r }) at)

  held : FilesHold first stand.so.store
  held = record { trees = stand.trees; held = stand.held; so = stand.so.left }

  told : (file : List ℕ) (db : Trees) → AreFound first file db ⊎ IsOpenedFrom first file db → Tells file db
  told file db (inl found) = record { store = stand.so.store; left = found.contents stand.so.store held; so = stand.so.so }
  told file db (inr made) = record { store = Second (opened_for stand.so.store); left = made stand.so.store held; so = stand.so.so }

  -- nothing was opened, and all files are as they were
  as_before : (it : StoreImage) → it.tables ≡ first.tables → it.contents ≡ first.contents → FilesStand p it at
  as_before it tables contents = subst (HoldSome (Tells it.contents)) (sym tables) (subst (λ f. HoldSome (Tells f) first.tables) (sym contents) stand)

  tables_stand : {D : Type 0} {g : Ghosts D} (left : Leftover D g) (it : StoreImage)
      → LeavesTables (λ f x db. AreFound f x db ⊎ IsOpenedFrom f x db) first it.contents left → TablesMayLeaveUnopened first.tables left it.tables
      → FilesStand p it at
  tables_stand (leftover.Files files) it found may = as_before it (found.0.alone it.tables (found.0.kept may.0 it.tables may.1)) found.1
  tables_stand (leftover.Unopened pager) it found may = absurd may
  tables_stand (leftover.Store store) it found may =
      let hold = found.holds may.0 (record { trees = stand.trees; held = stand.held; so = tt }) it.tables may.1 in
      record { trees = hold.trees; held = hold.held; so = told it.contents hold.trees hold.so }

  pub still_stands : {D E : Type 0} {g : Ghosts D} (h : Ghosts E) (number : ℕ) (left : Option (StoreLeft D E g)) (it : StoreImage) → IfSome left (LeavesOpening h (Existing number) first)
      → MayBeLeftUnopened h first left it → FilesStand p it at
  still_stands h number None it found may = subst (λ (i : StoreImage). FilesStand p i at) (sym may) stand
  still_stands h number (Some left) it found may = tables_stand left.tables it (found it.contents may.1) may.0

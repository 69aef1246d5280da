-- The data file that the opening of an everyday store of version 2 makes before its commit (defined by this project).
use Rattle.std.specs.Prelude.{◌≡◌, ℕ, IsTrue, Option, Some, None}
use Rattle.sqlite_disk.specs.Disk.{Only}
use Rattle.sqlite_disk.specs.declared.Disk.{Ghosts as DiskGhosts}
use Rattle.fuse_data.specs.State.{state_of}
use Rattle.fuse_data.specs.declared.data_file.DataFile.{DataFile}
use Rattle.fuse_store.specs.declared.third_data.ThirdData.{ThirdData}
use Rattle.fuse_store_tree.specs.Store.{HasNumber}
use Rattle.fuse_store.specs.TableKeeper.{disk_in}
use Rattle.fuse_store.specs.inner.Opened.{FollowsAny}

-- that of the data file, where it was made
abbrev pub disk_or : {D : Type 0} → Option (DataFile D) → Option D → Option D
disk_or (Some file) disk = Some file.disk
disk_or None disk = disk

abbrev pub left_disk : {D : Type 0} → ThirdData D → Option D
left_disk x = disk_or x.file x.disk

-- this data file was made on this disk: it has the header of this store, and was synced
pub record IsMadeOn {D : Type 0} (h : DiskGhosts D) (number : ℕ) (disk : Option D) (file : DataFile D) : Type 0 where
  pub header : HasNumber number (state_of h file).seen
  pub synced : Only (state_of h file).seen (state_of h file).may_leave
  pub usable : IsTrue (state_of h file).is_usable
  pub clean : IsTrue (state_of h file).is_clean → IsTrue (disk_in h disk).is_clean
  pub follows : FollowsAny (disk_in h disk).may_leave (state_of h file).may_leave

abbrev pub MakesThird : {D : Type 0} → DiskGhosts D → ThirdData D → ThirdData D → Type 0
MakesThird {D} h old new = (file : DataFile D) × (new.file ≡ Some file) × IsMadeOn h old.number.value old.disk file

-- it could not be made, and there was a disk before
pub record LeavesThird {D : Type 0} (h : DiskGhosts D) (old new : ThirdData D) : Type 0 where
  pub file : new.file ≡ old.file
  pub clean : IsTrue (disk_in h new.disk).is_clean → IsTrue (disk_in h old.disk).is_clean
  pub follows : FollowsAny (disk_in h old.disk).may_leave (disk_in h new.disk).may_leave

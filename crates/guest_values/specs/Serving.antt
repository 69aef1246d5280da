-- The data file of a guest's store with what a transaction put and took away, and when it serves the lists of pieces that the tables have
-- (defined by this project).
use Rattle.std.specs.Prelude.{◌≡◌, ◌⊎◌, List, []}
use Rattle.std.specs.List.{All, AllPairs, Contains}
use Rattle.sqlite_disk.specs.declared.Disk.{Ghosts}
use Rattle.fuse_data.specs.declared.extent.Extent.{Extent}
use Rattle.fuse_data.specs.Extents.{AreDisjoint, IsPlaced, IsWhole}
use Rattle.fuse_data.specs.Leaving.{AreSafe}
use Rattle.fuse_data.specs.Space.{AllInUse}
use Rattle.fuse_data.specs.State.{DataState, state_of}
use Rattle.guest_values.specs.declared.value_file.ValueFile.{ValueFile}
use Rattle.guest_values.specs.Space.{ShareNoBlock}

pub record ValuesState : Type 1 where
  pub contents : DataState
  -- the pieces that were written since the last commit
  pub put : List Extent
  -- the pieces that the tables have listed since the last commit, and list no more
  pub gone : List Extent

abbrev pub values_of : {D : Type 0} → Ghosts D → ValueFile D → ValuesState
values_of g f = record { contents = state_of g f.file; put = f.put.items; gone = f.gone.items }

-- pieces that may be listed: each is whole, no block of them is free, and no two share one
pub record AreListed (ps : List Extent) (s : DataState) : Type 0 where
  pub whole : All (IsWhole s.seen) ps
  pub used : AllInUse s.gaps ps
  pub apart : AllPairs AreDisjoint ps

-- pieces that may be given back: they can be in a data file, and no block of them is free
pub record AreHeld (ps : List Extent) (s : DataState) : Type 0 where
  pub placed : All IsPlaced ps
  pub used : AllInUse s.gaps ps

-- the tables list the one list since the last commit, and the other one now
pub record ServesPieces (committed now : List Extent) (s : ValuesState) : Type 0 where
  pub last : AreListed committed s.contents
  pub current : AreListed now s.contents
  -- whatever a crash leaves has what the last commit lists
  pub safe : AreSafe committed s.contents.may_leave
  pub known : (p : Extent) → Contains now p → Contains committed p ⊎ Contains s.put p
  pub put : AreHeld s.put s.contents
  pub put_apart : ShareNoBlock s.put committed
  pub gone : AreHeld s.gone s.contents
  pub gone_apart : ShareNoBlock s.gone now

-- the same where no transaction is open
pub record RestsOn (listed : List Extent) (s : ValuesState) : Type 0 where
  pub lists : AreListed listed s.contents
  pub safe : AreSafe listed s.contents.may_leave
  pub put : s.put ≡ []
  pub gone : s.gone ≡ []

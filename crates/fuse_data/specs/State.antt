-- The state of a data file, by its disk and its free space (defined by this project).
use Rattle.std.specs.Prelude.{◌≡◌, ℕ, Bool, true, List, [], Option, Some, None}
use Rattle.sqlite_disk.specs.declared.Disk.{Ghosts}
use Rattle.fuse_data.specs.declared.gaps.Gap.{Gap}
use Rattle.fuse_data.specs.declared.data_file.DataFile.{DataFile}

pub record DataState : Type 1 where
  -- what a read returns
  pub seen : List ℕ
  -- what a crash at this moment may leave
  pub may_leave : List ℕ → Type 0
  -- so far the disk has returned what was written; it may fall at any read
  pub is_clean : Bool
  -- no sync has failed
  pub is_usable : Bool
  -- the free blocks, as gaps in order
  pub gaps : List Gap

abbrev pub state_of : {D : Type 0} → Ghosts D → DataFile D → DataState
state_of g file = record {
  seen = g.seen file.disk;
  may_leave = g.may_leave file.disk;
  is_clean = g.is_clean file.disk;
  is_usable = g.is_usable file.disk;
  gaps = file.space;
}

-- a store that has no data file has an empty one, of which a crash leaves nothing else
abbrev pub state_in : {D : Type 0} → Ghosts D → Option (DataFile D) → DataState
state_in g (Some file) = state_of g file
state_in g None = record { seen = []; may_leave = λ c. c ≡ []; is_clean = true; is_usable = true; gaps = [] }

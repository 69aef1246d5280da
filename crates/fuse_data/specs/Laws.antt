-- Laws of extents, of lists of them and of the space that they leave (defined by this project).
use Rattle.std.specs.Prelude.{◌≡◌, ℕ, ◌-◌, ◌*◌, ◌≤◌, List, ◌∷◌, length, take, drop}
use Rattle.std.specs.List.{All, AllPairs, Contains}
use Rattle.sqlite_disk.specs.Disk.{Follows, Only}
use Rattle.sqlite_disk.specs.declared.Disk.{Ghosts}
use Rattle.fuse_data.specs.declared.extent.Extent.{Extent}
use Rattle.fuse_data.specs.declared.extent.TheConstants.{BLOCK}
use Rattle.fuse_data.specs.declared.gaps.Gap.{Gap}
use Rattle.fuse_data.specs.declared.data_file.DataFile.{DataFile}
use Rattle.fuse_data.specs.Extents.{past, bytes_of, sum_of, IsPlaced, AreDisjoint, IsWhole, AreByPlace}
use Rattle.fuse_data.specs.Space.{InUse, AllInUse, TakesOut, PutsIn, IsSpaceOf}
use Rattle.fuse_data.specs.Leaving.{KeepsInUse, KeepsListed, AreSafe}
use Rattle.fuse_data.specs.State.{state_of}

-- it has some of the blocks of `p`, and no other
pub record IsPartOf (p part : Extent) : Type 0 where
  pub begins : p.place ≤ part.place
  pub some : 1 ≤ part.count
  pub ends : past part ≤ past p

-- what holds of an extent holds of a part
pub record PartsHold : Type 0 where
  pub placed : (p part : Extent) → IsPartOf p part → IsPlaced p → IsPlaced part
  pub in_use : (gaps : List Gap) (p part : Extent) → IsPartOf p part → InUse gaps p → InUse gaps part
  pub disjoint : (p q part : Extent) → IsPartOf p part → AreDisjoint p q → AreDisjoint part q
  pub bytes : (file : List ℕ) (p part : Extent) → IsPartOf p part
      → bytes_of file part ≡ take (part.count * BLOCK) (drop ((part.place - p.place) * BLOCK) (bytes_of file p))
  pub whole : (file : List ℕ) (p part : Extent) → IsPartOf p part → IsWhole file p → sum_of (bytes_of file part) ≡ part.sum → IsWhole file part

-- how many bytes an extent has
abbrev pub BytesAreBlocks : Type 0
BytesAreBlocks = (file : List ℕ) (p : Extent) → past p * BLOCK ≤ length file → length (bytes_of file p) ≡ p.count * BLOCK

-- no two extents of a list by place share a block
abbrev pub ByPlaceIsApart : Type 0
ByPlaceIsApart = (listed : List Extent) → AreByPlace 1 listed → All IsPlaced listed × AllPairs AreDisjoint listed

-- the space of a list, as extents come and go
pub record SpacesFollow : Type 0 where
  pub in_use : (listed : List Extent) (gaps : List Gap) → IsSpaceOf listed gaps → AllInUse gaps listed
  -- whatever the order
  pub members : (listed others : List Extent) (gaps : List Gap) → ((p : Extent) → Contains listed p → Contains others p)
      → ((p : Extent) → Contains others p → Contains listed p) → IsSpaceOf listed gaps → IsSpaceOf others gaps
  pub taken : (listed : List Extent) (p : Extent) (old new : List Gap) → IsSpaceOf listed old → TakesOut p old new → IsSpaceOf (p ∷ listed) new
  pub given : (listed : List Extent) (p : Extent) (old new : List Gap) → IsSpaceOf (p ∷ listed) old → IsPlaced p → All (AreDisjoint p) listed → PutsIn p old new
      → IsSpaceOf listed new

-- what `write`, `sync` and `cut` say of all extents in use, of a list of them, over two states of a data file
pub record ListsStay {D : Type 0} (g : Ghosts D) : Type 0 where
  pub seen : (listed : List Extent) (gaps : List Gap) (old new : List ℕ) → KeepsInUse gaps old new → AllInUse gaps listed → KeepsListed listed old new
  -- a write or a cut
  pub crash : (listed : List Extent) (gaps : List Gap) (old new : DataFile D) → Follows (KeepsInUse gaps) (state_of g old).may_leave (state_of g new).may_leave
      → AllInUse gaps listed → Follows (KeepsListed listed) (state_of g old).may_leave (state_of g new).may_leave
  pub safe : (listed : List Extent) (gaps : List Gap) (old new : DataFile D) → Follows (KeepsInUse gaps) (state_of g old).may_leave (state_of g new).may_leave
      → AllInUse gaps listed → AreSafe listed (state_of g old).may_leave → AreSafe listed (state_of g new).may_leave
  -- a sync, before the commit of what lists them
  pub synced : (listed : List Extent) (old new : DataFile D) → Only (state_of g old).seen (state_of g new).may_leave
      → All (IsWhole (state_of g old).seen) listed → AreSafe listed (state_of g new).may_leave

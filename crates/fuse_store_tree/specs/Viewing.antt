-- What the tables may list of a data file (defined by this project): neither free blocks, nor those that a transaction was prepared with and
-- hasn't listed yet.
use Rattle.std.specs.Prelude.{◌+◌, ◌/◌, ◌&&◌, ◌||◌, ℕ, suc, Bool, not, nat_le, nat_lt, if◌then◌else◌, List, [], ◌∷◌}
use Rattle.std.specs.List.{list_any}
use Rattle.fuse_rows.specs.Bounds.{block_bytes}
use Rattle.fuse_data.specs.declared.extent.Extent.{Extent}
use Rattle.fuse_data.specs.declared.gaps.Gap.{Gap}
use Rattle.fuse_data.specs.Extents.{past}
use Rattle.sqlite_disk.specs.declared.Disk.{Ghosts}
use Rattle.fuse_data.specs.State.{DataState, state_in}
use Rattle.fuse_store_tree.specs.declared.store_data.Data.{Data}
use Rattle.fuse_store_tree.specs.declared.store_data.Written.{Written}
use Rattle.fuse_store_tree.specs.Pieces.{File}

abbrev pub is_in_gap : ℕ → Gap → Bool
is_in_gap b g = nat_le g.from b && nat_lt b g.to

abbrev pub is_block_of : Extent → ℕ → Bool
is_block_of e b = nat_le e.place b && nat_lt b (past e)

-- no row lists it yet
abbrev pub is_unlisted_at : ℕ → Written → Bool
is_unlisted_at b w = not w.listed && is_block_of w.extent b

-- block 0, which has the header, is never hidden
abbrev pub is_hidden : List Gap → List Written → ℕ → Bool
is_hidden gaps written b = nat_lt 0 b && (list_any (is_in_gap b) gaps || list_any (is_unlisted_at b) written)

-- from this place on: 256, which is no byte, where the block is hidden
abbrev pub shown_from : (ℕ → Bool) → ℕ → List ℕ → List ℕ
shown_from hides i [] = []
shown_from hides i (x ∷ xs) = (if hides (i / block_bytes) then 256 else x) ∷ shown_from hides (suc i) xs

abbrev pub shown : List Gap → List Written → List ℕ → List ℕ
shown gaps written file = shown_from (is_hidden gaps written) 0 file

-- the data file, as the tables may list it
abbrev pub view_of : DataState → List Written → File
view_of s written = record { bytes = shown s.gaps written s.seen; is_clean = s.is_clean; contents = s }

abbrev pub view_in : {D : Type 0} → Ghosts D → Data D → File
view_in g k = view_of (state_in g k.file) k.written.items

-- The summary of a store (defined by this project).
use Rattle.std.specs.Prelude.{◌*◌, ℕ, List, [], ◌∷◌, ◌++◌, codes, Option, Some, None}
use Rattle.fuse_init.specs.declared.settings.Settings.{Settings}
use Rattle.fuse_keeper.specs.declared.keeper.StoreCounts.{StoreCounts}
use Rattle.fuse_rows.specs.declared.rows.Room.{Room}
use Rattle.fuse_rows.specs.Bounds.{block_bytes}
use Rattle.fuse_show.specs.Fields.{fields_text}

-- the settings that INIT agreed on
abbrev pub settings_text : Option Settings → List ℕ
settings_text None = codes "settings: none\n"
settings_text (Some s) =
    fields_text ((codes "settings: minor=", s.minor) ∷ (codes " max_readahead=", s.max_readahead) ∷ (codes " flags=", s.flags.0) ∷ []) ++ codes "\n"

-- the bytes of so many blocks
abbrev pub size_of_blocks : ℕ → ℕ
size_of_blocks blocks = blocks * block_bytes

-- the lines of the profile, of the bytes that the store has room for, and of those in use; none of a plain store
abbrev pub room_text : Option Room → List ℕ
room_text None = []
room_text (Some r) = fields_text ((codes "profile=everyday\ncapacity=", size_of_blocks r.capacity) ∷ (codes "\nused=", size_of_blocks r.used) ∷ []) ++ codes "\n"

-- a line for the version, for each count, and for the bytes of all contents
abbrev pub counts_text : ℕ → StoreCounts → ℕ → List ℕ
counts_text version c bytes =
    fields_text ((codes "version=", version) ∷ (codes "\nnodes=", c.nodes) ∷ (codes "\nhandles=", c.handles) ∷ (codes "\nrecords=", c.records)
    ∷ (codes "\nlots=", c.lots) ∷ (codes "\nbytes=", bytes) ∷ [])
    ++ codes "\n"

-- these lines, and those of the room and of the settings
abbrev pub store_text : ℕ → StoreCounts → ℕ → Option Room → Option Settings → List ℕ
store_text version c bytes room agreed = counts_text version c bytes ++ (room_text room ++ settings_text agreed)

abbrev pub count_of : ℕ → ℕ → ℕ → ℕ → StoreCounts
count_of nodes handles records lots = record { nodes = nodes; handles = handles; records = records; lots = lots }

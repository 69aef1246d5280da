-- The handles of a node (defined by this project). A state and its rows have the same handles, so these words are of both.
use Rattle.std.specs.Prelude.{◌==◌, ℕ, Bool, if◌then◌else◌, List, Option, Some, None, is_some}
use Rattle.fuse_wire.specs.declared.access_mode.AccessMode.{AccessMode}
use Rattle.fuse_rows.specs.declared.rows.HandleRow.{HandleRow}
use Rattle.fuse_rows.specs.Rows.{handle_at}

abbrev pub access_in : ℕ → Option HandleRow → Option AccessMode
access_in node None = None
access_in node (Some h) = if h.node == node then Some h.access else None

-- the access of fh at this node: none where it isn't open, or is of another node
abbrev pub access_at : List HandleRow → ℕ → ℕ → Option AccessMode
access_at handles fh node = access_in node (handle_at handles fh)

-- fh is open at this node
abbrev pub is_open : List HandleRow → ℕ → ℕ → Bool
is_open handles fh node = is_some (access_at handles fh node)

-- WRITE and READ (defined by this project).
use Rattle.std.specs.Prelude.{◌+◌, ◌==◌, ℕ, Bool, true, false, not, nat_lt, if◌then◌else◌, List, [], ◌∷◌, length, take, drop, Option, Some, None}
use Rattle.fuse_wire.specs.declared.access_mode.AccessMode.{AccessMode}
use Rattle.fuse_wire.specs.declared.access_mode.AccessMode.TheVariants.{ReadOnly, WriteOnly, ReadWrite}
use Rattle.fuse_wire.specs.Errnos.{ebadf, eisdir, einval, efbig, enospc}
use Rattle.fuse_wire.specs.declared.moment.Moment.{Moment}
use Rattle.fuse_request.specs.declared.request.ReadIn.{ReadIn}
use Rattle.fuse_answer.specs.Bodies.{write_bytes}
use Rattle.std.specs.Option.{option_map}
use Rattle.fuse_rows.specs.Bounds.{read_limit}
use Rattle.fuse_rows.specs.Blocks.{with_touched, listed_blocks}
use Rattle.fuse_tree.specs.Checks.{Check, Where}
use Rattle.fuse_tree.specs.State.{State, Node, terms_of, is_dir}
use Rattle.fuse_tree.specs.Space.{room_of, has_room, newly_written}
use Rattle.fuse_rows.specs.Rows.{written}
use Rattle.fuse_tree.specs.Handles.{access_at}
use Rattle.fuse_tree.specs.Done.{Done, refuse, refuse_by, answer}
use Rattle.fuse_tree.specs.Changing.{with_changed}

-- ---- WRITE

-- it is open, and not only for reading
abbrev pub may_write : Option AccessMode → Bool
may_write None = false
may_write (Some ReadOnly) = false
may_write (Some WriteOnly) = true
may_write (Some ReadWrite) = true

-- the request: these bytes, from this offset on, at this moment
pub record Writing : Type 0 where
  pub offset : ℕ
  pub payload : List ℕ
  pub now : Moment

-- the blocks that the bytes touch are written, where they are counted
abbrev pub wrote : ℕ → List ℕ → Moment → Node → Node
wrote offset payload now n = record n {
  content = written offset payload n.content;
  blocks = option_map (with_touched offset (length payload)) n.blocks;
  mtime = now;
  ctime = now;
}

-- the state in which the payload stands in this node
abbrev pub with_bytes : State → ℕ → List ℕ → Moment → ℕ → State
with_bytes s offset payload now number = with_changed number (wrote offset payload now) s

-- how many bytes were written
abbrev pub count_body : ℕ → List ℕ
count_body size = write_bytes (record { size = size })

-- a WRITE of no byte changes nothing
abbrev pub write : State → ℕ → Writing → Node → Done
write s fh w n =
    if not (may_write (access_at s.handles fh n.number)) then refuse s ebadf
    else if length w.payload == 0 then answer s (count_body 0)
    else if nat_lt (terms_of s).file_limit (w.offset + length w.payload) then refuse s efbig
    else if not (has_room (room_of s) (newly_written w.offset (length w.payload) (listed_blocks n.blocks))) then refuse s enospc
    else answer (with_bytes s w.offset w.payload w.now n.number) (count_body (length w.payload))

-- ---- READ

-- it is open, and not only for writing
abbrev pub may_read : Option AccessMode → Bool
may_read None = false
may_read (Some ReadOnly) = true
may_read (Some WriteOnly) = false
may_read (Some ReadWrite) = true

abbrev pub read_checks : State → ReadIn → Node → List Check
read_checks s asked n =
    Where ebadf (not (may_read (access_at s.handles asked.fh n.number))) ∷ Where eisdir (is_dir n.mode) ∷ Where einval (nat_lt read_limit asked.size) ∷ []

-- the content from the offset on, at most so many bytes: none from the end on
abbrev pub read : State → ReadIn → Node → Done
read s asked n = refuse_by s (read_checks s asked n) (answer s (take asked.size (drop asked.offset n.content)))

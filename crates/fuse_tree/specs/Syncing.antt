-- FSYNC and FSYNCDIR (defined by this project; fsync(2)): a handle that is open at the node. Each change before it is part of the state already.
use Rattle.std.specs.Prelude.{ℕ, not, if◌then◌else◌, []}
use Rattle.fuse_wire.specs.Errnos.{ebadf}
use Rattle.fuse_tree.specs.State.{State, Node}
use Rattle.fuse_tree.specs.Handles.{is_open}
use Rattle.fuse_tree.specs.Done.{Done, refuse, answer}

abbrev pub fsync : State → ℕ → Node → Done
fsync s fh n = if not (is_open s.handles fh n.number) then refuse s ebadf else answer s []

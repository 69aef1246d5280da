-- READLINK (defined by this project; readlink(2)): the target of a symbolic link.
use Rattle.std.specs.Prelude.{not, if◌then◌else◌, take}
use Rattle.fuse_wire.specs.Errnos.{einval}
use Rattle.fuse_rows.specs.Bounds.{target_limit}
use Rattle.fuse_tree.specs.State.{State, Node, is_link}
use Rattle.fuse_tree.specs.Done.{Done, refuse, answer}

-- the target, which has at most so many bytes
abbrev pub readlink : State → Node → Done
readlink s n = if not (is_link n.mode) then refuse s einval else answer s (take target_limit n.content)

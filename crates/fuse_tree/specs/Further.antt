-- The operations of a profile beside those of the protocol's (defined by this project).
use Rattle.std.specs.Prelude.{ℕ, not, if◌then◌else◌, List, Option, Some, is_some}
use Rattle.fuse_wire.specs.Errnos.{enosys, einval}
use Rattle.fuse_request.specs.FurtherBodies.{FurtherContent, Readlink, Statfs, Fsync, FsyncDir, Symlink, Create, ReadDirPlus, further_fault, further_content_at}
use Rattle.fuse_rows.specs.declared.origin.Origin.{Origin}
use Rattle.fuse_tree.specs.State.{State, Node, terms_of}
use Rattle.fuse_tree.specs.Done.{Done, refuse}
use Rattle.fuse_tree.specs.Linking.{readlink}
use Rattle.fuse_tree.specs.Making.{asked_node}
use Rattle.fuse_tree.specs.Symlinking.{symlink}
use Rattle.fuse_tree.specs.Creating.{create}
use Rattle.fuse_tree.specs.PlusListing.{read_dir_plus}
use Rattle.fuse_tree.specs.Statfs.{statfs}
use Rattle.fuse_tree.specs.Syncing.{fsync}

-- the operation, at the node of the header; the last line is of opcodes that aren't performed
abbrev pub do_further : State → Origin → Option FurtherContent → Node → Done
do_further s from (Some Readlink) n = readlink s n
do_further s from (Some Statfs) n = statfs s
do_further s from (Some (Fsync fh fsync_flags)) n = fsync s fh n
do_further s from (Some (FsyncDir fh fsync_flags)) n = fsync s fh n
do_further s from (Some (Symlink name target)) n = symlink s from target name n
do_further s from (Some (Create flags mode umask open_flags name)) n = create s (asked_node from mode 0) flags name n
do_further s from (Some (ReadDirPlus x)) n = read_dir_plus s x n
do_further s from _ n = refuse s enosys

-- an opcode of the profile is performed, where its body is spelled
abbrev pub further : State → Origin → ℕ → List ℕ → Node → Done
further s from opcode body n =
    if not ((terms_of s).further opcode) then refuse s enosys
    else if is_some (further_fault opcode body) then refuse s einval
    else do_further s from (further_content_at opcode body) n

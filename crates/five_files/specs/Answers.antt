-- The forms of answers (defined by this project).
use Rattle.std.specs.Prelude.{ℕ, List, [], Option, Some, None, pos}
use Rattle.fuse_wire.specs.declared.errno.Errno.{Errno}
use Rattle.fuse_answer.specs.Said.{Said}
use Rattle.fuse_answer.specs.Bodies.{entry_bytes, attr_out_bytes, open_bytes}
use Rattle.fuse_answer.specs.FurtherAnswers.{statfs_bytes}
use Rattle.fuse_answer.specs.declared.further.StatfsOut.{StatfsOut}
use Rattle.fuse_answer.specs.declared.records.AttrOut.{AttrOut}
use Rattle.fuse_answer.specs.declared.records.EntryOut.{EntryOut}
use Rattle.fuse_answer.specs.declared.records.OpenOut.{OpenOut}
use Rattle.five_files.specs.declared.node.Node.{Node}
use Rattle.five_files.specs.Nodes.{number_of, attr_of}

-- Linux's generic number: the file system can't be written
abbrev pub erofs : Errno
erofs = record { 0 = 30 }

abbrev pub refuse : Errno → Said
refuse errno = record { errno = errno.0; body = [] }

abbrev pub give : List ℕ → Said
give body = record { errno = 0; body = body }

-- a refusal where there is a fault
abbrev pub refuse_for : Option Errno → Said → Said
refuse_for (Some errno) said = refuse errno
refuse_for None said = said

-- an entry and attributes are valid for a second
abbrev pub entry_out : Node → EntryOut
entry_out n = record { nodeid = number_of n; generation = 0; entry_valid = 1; attr_valid = 1; entry_valid_nsec = 0; attr_valid_nsec = 0; attr = attr_of n }

abbrev pub attr_out : Node → AttrOut
attr_out n = record { attr_valid = 1; attr_valid_nsec = 0; attr = attr_of n }

-- the fh of an open node is its number: nothing of open nodes is kept
abbrev pub open_out : Node → OpenOut
open_out n = record { fh = number_of n; open_flags = 0; backing_id = pos 0 }

abbrev pub give_entry : Node → Said
give_entry n = give (entry_bytes (entry_out n))

abbrev pub give_attr : Node → Said
give_attr n = give (attr_out_bytes (attr_out n))

abbrev pub give_open : Node → Said
give_open n = give (open_bytes (open_out n))

-- of the whole file system: a unit of 512 bytes for each node that has a content, and five nodes; nothing is free
abbrev pub statfs_out : StatfsOut
statfs_out = record { blocks = 4; bfree = 0; bavail = 0; files = 5; ffree = 0; bsize = 4096; namelen = 255; frsize = 512 }

abbrev pub give_statfs : Said
give_statfs = give (statfs_bytes statfs_out)

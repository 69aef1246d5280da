-- How many bytes of its answer a request asks for (fuse.h: size of fuse_read_in and of fuse_getxattr_in).
use Rattle.std.specs.Prelude.{ℕ, if◌then◌else◌, List, is_some}
use Rattle.std.specs.Option.{option_map_or}
use Rattle.fuse_request.specs.Act.{Act, Read, ReadDir, Further}
use Rattle.fuse_request.specs.FurtherBodies.{FurtherContent, Getxattr, Listxattr, ReadDirPlus, further_fault, further_content_at}

-- of what a body of a further opcode says
abbrev pub size_said : FurtherContent → ℕ
size_said (Getxattr size name) = size
size_said (Listxattr size) = size
size_said (ReadDirPlus x) = x.size
size_said _ = 0

-- none where the body isn't spelled
abbrev pub further_size : ℕ → List ℕ → ℕ
further_size opcode b = if is_some (further_fault opcode b) then 0 else option_map_or size_said (further_content_at opcode b) 0

-- none of a request without such a field
abbrev pub size_asked : Act → ℕ
size_asked (Read x) = x.size
size_asked (ReadDir x) = x.size
size_asked (Further opcode b) = further_size opcode b
size_asked _ = 0

-- The new store that is asked for: its blocks, by its profile and the bytes that it shall have room for, and its owner
-- (defined by this project).
use Rattle.std.specs.Prelude.{◌/◌, ◌%◌, ◌==◌, ◌&&◌, nat_lt, if◌then◌else◌, ℕ, Option, Some, None}
use Rattle.fuse_init.specs.declared.profile.Profile.{Profile}
use Rattle.fuse_init.specs.declared.profile.Profile.TheVariants.{Plain, Everyday}
use Rattle.fuse_rows.specs.Bounds.{block_bytes, capacity_end, default_capacity}
use Rattle.fuse_rows.specs.Origins.{superuser}
use Rattle.fuse_rows.specs.declared.origin.Owner.{Owner}
use Rattle.fuse_commands.specs.declared.asked_store.AskedOwner.{AskedOwner}

-- so many bytes, if they are whole blocks and not too many
abbrev pub whole_blocks : ℕ → Option ℕ
whole_blocks bytes =
    if bytes % block_bytes == 0 && nat_lt (bytes / block_bytes) capacity_end then Some (bytes / block_bytes) else None

-- a plain store has no capacity; an everyday one has the default where none is given
abbrev pub blocks_asked : Profile → Option ℕ → Option ℕ
blocks_asked Plain None = Some 0
blocks_asked Plain (Some bytes) = None
blocks_asked Everyday None = Some default_capacity
blocks_asked Everyday (Some bytes) = whole_blocks bytes

-- the superuser where none is named
abbrev pub owner_asked : Option AskedOwner → Owner
owner_asked None = superuser
owner_asked (Some named) = record { uid = named.uid; gid = named.gid }

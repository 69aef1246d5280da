-- The answer to each request, and the settings after it (defined by this project): the first check that applies decides.
-- A moment does not matter.
use Rattle.std.specs.Prelude.{◌==◌, ◌||◌, ℕ, Bool, true, false, not, nat_eq, nat_lt, if◌then◌else◌, List, [], length, take, drop}
use Rattle.std.specs.Prelude.{Option, Some, None, is_some, codes}
use Rattle.std.specs.List.{list_any}
use Rattle.std.specs.Cmp.Lexicographic.{pointwise}
use Rattle.fuse_wire.specs.declared.access_mode.AccessMode.{AccessMode}
use Rattle.fuse_wire.specs.declared.access_mode.AccessMode.TheVariants.{ReadOnly, WriteOnly, ReadWrite}
use Rattle.fuse_wire.specs.declared.errno.Errno.{Errno}
use Rattle.fuse_wire.specs.Errnos.{enoent, ebadf, enotdir, eisdir, einval, enametoolong, enosys, eproto, estale}
use Rattle.fuse_wire.specs.Flags.{access_of}
use Rattle.fuse_wire.specs.Opcodes.{fuse_lookup, fuse_getattr, fuse_readlink, fuse_read, fuse_statfs, fuse_readdir}
use Rattle.fuse_request.specs.declared.request.InitIn.{InitIn}
use Rattle.fuse_request.specs.declared.request.ReadIn.{ReadIn}
use Rattle.fuse_request.specs.Act.{Act, Asked}
use Rattle.fuse_request.specs.Act as acts
use Rattle.fuse_request.specs.Opcodes.{OpcodeSet}
use Rattle.fuse_answer.specs.Said.{Said}
use Rattle.fuse_answer.specs.Bodies.{init_bytes}
use Rattle.fuse_init.specs.declared.profile.Profile.TheVariants as profiles
use Rattle.fuse_init.specs.Agree.{agree}
use Rattle.fuse_init.specs.declared.negotiation.Negotiated.{Negotiated}
use Rattle.fuse_init.specs.declared.negotiation.Negotiated.TheVariants.{Agreed, Again, Refused}
use Rattle.fuse_init.specs.declared.settings.Settings.{Settings}
use Rattle.five_files.specs.declared.node.Node.{Node}
use Rattle.five_files.specs.declared.node.Node.TheVariants.{Readme, Licence, Hours, Times}
use Rattle.five_files.specs.Nodes.{number_of, node_at, is_dir, is_link, name_of, content_of}
use Rattle.five_files.specs.Answers.{erofs, refuse, give, refuse_for, give_entry, give_attr, give_open, give_statfs}
use Rattle.five_files.specs.Listing.{read_dir}

-- ---- LOOKUP

-- a name that no entry may have, though it isn't too long: empty, one that leads elsewhere, or one with a slash
abbrev pub is_odd_name : List ℕ → Bool
is_odd_name name = (length name == 0) || pointwise nat_eq name (codes ".") || pointwise nat_eq name (codes "..") || list_any (λ byte. byte == 47) name

abbrev pub name_fault : List ℕ → Option Errno
name_fault name =
    if nat_lt 255 (length name) then Some enametoolong
    else if is_odd_name name then Some einval
    else None

abbrev pub file_named : List ℕ → Option Node
file_named name =
    if pointwise nat_eq name (name_of Readme) then Some Readme
    else if pointwise nat_eq name (name_of Licence) then Some Licence
    else if pointwise nat_eq name (name_of Hours) then Some Hours
    else if pointwise nat_eq name (name_of Times) then Some Times
    else None

abbrev pub found : Option Node → Said
found None = refuse enoent
found (Some n) = give_entry n

abbrev pub lookup : List ℕ → Node → Said
lookup name n =
    if not (is_dir n) then refuse enotdir
    else refuse_for (name_fault name) (found (file_named name))

-- ---- OPEN, OPENDIR, RELEASE, RELEASEDIR

-- no file is opened for writing, and the link not at all
abbrev pub open_for : Option AccessMode → Node → Said
open_for None n = refuse einval
open_for (Some ReadOnly) n = give_open n
open_for (Some WriteOnly) n = refuse erofs
open_for (Some ReadWrite) n = refuse erofs

abbrev pub open_file : ℕ → Node → Said
open_file flags n =
    if is_dir n then refuse eisdir
    else if is_link n then refuse einval
    else open_for (access_of flags) n

abbrev pub open_dir : Node → Said
open_dir n = if not (is_dir n) then refuse enotdir else give_open n

abbrev pub release : ℕ → Node → Said
release fh n =
    if not (fh == number_of n) then refuse ebadf
    else if is_dir n then refuse eisdir
    else if is_link n then refuse einval
    else give []

abbrev pub release_dir : ℕ → Node → Said
release_dir fh n =
    if not (fh == number_of n) then refuse ebadf
    else if not (is_dir n) then refuse enotdir
    else give []

-- ---- READ

-- the content from the offset on, at most so many bytes: none from the end on
abbrev pub read : ReadIn → Node → Said
read asked n =
    if not (asked.fh == number_of n) then refuse ebadf
    else if is_dir n then refuse eisdir
    else if is_link n then refuse einval
    else if nat_lt 1048576 asked.size then refuse einval
    else give (take asked.size (drop asked.offset (content_of n)))

-- ---- READLINK, STATFS

-- the opcodes that are served beside those of the profile
abbrev pub serves_further : OpcodeSet
serves_further opcode = (opcode == fuse_readlink) || (opcode == fuse_statfs)

-- the opcodes whose requests are seen: they change nothing. READLINK changes nothing either, and is kept, so that there is an opcode
-- beside the profile of each class
abbrev pub only_looks : OpcodeSet
only_looks opcode =
    opcode == fuse_lookup || (opcode == fuse_getattr || (opcode == fuse_read || (opcode == fuse_statfs || opcode == fuse_readdir)))

-- neither has a body; and only a symbolic link has a target
abbrev pub read_link : List ℕ → Node → Said
read_link body n =
    if not (length body == 0) then refuse einval
    else if not (is_link n) then refuse einval
    else give (content_of n)

abbrev pub stat_fs : List ℕ → Said
stat_fs body = if not (length body == 0) then refuse einval else give_statfs

abbrev pub further : ℕ → List ℕ → Node → Said
further opcode body n =
    if opcode == fuse_readlink then read_link body n
    else if opcode == fuse_statfs then stat_fs body
    else refuse enosys

-- ---- all requests

-- the answer at the node that the header names: a request that would change it is refused. The last line is of requests that
-- aren't kept, and of INIT and DESTROY, which are answered before
abbrev pub said_at : Act → Node → Said
said_at (acts.Lookup name) n = lookup name n
said_at (acts.Getattr flags fh) n = give_attr n
said_at (acts.OpenFile flags open_flags) n = open_file flags n
said_at (acts.Read asked) n = read asked n
said_at (acts.Release x) n = release x.fh n
said_at (acts.OpenDir flags open_flags) n = open_dir n
said_at (acts.ReadDir asked) n = read_dir asked n
said_at (acts.ReleaseDir x) n = release_dir x.fh n
said_at (acts.Setattr set) n = refuse erofs
said_at (acts.Mknod mode rdev umask name) n = refuse erofs
said_at (acts.Mkdir mode umask name) n = refuse erofs
said_at (acts.Unlink name) n = refuse erofs
said_at (acts.Rmdir name) n = refuse erofs
said_at (acts.Rename new_dir old_name new_name) n = refuse erofs
said_at (acts.Write fh offset write_flags lock_owner flags payload) n = refuse erofs
said_at (acts.Rename2 new_dir flags old_name new_name) n = refuse erofs
said_at (acts.Further opcode body) n = further opcode body n
said_at _ n = refuse enosys

abbrev pub said_for : Act → Option Node → Said
said_for act None = refuse estale
said_for act (Some n) = said_at act n

-- of DESTROY no node is looked at
abbrev pub names_node : Act → Bool
names_node acts.Destroy = false
names_node _ = true

abbrev pub said_agreed : Asked → Said
said_agreed asked = if names_node asked.act then said_for asked.act (node_at asked.header.nodeid) else give []

abbrev pub said_init : Negotiated → Said
said_init (Agreed out settings) = give (init_bytes out)
said_init (Again out) = give (init_bytes out)
said_init (Refused errno) = refuse errno

-- what an INIT offers
abbrev pub offer_of : Act → Option InitIn
offer_of (acts.Init offer) = Some offer
offer_of _ = None

-- INIT is answered always, and all else where settings are agreed on
abbrev pub said_offered : Option Settings → Asked → Option InitIn → Said
said_offered agreed asked (Some offer) = said_init (agree profiles.Plain offer)
said_offered agreed asked None = if is_some agreed then said_agreed asked else refuse eproto

unfoldable pub said : Option Settings → Asked → Said
said agreed asked = said_offered agreed asked (offer_of asked.act)

-- ---- what is agreed on

abbrev pub agreed_by : Option Settings → Negotiated → Option Settings
agreed_by agreed (Agreed out settings) = Some settings
agreed_by agreed (Again out) = agreed
agreed_by agreed (Refused errno) = agreed

abbrev pub agreed_offered : Option Settings → Option InitIn → Option Settings
agreed_offered agreed (Some offer) = agreed_by agreed (agree profiles.Plain offer)
agreed_offered agreed None = agreed

-- INIT alone changes anything
unfoldable pub agreed_after : Option Settings → Asked → Option Settings
agreed_after agreed asked = agreed_offered agreed (offer_of asked.act)

-- The effect and the answer of each request (defined by this project), over the whole state: the first check that
-- applies decides. Neither unique nor pid nor the extensions matter.
use Rattle.std.specs.Prelude.{ℕ, Bool, true, false, if◌then◌else◌, List, [], Option, Some, None, is_some}
use Rattle.fuse_wire.specs.Errnos.{enoent, enosys, eproto, estale}
use Rattle.fuse_wire.specs.declared.moment.Moment.{Moment}
use Rattle.fuse_request.specs.declared.request.InHeader.{InHeader}
use Rattle.fuse_request.specs.declared.request.InitIn.{InitIn}
use Rattle.fuse_request.specs.Act.{Act, Asked}
use Rattle.fuse_request.specs.Act as acts
use Rattle.fuse_answer.specs.Bodies.{entry_bytes, attr_out_bytes}
use Rattle.fuse_init.specs.Agree.{agree}
use Rattle.fuse_rows.specs.declared.rows.EntryRow.{EntryRow}
use Rattle.fuse_tree.specs.State.{State, Node, profile_of, node_at}
use Rattle.fuse_tree.specs.Keeping.{agreement_of, keeps, valid_of, absent_entry}
use Rattle.fuse_rows.specs.Rows.{entry_at}
use Rattle.fuse_tree.specs.Done.{Done, refuse, refuse_by, name_checks, answer, attr_of, entry_out_of, attr_out_of}
use Rattle.fuse_tree.specs.Making.{asker, asked_node, mkdir, mknod}
use Rattle.fuse_tree.specs.Setting.{setattr}
use Rattle.fuse_tree.specs.Writing.{write, read}
use Rattle.fuse_tree.specs.Init.{init}
use Rattle.fuse_tree.specs.Listing.{read_dir}
use Rattle.fuse_tree.specs.Opening.{open_file, open_dir, release, release_dir}
use Rattle.fuse_tree.specs.Removing.{unlink, rmdir}
use Rattle.fuse_tree.specs.Renaming.{asking, rename}
use Rattle.fuse_tree.specs.Further.{further}

-- ---- LOOKUP

-- the name isn't there, which the kernel may keep
abbrev pub lookup_absent : State → Done
lookup_absent s = if keeps (agreement_of s) then answer s (entry_bytes absent_entry) else refuse s enoent

abbrev pub lookup_child : State → Option Node → Done
lookup_child s None = lookup_absent s
lookup_child s (Some child) = answer s (entry_bytes (entry_out_of (valid_of (agreement_of s)) (attr_of s child)))

abbrev pub lookup_entry : State → Option EntryRow → Done
lookup_entry s None = lookup_absent s
lookup_entry s (Some e) = lookup_child s (node_at s e.child)

abbrev pub lookup : State → List ℕ → Node → Done
lookup s name n = refuse_by s (name_checks s name n) (lookup_entry s (entry_at s.entries n.number name))

-- ---- GETATTR

abbrev pub getattr : State → Node → Done
getattr s n = answer s (attr_out_bytes (attr_out_of (valid_of (agreement_of s)) (attr_of s n)))

-- ---- all requests

-- the operation, at the node of the header; the last line is of requests that aren't kept, and of INIT and
-- DESTROY, which are answered before
abbrev pub do_act : State → InHeader → Act → Moment → Node → Done
do_act s header (acts.Lookup name) now n = lookup s name n
do_act s header (acts.Getattr flags fh) now n = getattr s n
do_act s header (acts.Setattr set) now n = setattr s set now n
do_act s header (acts.Mkdir mode umask name) now n = mkdir s (asked_node (asker header now) mode 0) name n
do_act s header (acts.Mknod mode rdev umask name) now n = mknod s (asked_node (asker header now) mode rdev) name n
do_act s header (acts.Unlink name) now n = unlink s name now n
do_act s header (acts.Rmdir name) now n = rmdir s name now n
do_act s header (acts.OpenFile flags open_flags) now n = open_file s flags n
do_act s header (acts.Read asked) now n = read s asked n
do_act s header (acts.Write fh offset write_flags lock_owner flags payload) now n = write s fh (record { offset = offset; payload = payload; now = now }) n
do_act s header (acts.OpenDir flags open_flags) now n = open_dir s n
do_act s header (acts.ReadDir x) now n = read_dir s x n
do_act s header (acts.Release x) now n = release s x.fh n
do_act s header (acts.ReleaseDir x) now n = release_dir s x.fh n
do_act s header (acts.Rename new_dir old_name new_name) now n = rename s (asking new_dir 0 old_name new_name now) n
do_act s header (acts.Rename2 new_dir flags old_name new_name) now n = rename s (asking new_dir flags old_name new_name now) n
do_act s header (acts.Further opcode body) now n = further s (asker header now) opcode body n
do_act s header _ now n = refuse s enosys

abbrev pub do_at : State → Asked → Moment → Option Node → Done
do_at s request now None = refuse s estale
do_at s request now (Some n) = do_act s request.header request.act now n

-- whether the node of the header matters
abbrev pub names_node : Act → Bool
names_node acts.Destroy = false
names_node _ = true

-- where settings are agreed on
abbrev pub do_agreed : State → Asked → Moment → Done
do_agreed s request now = if names_node request.act then do_at s request now (node_at s request.header.nodeid) else answer s []

-- the offer of an INIT
abbrev pub offer_of : Act → Option InitIn
offer_of (acts.Init offer) = Some offer
offer_of _ = None

-- INIT is always answered, and other requests where settings are agreed on
abbrev pub do_offered : State → Asked → Moment → Option InitIn → Done
do_offered s request now (Some offer) = init s (agree (profile_of s) offer)
do_offered s request now None = if is_some s.settings then do_agreed s request now else refuse s eproto

-- the effect of a request at a moment
unfoldable pub done : State → Asked → Moment → Done
done s request now = do_offered s request now (offer_of request.act)

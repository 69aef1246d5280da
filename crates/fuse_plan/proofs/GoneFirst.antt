-- In each plan, changes that take entries away stand before those that make entries.
use Rattle.std.proofs.Common.{◌≡◌, ◌+◌, ◌-◌, ◌==◌, ◌&&◌, ◌||◌, ℕ, Bool, true, false, cond, not, List, [], ◌∷◌, ◌++◌, ◌∙◌, length, Option, Some, None, is_some, refl}
use Rattle.std.specs.Prelude.{nat_lt, nat_le}
use Rattle.std.specs.List.{AllByRecursion, list_any}
use Rattle.fuse_wire.specs.declared.access_mode.AccessMode.{AccessMode}
use Rattle.fuse_wire.specs.declared.access_mode.AccessMode.TheVariants.{ReadOnly}
use Rattle.fuse_wire.specs.declared.errno.Errno.{Errno}
use Rattle.fuse_wire.specs.declared.moment.Moment.{Moment}
use Rattle.fuse_wire.specs.Bits.{fattr_size}
use Rattle.fuse_wire.specs.Flags.{access_of}
use Rattle.fuse_request.specs.declared.request.InHeader.{InHeader}
use Rattle.fuse_request.specs.declared.request.InitIn.{InitIn}
use Rattle.fuse_request.specs.declared.request.ReadIn.{ReadIn}
use Rattle.fuse_request.specs.declared.request.SetattrIn.{SetattrIn}
use Rattle.fuse_request.specs.Act.{Act, Asked}
use Rattle.fuse_request.specs.Act as acts
use Rattle.fuse_init.specs.declared.negotiation.Negotiated.{Negotiated}
use Rattle.fuse_init.specs.declared.negotiation.Negotiated.TheVariants.{Agreed, Again, Refused}
use Rattle.fuse_init.specs.declared.profile.Profile.{Profile}
use Rattle.fuse_init.specs.Agree.{agree}
use Rattle.fuse_init.specs.Profile.{terms}
use Rattle.fuse_rows.specs.Bounds.{number_end}
use Rattle.fuse_plan.specs.declared.planning.finding.Link.{Link}
use Rattle.fuse_tree.specs.declared.new_node.NewNode.{NewNode}
use Rattle.fuse_tree.specs.declared.agreement.Agreement.{Agreement}
use Rattle.fuse_rows.specs.declared.rows.Change.{Change}
use Rattle.fuse_rows.specs.declared.rows.Change.TheVariants as changes
use Rattle.fuse_rows.specs.declared.rows.Counters.{Counters as CountersRow}
use Rattle.fuse_rows.specs.declared.rows.NodeRow.{NodeRow}
use Rattle.fuse_plan.specs.declared.planned.Planned.{Planned}
use Rattle.fuse_rows.specs.declared.rows.Change.TheVariants.{NodeGone, Counters as CountersPut}
use Rattle.fuse_plan.specs.inner.PlanRemoval.{goes_unnamed, goes_closed, counters_less, removal, with_removal}
use Rattle.fuse_rows.specs.Rows.{profile_for, Rows, row_at, row_is_named}
use Rattle.fuse_tree.specs.State.{is_dir, is_link}
use Rattle.fuse_tree.specs.Keeping.{agreement_at, keeps, valid_of}
use Rattle.fuse_tree.specs.Handles.{access_at, is_open}
use Rattle.fuse_tree.specs.Do.{names_node, offer_of}
use Rattle.fuse_tree.specs.Checks.{Check, first_error}
use Rattle.fuse_tree.specs.Making.{asker, asked_node}
use Rattle.fuse_tree.specs.Setting.{has_valid_bit, set_fault}
use Rattle.fuse_tree.specs.Writing.{Writing, may_write}
use Rattle.fuse_answer.specs.PlusEntries.{plus_len}
use Rattle.fuse_tree.specs.Listing.{first_fits, first_fits_by}
use Rattle.fuse_plan.specs.inner.PlanPlus.{plus_after, plan_read_dir_plus}
use Rattle.fuse_tree.specs.Opening.{open_fault, open_checks, not_for_dirs, for_dirs_alone}
use Rattle.fuse_plan.specs.Plan.{makes_entry, takes_entry, GoneFirst}
use Rattle.fuse_request.specs.FurtherBodies.{FurtherContent, Readlink, Statfs, Fsync, FsyncDir, Symlink, Create, ReadDirPlus, further_fault, further_content_at}
use Rattle.fuse_rows.specs.declared.origin.Origin.{Origin}
use Rattle.fuse_plan.specs.inner.PlanSymlinking.{row_symlink_checks, plan_symlink}
use Rattle.fuse_plan.specs.inner.PlanCreating.{plan_create_for, plan_create}
use Rattle.fuse_plan.specs.inner.PlanFurther.{plan_content, plan_further}
use Rattle.fuse_plan.specs.inner.Planning.{plan_child, plan_lookup, plan_act, plan_at, plan_offered, plan_of}
use Rattle.fuse_plan.specs.inner.PlanInit.{plan_init}
use Rattle.fuse_plan.specs.inner.PlanMaking.{row_mkdir_checks, plan_mkdir, row_mknod_checks, plan_mknod}
use Rattle.fuse_tree.specs.Space.{has_room}
use Rattle.fuse_plan.specs.inner.PlanSpace.{counters_for, room_in, room_changes, newly_in}
use Rattle.fuse_plan.specs.inner.PlanSetting.{set_row, set_counters, set_gone, plan_setattr}
use Rattle.fuse_plan.specs.inner.PlanWriting.{write_changes, plan_write, row_read_checks, plan_read}
use Rattle.fuse_plan.specs.inner.PlanListing.{rows_after, row_list_checks, plan_read_dir}
use Rattle.fuse_plan.specs.inner.PlanOpening.{plan_open_node, plan_open_for, plan_open, plan_open_dir, counters_closed, closed_changes, plan_close}
use Rattle.fuse_plan.specs.inner.PlanRemoving.{link_at, gone_changes, plan_gone, plan_remove_link, plan_remove, row_unlink_checks, row_rmdir_checks}
use Rattle.fuse_plan.specs.inner.PlanRenaming.{is_same_link, row_holds, other_at, new_dir_at, link_fault, rename_changes, exchange_changes, with_lost, plan_rename_link, plan_exchange_link, plan_rename_by, plan_rename_from, plan_rename_between, plan_rename}
use Rattle.fuse_tree.specs.Renaming.{Renaming, is_exchange, is_no_replace, asking, asked_fault}
use Rattle.fuse_plan.specs.inner.Reading.{refused_for, refused_by, row_name_checks, child_at}
use Rattle.fuse_plan.proofs.Lists.{and_true}

record Orders (p : Planned) : Type 0 where
  order : GoneFirst p.changes

-- ---- shown by a test

abbrev goes_first : List Change → Bool
goes_first [] = true
goes_first (change ∷ later) = (not (makes_entry change) || not (list_any takes_entry later)) && goes_first later

or_not : (b c d : Bool) → (not b || not (c || d)) ≡ true → (b ≡ true → c ≡ false) × ((not b || not d) ≡ true)
or_not false c d e = (λ is. absurd cc, refl)
or_not true false d e = (λ is. refl, e)
or_not true true d e = absurd cc

none_later : (change : Change) (later : List Change) → (not (makes_entry change) || not (list_any takes_entry later)) ≡ true
    → AllByRecursion (λ c. makes_entry change ≡ true → takes_entry c ≡ false) later
none_later change [] e = tt
none_later change (c ∷ later) e = let h = or_not (makes_entry change) (takes_entry c) (list_any takes_entry later) e in (h.0, none_later change later h.1)

tested : (changes : List Change) → goes_first changes ≡ true → GoneFirst changes
tested [] e = tt
tested (change ∷ later) e = let h = and_true _ _ e in (none_later change later h.0, tested later h.1)

by_test : (p : Planned) → goes_first p.changes ≡ true → Orders p
by_test p e = record { order = tested p.changes e }

-- ---- changes by which a node goes

any_more : (row : NodeRow) (counters : CountersRow) (xs : List Change) → list_any takes_entry (xs ++ removal row counters) ≡ list_any takes_entry xs
any_more row counters [] = refl
any_more row counters (x ∷ xs) = rw (any_more row counters xs) refl

first_more : (row : NodeRow) (counters : CountersRow) (xs : List Change) → goes_first (xs ++ removal row counters) ≡ goes_first xs
first_more row counters [] = and_true_last (makes_entry (NodeGone row.node)) (makes_entry (CountersPut (counters_less row counters)))
  where
    and_true_last : (b c : Bool) → ((true || b) && ((true || c) && true)) ≡ true
    and_true_last b c = refl
first_more row counters (x ∷ xs) = rw (any_more row counters xs, first_more row counters xs) refl

removal_first : (goes : Bool) (row : NodeRow) (counters : CountersRow) (before : List Change) → goes_first before ≡ true
    → goes_first (with_removal goes row counters before) ≡ true
removal_first true row counters before so = first_more row counters before ∙ so
removal_first false row counters before so = so

lost_first : (counters : CountersRow) (other : Option Link) (rows : Rows) (before : List Change) → goes_first before ≡ true
    → goes_first (with_lost counters other rows before) ≡ true
lost_first counters None rows before so = so
lost_first counters (Some other) rows before so =
    removal_first (goes_unnamed (profile_for counters.room) other.child.node rows) other.child (record counters { next_cookie = counters.next_cookie + 1 }) before so

-- ---- checks

chosen : (b : Bool) (p q : Planned) → Orders p → Orders q → Orders (cond b p q)
chosen true p q one two = one
chosen false p q one two = two

unless : (fault : Option Errno) (p : Planned) → Orders p → Orders (refused_for fault p)
unless None p so = so
unless (Some errno) p so = by_test _ refl

checked : (checks : List Check) (p : Planned) → Orders p → Orders (refused_by checks p)
checked checks p so = unless (first_error checks) p so

-- ---- LOOKUP

child_orders : (g : Agreement) (o : Option NodeRow) → Orders (plan_child g o)
child_orders g None = chosen (keeps g) _ _ (by_test _ refl) (by_test _ refl)
child_orders g (Some child) = by_test _ refl

lookup_orders : (g : Agreement) (name : List ℕ) (row : NodeRow) (rows : Rows) → Orders (plan_lookup g name row rows)
lookup_orders g name row rows = checked (row_name_checks name row) _ (child_orders g (child_at rows row.node name))

-- ---- MKNOD and MKDIR

mkdir_orders : (g : Agreement) (asked : NewNode) (name : List ℕ) (row : NodeRow) (rows : Rows) → Orders (plan_mkdir g asked name row rows)
mkdir_orders g asked name row rows = checked (row_mkdir_checks g name row rows) _ (by_test _ refl)

mknod_orders : (g : Agreement) (asked : NewNode) (name : List ℕ) (row : NodeRow) (rows : Rows) → Orders (plan_mknod g asked name row rows)
mknod_orders g asked name row rows = checked (row_mknod_checks g asked.mode name row rows) _ (by_test _ refl)

-- ---- SETATTR, WRITE and READ

setattr_orders : (g : Agreement) (set : SetattrIn) (now : Moment) (row : NodeRow) (rows : Rows) → Orders (plan_setattr g set now row rows)
setattr_orders g set now row rows =
    unless (set_fault (terms g.profile).file_limit set row.mode) _
    (by_test _ (step (has_valid_bit set fattr_size) (set_gone set row rows) (set_counters g.profile set rows)))
  where
    step : (sizes : Bool) (gone : ℕ) (counters : Option CountersRow)
        → goes_first (changes.Node (set_row set now gone row) ∷ cond sizes (changes.Sized row.node set.size ∷ room_changes counters (λ used. used - gone)) []) ≡ true
    step true gone None = refl
    step true gone (Some counters) = refl
    step false gone counters = refl

write_orders : (p : Profile) (fh : ℕ) (w : Writing) (row : NodeRow) (rows : Rows)
    → Orders (plan_write p fh w row rows)
write_orders p fh w row rows =
    chosen (not (may_write (access_at rows.handles fh row.node))) _ _ (by_test _ refl)
    (chosen (length w.payload == 0) _ _ (by_test _ refl)
    (chosen (nat_lt (terms p).file_limit (w.offset + length w.payload)) _ _ (by_test _ refl)
    (chosen (not (has_room (room_in (counters_for p rows)) (newly_in rows row w.offset (length w.payload)))) _ _ (by_test _ refl)
    (by_test _ (step (newly_in rows row w.offset (length w.payload)) (counters_for p rows))))))
  where
    step : (more : ℕ) (counters : Option CountersRow) → goes_first (write_changes w.offset w.payload more w.now row counters) ≡ true
    step more None = refl
    step more (Some counters) = refl

read_orders : (asked : ReadIn) (row : NodeRow) (rows : Rows) → Orders (plan_read asked row rows)
read_orders asked row rows = checked (row_read_checks asked row rows) _ (by_test _ refl)

-- ---- READDIR

read_dir_orders : (asked : ReadIn) (row : NodeRow) (rows : Rows) → Orders (plan_read_dir asked row rows)
read_dir_orders asked row rows =
    checked (row_list_checks asked row rows) _
    (chosen (not (first_fits (rows_after asked.offset asked.size row rows) asked.size)) _ _ (by_test _ refl) (by_test _ refl))

-- ---- handles

open_node_orders : (flags : ℕ) (access : AccessMode) (node : ℕ) (rows : Rows) → Orders (plan_open_node flags access node rows)
open_node_orders flags access node rows = unless (open_fault rows.counters.handles rows.counters.next_fh) _ (by_test _ refl)

open_for_orders : (open_flags : ℕ) (o : Option AccessMode) (row : NodeRow) (rows : Rows) → Orders (plan_open_for open_flags o row rows)
open_for_orders open_flags None row rows = by_test _ refl
open_for_orders open_flags (Some access) row rows = open_node_orders open_flags access row.node rows

open_orders : (open_flags flags : ℕ) (row : NodeRow) (rows : Rows) → Orders (plan_open open_flags flags row rows)
open_orders open_flags flags row rows = checked (open_checks row.mode) _ (open_for_orders open_flags (access_of flags) row rows)

open_dir_orders : (row : NodeRow) (rows : Rows) → Orders (plan_open_dir row rows)
open_dir_orders row rows = chosen (not (is_dir row.mode)) _ _ (by_test _ refl) (open_node_orders 0 ReadOnly row.node rows)

close_orders : (fh : ℕ) (fault : Option Errno) (row : NodeRow) (rows : Rows) → Orders (plan_close fh fault row rows)
close_orders fh fault row rows =
    chosen (not (is_open rows.handles fh row.node)) _ _ (by_test _ refl)
    (unless fault _
    (by_test _ (removal_first (goes_closed (profile_for rows.counters.room) fh row rows) row (counters_closed rows.counters)
    (closed_changes rows.counters fh) refl)))

-- ---- UNLINK and RMDIR

gone_orders : (p : Profile) (now : Moment) (link : Link) (row : NodeRow) (rows : Rows) → Orders (plan_gone p now link row rows)
gone_orders p now link row rows =
    by_test _ (removal_first (goes_unnamed p link.child.node rows) link.child rows.counters (gone_changes now link row) refl)

remove_link_orders : (p : Profile) (checks : NodeRow → List Check) (now : Moment) (row : NodeRow) (o : Option Link) (rows : Rows)
    → Orders (plan_remove_link p checks now row o rows)
remove_link_orders p checks now row None rows = by_test _ refl
remove_link_orders p checks now row (Some link) rows = checked (checks link.child) _ (gone_orders p now link row rows)

remove_orders : (p : Profile) (checks : NodeRow → List Check) (name : List ℕ) (now : Moment) (row : NodeRow) (rows : Rows)
    → Orders (plan_remove p checks name now row rows)
remove_orders p checks name now row rows = checked (row_name_checks name row) _ (remove_link_orders p checks now row (link_at rows row.node name) rows)

-- ---- RENAME and RENAME2

either : (b : Bool) (xs ys later : List Change) → goes_first (xs ++ later) ≡ true → goes_first (ys ++ later) ≡ true → goes_first (cond b xs ys ++ later) ≡ true
either true xs ys later one two = one
either false xs ys later one two = two

-- whatever stood at the new place, and whether or not both directories are one
moved_first : (r : Renaming) (counters : CountersRow) (from to : NodeRow) (source : Link) (other : Option Link)
    → goes_first (rename_changes r counters from to source other) ≡ true
moved_first r counters from to source None = either (from.node == r.new_dir) _ _ _ refl refl
moved_first r counters from to source (Some other) = either (from.node == r.new_dir) _ _ _ refl refl

exchanged_first : (r : Renaming) (counters : CountersRow) (from to : NodeRow) (source other : Link)
    → goes_first (exchange_changes r counters from to source other) ≡ true
exchanged_first r counters from to source other = either (from.node == r.new_dir) _ _ _ refl refl

link_orders : (r : Renaming) (from to : NodeRow) (source : Link) (other : Option Link) (rows : Rows) → Orders (plan_rename_link r from to source other rows)
link_orders r from to source other rows =
    chosen (is_same_link source other) _ _ (by_test _ refl)
    (chosen (row_holds rows source.child from.node r.new_dir) _ _ (by_test _ refl)
    (unless (link_fault rows source other) _
    (chosen (nat_le number_end rows.counters.next_cookie) _ _ (by_test _ refl) (by_test _ (lost_first rows.counters other rows (rename_changes r rows.counters from to source other) (moved_first r rows.counters from to source other))))))

exchange_orders : (r : Renaming) (from to : NodeRow) (source : Link) (other : Option Link) (rows : Rows)
    → Orders (plan_exchange_link r from to source other rows)
exchange_orders r from to source None rows = by_test _ refl
exchange_orders r from to source (Some other) rows =
    chosen (source.cookie == other.cookie) _ _ (by_test _ refl)
    (chosen (row_holds rows source.child from.node r.new_dir || row_holds rows other.child r.new_dir from.node) _ _ (by_test _ refl)
    (chosen (nat_lt (number_end - 2) rows.counters.next_cookie) _ _ (by_test _ refl) (by_test _ (exchanged_first r rows.counters from to source other))))

by_orders : (r : Renaming) (from to : NodeRow) (source : Link) (other : Option Link) (rows : Rows) → Orders (plan_rename_by r from to source other rows)
by_orders r from to source other rows =
    chosen (is_exchange r.mode) _ _ (exchange_orders r from to source other rows)
    (chosen (is_no_replace r.mode && is_some other) _ _ (by_test _ refl) (link_orders r from to source other rows))

from_orders : (r : Renaming) (from to : NodeRow) (o : Option Link) (rows : Rows) → Orders (plan_rename_from r from to o rows)
from_orders r from to None rows = by_test _ refl
from_orders r from to (Some source) rows = by_orders r from to source (other_at r from.node source rows) rows

between_orders : (r : Renaming) (from : NodeRow) (o : Option NodeRow) (rows : Rows) → Orders (plan_rename_between r from o rows)
between_orders r from None rows = by_test _ refl
between_orders r from (Some to) rows =
    unless (asked_fault r (is_dir from.mode && is_dir to.mode) (row_is_named from && row_is_named to)) _
    (from_orders r from to (link_at rows from.node r.old_name) rows)

rename_orders : (r : Renaming) (from : NodeRow) (rows : Rows) → Orders (plan_rename r from rows)
rename_orders r from rows = between_orders r from (new_dir_at r.new_dir from rows) rows

-- ---- the further opcodes

symlink_orders : (g : Agreement) (from : Origin) (target name : List ℕ) (row : NodeRow) (rows : Rows) → Orders (plan_symlink g from target name row rows)
symlink_orders g from target name row rows = checked (row_symlink_checks g target name row rows) _ (by_test _ refl)

create_for_orders : (g : Agreement) (fresh : NewNode) (name : List ℕ) (o : Option AccessMode) (row : NodeRow) (rows : Rows)
    → Orders (plan_create_for g fresh name o row rows)
create_for_orders g fresh name None row rows = by_test _ refl
create_for_orders g fresh name (Some access) row rows = unless (open_fault rows.counters.handles rows.counters.next_fh) _ (by_test _ refl)

create_orders : (g : Agreement) (asked : NewNode) (flags : ℕ) (name : List ℕ) (row : NodeRow) (rows : Rows) → Orders (plan_create g asked flags name row rows)
create_orders g asked flags name row rows = checked (row_mkdir_checks g name row rows) _ (create_for_orders g _ name (access_of flags) row rows)

read_dir_plus_orders : (valid : ℕ) (asked : ReadIn) (row : NodeRow) (rows : Rows) → Orders (plan_read_dir_plus valid asked row rows)
read_dir_plus_orders valid asked row rows =
    checked (row_list_checks asked row rows) _
    (chosen (not (first_fits_by plus_len (plus_after valid asked.offset asked.size row rows) asked.size)) _ _ (by_test _ refl) (by_test _ refl))

content_orders : (g : Agreement) (from : Origin) (o : Option FurtherContent) (row : NodeRow) (rows : Rows)
    → Orders (plan_content g from o row rows)
content_orders g from (Some Readlink) row rows = chosen (not (is_link row.mode)) _ _ (by_test _ refl) (by_test _ refl)
content_orders g from (Some Statfs) row rows = by_test _ refl
content_orders g from (Some (Fsync fh fsync_flags)) row rows = chosen (not (is_open rows.handles fh row.node)) _ _ (by_test _ refl) (by_test _ refl)
content_orders g from (Some (FsyncDir fh fsync_flags)) row rows = chosen (not (is_open rows.handles fh row.node)) _ _ (by_test _ refl) (by_test _ refl)
content_orders g from (Some (Symlink name target)) row rows = symlink_orders g from target name row rows
content_orders g from (Some (Create flags mode umask open_flags name)) row rows = create_orders g (asked_node from mode 0) flags name row rows
content_orders g from (Some (ReadDirPlus x)) row rows = read_dir_plus_orders (valid_of g) x row rows
content_orders g from _ row rows = by_test _ refl

further_orders : (g : Agreement) (from : Origin) (opcode : ℕ) (body : List ℕ) (row : NodeRow) (rows : Rows)
    → Orders (plan_further g from opcode body row rows)
further_orders g from opcode body row rows =
    chosen (not ((terms g.profile).further opcode)) _ _ (by_test _ refl)
    (chosen (is_some (further_fault opcode body)) _ _ (by_test _ refl) (content_orders g from (further_content_at opcode body) row rows))

-- ---- all requests

act_orders : (g : Agreement) (header : InHeader) (a : Act) (now : Moment) (row : NodeRow) (rows : Rows) → Orders (plan_act g header a now row rows)
act_orders g header (acts.Lookup name) now row rows = lookup_orders g name row rows
act_orders g header (acts.Getattr flags fh) now row rows = by_test _ refl
act_orders g header (acts.Setattr set) now row rows = setattr_orders g set now row rows
act_orders g header (acts.Mkdir mode umask name) now row rows = mkdir_orders g (asked_node (asker header now) mode 0) name row rows
act_orders g header (acts.Mknod mode rdev umask name) now row rows = mknod_orders g (asked_node (asker header now) mode rdev) name row rows
act_orders g header (acts.Unlink name) now row rows = remove_orders g.profile row_unlink_checks name now row rows
act_orders g header (acts.Rmdir name) now row rows = remove_orders g.profile (row_rmdir_checks rows) name now row rows
act_orders g header (acts.OpenFile flags open_flags) now row rows = open_orders (terms g.profile).open_flags flags row rows
act_orders g header (acts.Read asked) now row rows = read_orders asked row rows
act_orders g header (acts.Write fh offset write_flags lock_owner flags payload) now row rows = write_orders g.profile fh (record { offset = offset; payload = payload; now = now }) row rows
act_orders g header (acts.OpenDir flags open_flags) now row rows = open_dir_orders row rows
act_orders g header (acts.ReadDir x) now row rows = read_dir_orders x row rows
act_orders g header (acts.Release x) now row rows = close_orders x.fh (not_for_dirs row.mode) row rows
act_orders g header (acts.ReleaseDir x) now row rows = close_orders x.fh (for_dirs_alone row.mode) row rows
act_orders g header (acts.Rename new_dir old_name new_name) now row rows = rename_orders (asking new_dir 0 old_name new_name now) row rows
act_orders g header (acts.Rename2 new_dir flags old_name new_name) now row rows = rename_orders (asking new_dir flags old_name new_name now) row rows
act_orders g header (acts.Further opcode body) now row rows = further_orders g (asker header now) opcode body row rows
act_orders g header _ now row rows = by_test _ refl

at_orders : (g : Agreement) (request : Asked) (now : Moment) (o : Option NodeRow) (rows : Rows) → Orders (plan_at g request now o rows)
at_orders g request now None rows = by_test _ refl
at_orders g request now (Some row) rows = act_orders g request.header request.act now row rows

init_orders : (negotiated : Negotiated) → Orders (plan_init negotiated)
init_orders (Agreed out settings) = by_test _ refl
init_orders (Again out) = by_test _ refl
init_orders (Refused errno) = by_test _ refl

offered_orders : (request : Asked) (now : Moment) (offer : Option InitIn) (rows : Rows) → Orders (plan_offered request now offer rows)
offered_orders request now (Some offer) rows = init_orders (agree (agreement_at rows).profile offer)
offered_orders request now None rows =
    chosen (is_some rows.settings) _ _
    (chosen (names_node request.act) _ _ (at_orders (agreement_at rows) request now (row_at rows request.header.nodeid) rows) (by_test _ refl)) (by_test _ refl)

pub plan_orders : (request : Asked) (now : Moment) (rows : Rows) → GoneFirst (plan_of request now rows).changes
plan_orders request now rows = (offered_orders request now (offer_of request.act) rows).order

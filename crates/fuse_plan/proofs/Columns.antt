-- The changes of each plan over the rows of a tree fit a table.
use Rattle.std.proofs.Common.{◌≡◌, ◌≤◌, ◌+◌, ◌-◌, ◌<◌, ◌==◌, ◌&&◌, ◌||◌, ◌^◌, ℕ, Bool, true, false, cond, not, eqb, List, [], ◌∷◌, Option, Some, None, is_some, refl, subst, inl, inr, arith}
use Rattle.std.specs.Option.{option_map}
use Rattle.std.specs.Prelude.{IfSome, nat_eq, nat_lt, nat_le}
use Rattle.std.specs.Cmp.Lexicographic.{pointwise}
use Rattle.std.proofs.lemmas.Bool.{eqb-true, ltb-true}
use Rattle.std.proofs.lemmas.Nat.{and_le_r}
use Rattle.fuse_wire.specs.declared.access_mode.AccessMode.{AccessMode}
use Rattle.fuse_wire.specs.declared.access_mode.AccessMode.TheVariants.{ReadOnly}
use Rattle.fuse_wire.specs.declared.errno.Errno.{Errno}
use Rattle.fuse_wire.specs.declared.moment.Moment.{Moment}
use Rattle.fuse_wire.specs.Flags.{access_of}
use Rattle.fuse_request.specs.declared.request.InHeader.{InHeader}
use Rattle.fuse_request.specs.declared.request.InitIn.{InitIn}
use Rattle.fuse_request.specs.declared.request.ReadIn.{ReadIn}
use Rattle.fuse_request.specs.Act.{Act, Asked}
use Rattle.fuse_request.specs.Act as acts
use Rattle.fuse_init.specs.declared.profile.Profile.TheVariants.{Plain, Everyday}
use Rattle.fuse_init.specs.declared.negotiation.Negotiated.{Negotiated}
use Rattle.fuse_init.specs.declared.negotiation.Negotiated.TheVariants.{Agreed, Again, Refused}
use Rattle.fuse_init.specs.Agree.{agree, offered, is_older}
use Rattle.fuse_init.specs.Profile.{plain, everyday, terms}
use Rattle.fuse_init.specs.Numbers.{kernel_version}
use Rattle.fuse_rows.specs.Bounds.{block_limit, number_end}
use Rattle.fuse_plan.specs.declared.planning.finding.Link.{Link}
use Rattle.fuse_tree.specs.declared.new_node.NewNode.{NewNode}
use Rattle.fuse_tree.specs.declared.agreement.Agreement.{Agreement}
use Rattle.fuse_rows.specs.declared.rows.Change.TheVariants as changes
use Rattle.fuse_rows.specs.declared.rows.Counters.{Counters as CountersRow}
use Rattle.fuse_rows.specs.declared.rows.Room.{Room}
use Rattle.fuse_rows.specs.declared.rows.Change.{Change}
use Rattle.fuse_rows.specs.declared.rows.NodeRow.{NodeRow}
use Rattle.fuse_plan.specs.declared.planned.Planned.{Planned}
use Rattle.fuse_init.specs.declared.profile.Profile.{Profile}
use Rattle.fuse_plan.specs.inner.PlanRemoval.{goes_unnamed, goes_closed, room_without, removal, with_removal}
use Rattle.fuse_rows.specs.Rows.{full_at, profile_for, Rows, row_at, handle_at, row_is_named}
use Rattle.fuse_tree.specs.State.{State, Shape, is_dir}
use Rattle.fuse_tree.specs.Keeping.{agreement_at, keeps}
use Rattle.fuse_tree.specs.Rowed.{rows_of_state}
use Rattle.fuse_tree.specs.Handles.{is_open}
use Rattle.fuse_tree.specs.Do.{names_node, offer_of}
use Rattle.fuse_tree.specs.Checks.{Check}
use Rattle.fuse_tree.specs.Making.{asker, asked_node}
use Rattle.fuse_tree.specs.Listing.{first_fits}
use Rattle.fuse_tree.specs.Opening.{open_fault, open_checks, not_for_dirs, for_dirs_alone}
use Rattle.fuse_rows.specs.Blocks.{how_many}
use Rattle.fuse_rows.specs.Columns.{FitsNode, FitsRoom, FitsCounters, FitColumns}
use Rattle.fuse_plan.specs.inner.Planning.{plan_child, plan_lookup, plan_act, plan_at, plan_offered, plan_of}
use Rattle.fuse_plan.specs.inner.PlanInit.{plan_init}
use Rattle.fuse_plan.specs.inner.PlanMaking.{plan_new, row_mkdir_checks, plan_mkdir, row_mknod_checks, plan_mknod}
use Rattle.fuse_plan.specs.inner.PlanWriting.{row_read_checks, plan_read}
use Rattle.fuse_plan.specs.inner.PlanListing.{rows_after, row_list_checks, plan_read_dir}
use Rattle.fuse_plan.specs.inner.PlanOpening.{plan_opened, plan_open_node, plan_open_for, plan_open, plan_open_dir, counters_closed, closed_changes, plan_close}
use Rattle.fuse_plan.specs.inner.PlanRemoving.{link_at, gone_changes, plan_gone, plan_remove_link, plan_remove, row_unlink_checks, row_rmdir_checks}
use Rattle.fuse_plan.specs.inner.PlanRenaming.{is_same_link, row_holds, other_at, new_dir_at, link_fault, lost_changes, dir_row, dirs_changes, rename_changes, exchange_changes, is_dir_link, is_dir_other, with_lost, plan_rename_link, plan_exchange_link, plan_rename_from, plan_rename_between, plan_rename}
use Rattle.fuse_tree.specs.Renaming.{Renaming, is_exchange, is_no_replace, asking, asked_fault}
use Rattle.fuse_plan.specs.inner.Reading.{row_name_checks, child_at}
use Rattle.fuse_plan.proofs.Lists.{cond_found}
use Rattle.fuse_plan.proofs.FurtherColumns.{further_fits}
use Rattle.fuse_plan.proofs.SizesFit.{isnt_not, setattr_fits, write_fits}
use Rattle.fuse_plan.proofs.SmallRows.{SmallCounters, Small, small, found_small, found_few, counted_small, FitsLink, FitsFound, link_small, open_small, Fit, nothing, past, unless, checked, joined}

-- ---- LOOKUP

child_fits : (g : Agreement) (o : Option NodeRow) → Fit (plan_child g o)
child_fits g None = past (keeps g) _ _ refl (λ _. nothing _ refl)
child_fits g (Some child) = nothing _ refl

lookup_fits : (g : Agreement) (name : List ℕ) (row : NodeRow) (rows : Rows) → Fit (plan_lookup g name row rows)
lookup_fits g name row rows = checked (row_name_checks name row) _ (child_fits g (child_at rows row.node name))

-- ---- MKNOD and MKDIR

new_fits : (valid : ℕ) (counters : CountersRow) (fresh : NewNode) (name : List ℕ) (row : NodeRow) → SmallCounters counters → FitsNode row
    → Fit (plan_new valid counters fresh name row)
new_fits valid counters fresh name row few fits =
    let node : counters.next_node + 1 < 2 ^ 63 = omega (arith, few.next_node) in
    let cookie : counters.next_cookie + 1 < 2 ^ 63 = omega (arith, few.next_cookie) in
    record {
      columns = (
        record { node = fits.node; up = fits.up; size = fits.size; written = fits.written },
        (
          record { node = omega arith; up = fits.node; size = omega arith; written = counted_small 0 counters.room (omega arith) },
          (
            record { dir = fits.node; child = omega arith; cookie = omega arith },
            (
              record {
                next_node = node;
                next_fh = omega (arith, few.next_fh);
                next_cookie = cookie;
                nodes = omega (arith, few.nodes);
                handles = omega (arith, few.handles);
                room = few.room;
              },
              tt,
            ),
          ),
        ),
      );
    }

mkdir_fits : (g : Agreement) (asked : NewNode) (name : List ℕ) (row : NodeRow) (rows : Rows) → Small rows → FitsNode row
    → Fit (plan_mkdir g asked name row rows)
mkdir_fits g asked name row rows all fits = checked (row_mkdir_checks g name row rows) _ (new_fits _ rows.counters _ name row all.counters fits)

mknod_fits : (g : Agreement) (asked : NewNode) (name : List ℕ) (row : NodeRow) (rows : Rows) → Small rows → FitsNode row
    → Fit (plan_mknod g asked name row rows)
mknod_fits g asked name row rows all fits = checked (row_mknod_checks g asked.mode name row rows) _ (new_fits _ rows.counters _ name row all.counters fits)

-- ---- READ

read_fits : (asked : ReadIn) (row : NodeRow) (rows : Rows) → Fit (plan_read asked row rows)
read_fits asked row rows = checked (row_read_checks asked row rows) _ (nothing _ refl)

-- ---- READDIR

read_dir_fits : (asked : ReadIn) (row : NodeRow) (rows : Rows) → Fit (plan_read_dir asked row rows)
read_dir_fits asked row rows =
    checked (row_list_checks asked row rows) _
    (past (not (first_fits (rows_after asked.offset asked.size row rows) asked.size)) _ _ refl (λ _. nothing _ refl))

-- ---- handles

opened_fits : (flags : ℕ) (counters : CountersRow) (access : AccessMode) (node : ℕ) → SmallCounters counters → node < 2 ^ 63 → Fit (plan_opened flags counters access node)
opened_fits flags counters access node few fits =
    let fh : counters.next_fh + 1 < 2 ^ 63 = omega (arith, few.next_fh) in
    record {
      columns = (
        record { fh = omega arith; node = fits },
        (
          record {
            next_node = omega (arith, few.next_node);
            next_fh = fh;
            next_cookie = omega (arith, few.next_cookie);
            nodes = omega (arith, few.nodes);
            handles = omega (arith, few.handles);
            room = few.room;
          },
          tt,
        ),
      );
    }

open_node_fits : (flags : ℕ) (access : AccessMode) (node : ℕ) (rows : Rows) → Small rows → node < 2 ^ 63 → Fit (plan_open_node flags access node rows)
open_node_fits flags access node rows all fits =
    unless (open_fault rows.counters.handles rows.counters.next_fh) _ (λ _. opened_fits flags rows.counters access node all.counters fits)

open_for_fits : (open_flags : ℕ) (o : Option AccessMode) (row : NodeRow) (rows : Rows) → Small rows → FitsNode row → Fit (plan_open_for open_flags o row rows)
open_for_fits open_flags None row rows all fits = nothing _ refl
open_for_fits open_flags (Some access) row rows all fits = open_node_fits open_flags access row.node rows all fits.node

open_fits : (open_flags flags : ℕ) (row : NodeRow) (rows : Rows) → Small rows → FitsNode row → Fit (plan_open open_flags flags row rows)
open_fits open_flags flags row rows all fits = checked (open_checks row.mode) _ (open_for_fits open_flags (access_of flags) row rows all fits)

open_dir_fits : (row : NodeRow) (rows : Rows) → Small rows → FitsNode row → Fit (plan_open_dir row rows)
open_dir_fits row rows all fits = past (not (is_dir row.mode)) _ _ refl (λ _. open_node_fits 0 ReadOnly row.node rows all fits.node)

-- ---- a node that goes

room_less_fits : (row : NodeRow) (o : Option Room) → IfSome o FitsRoom → IfSome (option_map (room_without row) o) FitsRoom
room_less_fits row None fits = tt
room_less_fits row (Some room) fits = record { capacity = fits.capacity; used = omega (arith, fits.used) }

removal_fits : (row : NodeRow) (counters : CountersRow) → row.node < 2 ^ 63 → FitsCounters counters → FitColumns (removal row counters)
removal_fits row counters node fits = (
  node,
  (
    record {
      next_node = fits.next_node;
      next_fh = fits.next_fh;
      next_cookie = fits.next_cookie;
      nodes = omega (arith, fits.nodes);
      handles = fits.handles;
      room = room_less_fits row counters.room fits.room;
    },
    tt,
  ),
)

with_removal_fits : (goes : Bool) (row : NodeRow) (counters : CountersRow) (before : List Change) → row.node < 2 ^ 63 → FitsCounters counters
    → FitColumns before → FitColumns (with_removal goes row counters before)
with_removal_fits true row counters before node fits so = joined before (removal row counters) so (removal_fits row counters node fits)
with_removal_fits false row counters before node fits so = so

counters_fit : (counters : CountersRow) → SmallCounters counters → FitsCounters counters
counters_fit counters few = record {
  next_node = omega (arith, few.next_node);
  next_fh = omega (arith, few.next_fh);
  next_cookie = omega (arith, few.next_cookie);
  nodes = omega (arith, few.nodes);
  handles = omega (arith, few.handles);
  room = few.room;
}

closed_counters_fit : (counters : CountersRow) → SmallCounters counters → FitsCounters (counters_closed counters)
closed_counters_fit counters few = record {
  next_node = omega (arith, few.next_node);
  next_fh = omega (arith, few.next_fh);
  next_cookie = omega (arith, few.next_cookie);
  nodes = omega (arith, few.nodes);
  handles = omega (arith, few.handles);
  room = few.room;
}

close_fits : (fh : ℕ) (fault : Option Errno) (row : NodeRow) (rows : Rows) → Small rows → FitsNode row → Fit (plan_close fh fault row rows)
close_fits fh fault row rows all fits =
    let few = closed_counters_fit rows.counters all.counters in
    past (not (is_open rows.handles fh row.node)) _ _ refl
    (λ there. unless fault _
    (λ _. record {
      columns =
          with_removal_fits (goes_closed (profile_for rows.counters.room) fh row rows) row (counters_closed rows.counters) (closed_changes rows.counters fh)
          fits.node few
          (open_small rows fh row.node (handle_at rows.handles fh) all refl (isnt_not (is_open rows.handles fh row.node) there), (few, tt));
    }))

-- ---- UNLINK and RMDIR

gone_fits : (p : Profile) (now : Moment) (link : Link) (row : NodeRow) (rows : Rows) → Small rows → FitsLink link → FitsNode row
    → Fit (plan_gone p now link row rows)
gone_fits p now link row rows all there fits = record {
  columns =
      with_removal_fits (goes_unnamed p link.child.node rows) link.child rows.counters (gone_changes now link row) there.child.node
      (counters_fit rows.counters all.counters) (
        there.cookie,
        (
          record { node = fits.node; up = fits.up; size = fits.size; written = fits.written },
          (record { node = there.child.node; up = omega arith; size = there.child.size; written = there.child.written }, tt),
        ),
      );
}

remove_link_fits : (p : Profile) (checks : NodeRow → List Check) (now : Moment) (row : NodeRow) (o : Option Link) (rows : Rows) → Small rows
    → FitsFound o → FitsNode row
    → Fit (plan_remove_link p checks now row o rows)
remove_link_fits p checks now row None rows all there fits = nothing _ refl
remove_link_fits p checks now row (Some link) rows all there fits = checked (checks link.child) _ (gone_fits p now link row rows all there fits)

remove_fits : (p : Profile) (checks : NodeRow → List Check) (name : List ℕ) (now : Moment) (row : NodeRow) (rows : Rows) → Small rows → FitsNode row
    → Fit (plan_remove p checks name now row rows)
remove_fits p checks name now row rows all fits =
    checked (row_name_checks name row) _
    (remove_link_fits p checks now row (link_at rows row.node name) rows all (link_small rows row.node name all) fits)

-- ---- RENAME and RENAME2

dirs_fit : (r : Renaming) (from to : NodeRow) (moves comes lost : Bool) → FitsNode from → FitsNode to → FitColumns (dirs_changes r from to moves comes lost)
dirs_fit r from to moves comes lost one two = step (from.node == r.new_dir)
  where
    after : (leaves enters : Bool) → FitsNode from → FitsNode (dir_row r.now leaves enters from)
    after leaves enters fits = record { node = fits.node; up = fits.up; size = fits.size; written = fits.written }

    step : (b : Bool)
        → FitColumns (cond b (changes.Node (dir_row r.now lost comes from) ∷ [])
        (changes.Node (dir_row r.now moves comes from) ∷ changes.Node (dir_row r.now lost moves to) ∷ []))
    step true = (after lost comes one, tt)
    step false = (after moves comes one, (record { node = two.node; up = two.up; size = two.size; written = two.written }, tt))

lost_fit : (now : Moment) (other : Option Link) → FitsFound other → FitColumns (lost_changes now other)
lost_fit now None there = tt
lost_fit now (Some other) there = (there.cookie, (record { node = there.child.node; up = omega arith; size = there.child.size; written = there.child.written }, tt))

moved_fits : (r : Renaming) (counters : CountersRow) (from to : NodeRow) (source : Link) (other : Option Link) → SmallCounters counters → FitsNode from
    → FitsNode to → r.new_dir < 2 ^ 63 → FitsLink source → FitsFound other
    → FitColumns (rename_changes r counters from to source other)
moved_fits r counters from to source other few one two dir there given =
    let cookie : counters.next_cookie + 1 < 2 ^ 63 = omega (arith, few.next_cookie) in
    let dirs = dirs_fit r from to (is_dir_link source) false (is_dir_other other) one two in
    joined _ _ (joined (lost_changes r.now other) _ (lost_fit r.now other given) (there.cookie, dirs)) (
      record { node = there.child.node; up = dir; size = there.child.size; written = there.child.written },
      (
        record { dir = dir; child = there.child.node; cookie = omega arith },
        (
          record {
            next_node = omega (arith, few.next_node);
            next_fh = omega (arith, few.next_fh);
            next_cookie = cookie;
            nodes = omega (arith, few.nodes);
            handles = omega (arith, few.handles);
            room = few.room;
          },
          tt,
        ),
      ),
    )

exchanged_fits : (r : Renaming) (counters : CountersRow) (from to : NodeRow) (source other : Link) → SmallCounters counters → FitsNode from → FitsNode to
    → r.new_dir < 2 ^ 63 → FitsLink source → FitsLink other
    → FitColumns (exchange_changes r counters from to source other)
exchanged_fits r counters from to source other few one two dir there given =
    let cookie : counters.next_cookie + 2 < 2 ^ 63 = omega (arith, few.next_cookie) in (
      there.cookie,
      (
        given.cookie,
        (
          record { node = given.child.node; up = one.node; size = given.child.size; written = given.child.written },
          joined (dirs_changes r from to (is_dir_link source) (is_dir_link other) (is_dir_link other)) _
              (dirs_fit r from to (is_dir_link source) (is_dir_link other) (is_dir_link other) one two) (
                record { node = there.child.node; up = dir; size = there.child.size; written = there.child.written },
                (
                  record { dir = one.node; child = given.child.node; cookie = omega arith },
                  (
                    record { dir = dir; child = there.child.node; cookie = omega arith },
                    (
                      record {
                        next_node = omega (arith, few.next_node);
                        next_fh = omega (arith, few.next_fh);
                        next_cookie = cookie;
                        nodes = omega (arith, few.nodes);
                        handles = omega (arith, few.handles);
                        room = few.room;
                      },
                      tt,
                    ),
                  ),
                ),
              ),
        ),
      ),
    )

with_lost_fits : (counters : CountersRow) (other : Option Link) (rows : Rows) (before : List Change) → SmallCounters counters → FitsFound other
    → FitColumns before → FitColumns (with_lost counters other rows before)
with_lost_fits counters None rows before few given so = so
with_lost_fits counters (Some other) rows before few given so =
    with_removal_fits (goes_unnamed (profile_for counters.room) other.child.node rows) other.child (record counters { next_cookie = counters.next_cookie + 1 })
    before given.child.node
    (record {
      next_node = omega (arith, few.next_node);
      next_fh = omega (arith, few.next_fh);
      next_cookie = omega (arith, few.next_cookie);
      nodes = omega (arith, few.nodes);
      handles = omega (arith, few.handles);
      room = few.room;
    }) so

link_fits : (r : Renaming) (from to : NodeRow) (source : Link) (other : Option Link) (rows : Rows) → Small rows → FitsNode from → FitsNode to
    → r.new_dir < 2 ^ 63 → FitsLink source → FitsFound other
    → Fit (plan_rename_link r from to source other rows)
link_fits r from to source other rows all one two dir there given =
    past (is_same_link source other) _ _ refl
    (λ _. past (row_holds rows source.child from.node r.new_dir) _ _ refl
    (λ _. unless (link_fault rows source other) _
    (λ _. past (nat_le number_end rows.counters.next_cookie) _ _ refl
    (λ _. record {
      columns =
          with_lost_fits rows.counters other rows (rename_changes r rows.counters from to source other) all.counters given
          (moved_fits r rows.counters from to source other all.counters one two dir there given);
    }))))

exchange_fits : (r : Renaming) (from to : NodeRow) (source : Link) (other : Option Link) (rows : Rows) → Small rows → FitsNode from → FitsNode to
    → r.new_dir < 2 ^ 63 → FitsLink source → FitsFound other
    → Fit (plan_exchange_link r from to source other rows)
exchange_fits r from to source None rows all one two dir there given = nothing _ refl
exchange_fits r from to source (Some other) rows all one two dir there given =
    past (source.cookie == other.cookie) _ _ refl
    (λ _. past (row_holds rows source.child from.node r.new_dir || row_holds rows other.child r.new_dir from.node) _ _ refl
    (λ _. past (nat_lt (number_end - 2) rows.counters.next_cookie) _ _ refl
    (λ _. record { columns = exchanged_fits r rows.counters from to source other all.counters one two dir there given })))

chosen : (b : Bool) (p q : Planned) → Fit p → Fit q → Fit (cond b p q)
chosen true p q one two = one
chosen false p q one two = two

either_found : (b : Bool) (o p : Option Link) → FitsFound o → FitsFound p → FitsFound (cond b o p)
either_found true o p one two = one
either_found false o p one two = two

from_fits : (r : Renaming) (from to : NodeRow) (o : Option Link) (rows : Rows) → Small rows → FitsNode from → FitsNode to → r.new_dir < 2 ^ 63 → FitsFound o
    → Fit (plan_rename_from r from to o rows)
from_fits r from to None rows all one two dir there = nothing _ refl
from_fits r from to (Some source) rows all one two dir there =
    let other = other_at r from.node source rows in
    let given =
    either_found ((from.node == r.new_dir) && pointwise nat_eq r.old_name r.new_name) (Some source) (link_at rows r.new_dir r.new_name) there
    (link_small rows r.new_dir r.new_name all) in
    chosen (is_exchange r.mode) _ _ (exchange_fits r from to source other rows all one two dir there given)
    (past (is_no_replace r.mode && is_some other) _ _ refl (λ _. link_fits r from to source other rows all one two dir there given))

new_dir_small : (new_dir : ℕ) (from to : NodeRow) (rows : Rows) → Small rows → FitsNode from → new_dir_at new_dir from rows ≡ Some to
    → FitsNode to × (to.node ≡ new_dir)
new_dir_small new_dir from to rows all one is =
    elim (cond_found (eqb from.node new_dir) from to (row_at rows new_dir) is) [
      | inl h ↦ subst (λ (row : NodeRow). FitsNode row × (row.node ≡ new_dir)) h.1 (one, eqb-true from.node new_dir h.0)
      | inr h ↦ found_small rows new_dir to all h.1
    ]

between_fits : (r : Renaming) (from : NodeRow) (o : Option NodeRow) (rows : Rows) → Small rows → FitsNode from → new_dir_at r.new_dir from rows ≡ o
    → Fit (plan_rename_between r from o rows)
between_fits r from None rows all one is = nothing _ refl
between_fits r from (Some to) rows all one is =
    let p = new_dir_small r.new_dir from to rows all one is in
    unless (asked_fault r (is_dir from.mode && is_dir to.mode) (row_is_named from && row_is_named to)) _
    (λ _. from_fits r from to (link_at rows from.node r.old_name) rows all one p.0 (omega (arith, p.0.node, p.1)) (link_small rows from.node r.old_name all))

rename_fits : (r : Renaming) (from : NodeRow) (rows : Rows) → Small rows → FitsNode from → Fit (plan_rename r from rows)
rename_fits r from rows all one = between_fits r from (new_dir_at r.new_dir from rows) rows all one refl

-- ---- all requests

act_fits : (g : Agreement) (header : InHeader) (a : Act) (now : Moment) (row : NodeRow) (rows : Rows) → Small rows → FitsNode row
    → how_many row.written ≤ block_limit → Fit (plan_act g header a now row rows)
act_fits g header (acts.Lookup name) now row rows all fits few = lookup_fits g name row rows
act_fits g header (acts.Getattr flags fh) now row rows all fits few = nothing _ refl
act_fits g header (acts.Setattr set) now row rows all fits few = setattr_fits g set now row rows all fits
act_fits g header (acts.Mkdir mode umask name) now row rows all fits few = mkdir_fits g (asked_node (asker header now) mode 0) name row rows all fits
act_fits g header (acts.Mknod mode rdev umask name) now row rows all fits few = mknod_fits g (asked_node (asker header now) mode rdev) name row rows all fits
act_fits g header (acts.Unlink name) now row rows all fits few = remove_fits g.profile row_unlink_checks name now row rows all fits
act_fits g header (acts.Rmdir name) now row rows all fits few = remove_fits g.profile (row_rmdir_checks rows) name now row rows all fits
act_fits g header (acts.OpenFile flags open_flags) now row rows all fits few = open_fits (terms g.profile).open_flags flags row rows all fits
act_fits g header (acts.Read asked) now row rows all fits few = read_fits asked row rows
act_fits g header (acts.Write fh offset write_flags lock_owner flags payload) now row rows all fits few = write_fits g.profile fh (record { offset = offset; payload = payload; now = now }) row rows all fits few
act_fits g header (acts.OpenDir flags open_flags) now row rows all fits few = open_dir_fits row rows all fits
act_fits g header (acts.ReadDir x) now row rows all fits few = read_dir_fits x row rows
act_fits g header (acts.Release x) now row rows all fits few = close_fits x.fh (not_for_dirs row.mode) row rows all fits
act_fits g header (acts.ReleaseDir x) now row rows all fits few = close_fits x.fh (for_dirs_alone row.mode) row rows all fits
act_fits g header (acts.Rename new_dir old_name new_name) now row rows all fits few = rename_fits (asking new_dir 0 old_name new_name now) row rows all fits
act_fits g header (acts.Rename2 new_dir flags old_name new_name) now row rows all fits few =
    rename_fits (asking new_dir flags old_name new_name now) row rows all fits
act_fits g header (acts.Further opcode body) now row rows all fits few = further_fits g (asker header now) opcode body row rows all fits
act_fits g header _ now row rows all fits few = nothing _ refl

at_fits : (g : Agreement) (request : Asked) (now : Moment) (o : Option NodeRow) (rows : Rows) → Small rows → row_at rows request.header.nodeid ≡ o
    → Fit (plan_at g request now o rows)
at_fits g request now None rows all is = nothing _ refl
at_fits g request now (Some row) rows all is =
    act_fits g request.header request.act now row rows all (found_small rows request.header.nodeid row all is).0
    (found_few rows request.header.nodeid row (full_at rows request.header.nodeid) all refl is)

-- what is agreed on is of the bits that the server takes
abbrev FitsAgreed : Negotiated → Type 0
FitsAgreed (Agreed out settings) = settings.flags.0 < 2 ^ 63
FitsAgreed (Again out) = Unit {0}
FitsAgreed (Refused errno) = Unit {0}

either : (b : Bool) (m n : Negotiated) → FitsAgreed m → FitsAgreed n → FitsAgreed (cond b m n)
either true m n one two = one
either false m n one two = two

wanted_few : (p : Profile) → (terms p).wanted < 2 ^ 63
wanted_few Plain = ltb-true plain.wanted (2 ^ 63) refl
wanted_few Everyday = ltb-true everyday.wanted (2 ^ 63) refl

agree_fits : (p : Profile) (offer : InitIn) → FitsAgreed (agree p offer)
agree_fits p offer =
    either (is_older offer) _ _ tt
    (either (nat_lt kernel_version offer.major) _ _ tt (omega (arith, wanted_few p, and_le_r (offered offer.flags offer.flags2) (terms p).wanted)))

init_fits : (negotiated : Negotiated) → FitsAgreed negotiated → Fit (plan_init negotiated)
init_fits (Agreed out settings) fits = record { columns = (fits, tt) }
init_fits (Again out) fits = nothing _ refl
init_fits (Refused errno) fits = nothing _ refl

offered_fits : (request : Asked) (now : Moment) (offer : Option InitIn) (rows : Rows) → Small rows → Fit (plan_offered request now offer rows)
offered_fits request now (Some offer) rows all = init_fits (agree (agreement_at rows).profile offer) (agree_fits (agreement_at rows).profile offer)
offered_fits request now None rows all =
    chosen (is_some rows.settings) _ _
    (chosen (names_node request.act) _ _ (at_fits (agreement_at rows) request now (row_at rows request.header.nodeid) rows all refl) (nothing _ refl)) (nothing _ refl)

pub plan_fits : (s : State) (request : Asked) (now : Moment) → Shape s → FitColumns (plan_of request now (rows_of_state s)).changes
plan_fits s request now tree = (offered_fits request now (offer_of request.act) (rows_of_state s) (small s tree)).columns

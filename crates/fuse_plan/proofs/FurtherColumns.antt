-- The changes of the plans of further opcodes over the rows of a tree fit a table.
use Rattle.std.proofs.Common.{◌≡◌, ◌≤◌, ◌<◌, ◌+◌, ◌==◌, ◌^◌, ℕ, true, not, List, length, Option, Some, None, is_some, refl, arith}
use Rattle.std.specs.Prelude.{nat_lt}
use Rattle.std.proofs.lemmas.Bool.{ltb-false}
use Rattle.fuse_wire.specs.declared.access_mode.AccessMode.{AccessMode}
use Rattle.fuse_wire.specs.Errnos.{enoent, enametoolong}
use Rattle.fuse_wire.specs.Flags.{access_of}
use Rattle.fuse_rows.specs.declared.origin.Origin.{Origin}
use Rattle.fuse_request.specs.FurtherBodies.{FurtherContent, Readlink, Statfs, Fsync, FsyncDir, Symlink, Create, ReadDirPlus, further_fault, further_content_at}
use Rattle.fuse_init.specs.Profile.{terms}
use Rattle.fuse_request.specs.declared.request.ReadIn.{ReadIn}
use Rattle.fuse_answer.specs.PlusEntries.{plus_len}
use Rattle.fuse_rows.specs.Bounds.{target_limit}
use Rattle.fuse_tree.specs.Listing.{first_fits_by}
use Rattle.fuse_plan.specs.inner.PlanPlus.{plus_after, plan_read_dir_plus}
use Rattle.fuse_tree.specs.declared.new_node.NewNode.{NewNode}
use Rattle.fuse_tree.specs.declared.agreement.Agreement.{Agreement}
use Rattle.fuse_rows.specs.declared.rows.Counters.{Counters as CountersRow}
use Rattle.fuse_rows.specs.declared.rows.NodeRow.{NodeRow}
use Rattle.fuse_tree.specs.State.{is_link}
use Rattle.fuse_rows.specs.Rows.{Rows}
use Rattle.fuse_tree.specs.Space.{has_room}
use Rattle.fuse_tree.specs.Handles.{is_open}
use Rattle.fuse_tree.specs.Keeping.{valid_of}
use Rattle.fuse_tree.specs.Making.{asked_node}
use Rattle.fuse_tree.specs.Opening.{open_fault}
use Rattle.fuse_tree.specs.Symlinking.{target_tests}
use Rattle.fuse_tree.specs.Checks.{error_in}
use Rattle.fuse_rows.specs.Columns.{FitsNode}
use Rattle.fuse_plan.specs.inner.PlanSymlinking.{plan_new_link, row_symlink_checks, plan_symlink}
use Rattle.fuse_plan.specs.inner.PlanMaking.{row_mkdir_checks}
use Rattle.fuse_plan.specs.inner.PlanListing.{row_list_checks}
use Rattle.fuse_plan.specs.inner.PlanCreating.{plan_created, plan_create_for, plan_create}
use Rattle.fuse_plan.specs.inner.PlanFurther.{plan_content, plan_further}
use Rattle.fuse_plan.proofs.Fit.{no_fault}
use Rattle.fuse_plan.proofs.SizesFit.{isnt_not, more_room}
use Rattle.fuse_plan.proofs.SmallRows.{counted_small, SmallCounters, Small, Fit, nothing, past, unless, checked, checked_then}

new_link_fits : (valid : ℕ) (counters : CountersRow) (fresh : NewNode) (target name : List ℕ) (row : NodeRow) → SmallCounters counters → FitsNode row
    → length target ≤ target_limit → has_room counters.room 1 ≡ true → Fit (plan_new_link valid counters fresh target name row)
new_link_fits valid counters fresh target name row few fits short left =
    let node : counters.next_node + 1 < 2 ^ 63 = omega (arith, few.next_node) in
    let cookie : counters.next_cookie + 1 < 2 ^ 63 = omega (arith, few.next_cookie) in
    record {
      columns = (
        record { node = fits.node; up = fits.up; size = fits.size; written = fits.written },
        (
          record { node = omega arith; up = fits.node; size = omega (arith, short); written = counted_small 1 counters.room (omega arith) },
          (
            record { dir = fits.node; child = omega arith; cookie = omega arith },
            (
              (omega arith, omega (arith, short)),
              (
                record {
                  next_node = node;
                  next_fh = omega (arith, few.next_fh);
                  next_cookie = cookie;
                  nodes = omega (arith, few.nodes);
                  handles = omega (arith, few.handles);
                  room = more_room counters.room 1 few.room left;
                },
                tt,
              ),
            ),
          ),
        ),
      );
    }

target_short : (target : List ℕ) → error_in (target_tests target) ≡ None → length target ≤ target_limit
target_short target none = ltb-false target_limit (length target) (no_fault (length target == 0) (nat_lt target_limit (length target)) enoent enametoolong none).1

symlink_fits : (g : Agreement) (from : Origin) (target name : List ℕ) (row : NodeRow) (rows : Rows) → Small rows → FitsNode row
    → Fit (plan_symlink g from target name row rows)
symlink_fits g from target name row rows all fits =
    checked_then (row_symlink_checks g target name row rows) _ (λ _ _ short _ _ _ left.
    new_link_fits _ rows.counters _ target name row all.counters fits (target_short target short) (isnt_not _ left))

created_fits : (g : Agreement) (counters : CountersRow) (fresh : NewNode) (name : List ℕ) (access : AccessMode) (row : NodeRow) → SmallCounters counters
    → FitsNode row → Fit (plan_created g counters fresh name access row)
created_fits g counters fresh name access row few fits =
    let node : counters.next_node + 1 < 2 ^ 63 = omega (arith, few.next_node) in
    let fh : counters.next_fh + 1 < 2 ^ 63 = omega (arith, few.next_fh) in
    let cookie : counters.next_cookie + 1 < 2 ^ 63 = omega (arith, few.next_cookie) in
    record {
      columns = (
        record { node = fits.node; up = fits.up; size = fits.size; written = fits.written },
        (
          record { node = omega arith; up = fits.node; size = omega arith; written = counted_small 0 counters.room (omega arith) },
          (
            record { dir = fits.node; child = omega arith; cookie = omega arith },
            (
              record { fh = omega arith; node = omega arith },
              (
                record {
                  next_node = node;
                  next_fh = fh;
                  next_cookie = cookie;
                  nodes = omega (arith, few.nodes);
                  handles = omega (arith, few.handles);
                  room = few.room;
                },
                tt,
              ),
            ),
          ),
        ),
      );
    }

create_for_fits : (g : Agreement) (fresh : NewNode) (name : List ℕ) (o : Option AccessMode) (row : NodeRow) (rows : Rows) → Small rows → FitsNode row
    → Fit (plan_create_for g fresh name o row rows)
create_for_fits g fresh name None row rows all fits = nothing _ refl
create_for_fits g fresh name (Some access) row rows all fits =
    unless (open_fault rows.counters.handles rows.counters.next_fh) _ (λ _. created_fits g rows.counters fresh name access row all.counters fits)

create_fits : (g : Agreement) (asked : NewNode) (flags : ℕ) (name : List ℕ) (row : NodeRow) (rows : Rows) → Small rows → FitsNode row
    → Fit (plan_create g asked flags name row rows)
create_fits g asked flags name row rows all fits =
    checked (row_mkdir_checks g name row rows) _ (create_for_fits g _ name (access_of flags) row rows all fits)

read_dir_plus_fits : (valid : ℕ) (asked : ReadIn) (row : NodeRow) (rows : Rows) → Fit (plan_read_dir_plus valid asked row rows)
read_dir_plus_fits valid asked row rows =
    checked (row_list_checks asked row rows) _
    (past (not (first_fits_by plus_len (plus_after valid asked.offset asked.size row rows) asked.size)) _ _ refl (λ _. nothing _ refl))

content_fits : (g : Agreement) (from : Origin) (o : Option FurtherContent) (row : NodeRow) (rows : Rows) → Small rows → FitsNode row
    → Fit (plan_content g from o row rows)
content_fits g from (Some Readlink) row rows all fits = past (not (is_link row.mode)) _ _ refl (λ _. nothing _ refl)
content_fits g from (Some Statfs) row rows all fits = nothing _ refl
content_fits g from (Some (Fsync fh fsync_flags)) row rows all fits = past (not (is_open rows.handles fh row.node)) _ _ refl (λ _. nothing _ refl)
content_fits g from (Some (FsyncDir fh fsync_flags)) row rows all fits = past (not (is_open rows.handles fh row.node)) _ _ refl (λ _. nothing _ refl)
content_fits g from (Some (Symlink name target)) row rows all fits = symlink_fits g from target name row rows all fits
content_fits g from (Some (Create flags mode umask open_flags name)) row rows all fits = create_fits g (asked_node from mode 0) flags name row rows all fits
content_fits g from (Some (ReadDirPlus x)) row rows all fits = read_dir_plus_fits (valid_of g) x row rows
content_fits g from _ row rows all fits = nothing _ refl

pub further_fits : (g : Agreement) (from : Origin) (opcode : ℕ) (body : List ℕ) (row : NodeRow) (rows : Rows) → Small rows → FitsNode row
    → Fit (plan_further g from opcode body row rows)
further_fits g from opcode body row rows all fits =
    past (not ((terms g.profile).further opcode)) _ _ refl
    (λ _. past (is_some (further_fault opcode body)) _ _ refl (λ _. content_fits g from (further_content_at opcode body) row rows all fits))

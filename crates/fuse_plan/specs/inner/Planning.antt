-- `plan` over the rows (defined by this project), in the order of its checks.
-- Not part of what is trusted: neither `done` nor the public clauses of `plan` speak of it.
use Rattle.std.specs.Prelude.{ℕ, Bool, true, false, if◌then◌else◌, List, [], Option, Some, None, is_some}
use Rattle.fuse_wire.specs.Errnos.{enoent, enosys, eproto, estale}
use Rattle.fuse_wire.specs.declared.moment.Moment.{Moment}
use Rattle.fuse_request.specs.declared.request.InHeader.{InHeader}
use Rattle.fuse_request.specs.declared.request.InitIn.{InitIn}
use Rattle.fuse_request.specs.Act.{Act, Asked}
use Rattle.fuse_request.specs.Act as acts
use Rattle.fuse_answer.specs.Bodies.{entry_bytes}
use Rattle.fuse_init.specs.Agree.{agree}
use Rattle.fuse_init.specs.Profile.{terms}
use Rattle.fuse_rows.specs.declared.rows.NodeRow.{NodeRow}
use Rattle.fuse_plan.specs.declared.planned.Planned.{Planned}
use Rattle.fuse_tree.specs.declared.agreement.Agreement.{Agreement}
use Rattle.fuse_rows.specs.Rows.{Rows, row_at}
use Rattle.fuse_tree.specs.Keeping.{agreement_at, keeps, valid_of, absent_entry}
use Rattle.fuse_tree.specs.Do.{names_node, offer_of}
use Rattle.fuse_tree.specs.Making.{asker, asked_node}
use Rattle.fuse_plan.specs.inner.Reading.{refused, refused_by, row_name_checks, told, entry_body, attr_body, child_at}
use Rattle.fuse_plan.specs.inner.PlanMaking.{plan_mkdir, plan_mknod}
use Rattle.fuse_plan.specs.inner.PlanSetting.{plan_setattr}
use Rattle.fuse_plan.specs.inner.PlanWriting.{plan_write, plan_read}
use Rattle.fuse_plan.specs.inner.PlanInit.{plan_init}
use Rattle.fuse_plan.specs.inner.PlanListing.{plan_read_dir}
use Rattle.fuse_plan.specs.inner.PlanOpening.{plan_open, plan_open_dir, plan_release, plan_release_dir}
use Rattle.fuse_tree.specs.Renaming.{asking}
use Rattle.fuse_plan.specs.inner.PlanRemoving.{plan_unlink, plan_rmdir}
use Rattle.fuse_plan.specs.inner.PlanRenaming.{plan_rename}
use Rattle.fuse_plan.specs.inner.PlanFurther.{plan_further}

-- ---- LOOKUP

abbrev pub plan_absent : Agreement → Planned
plan_absent a = if keeps a then told (entry_bytes absent_entry) else refused enoent

abbrev pub plan_child : Agreement → Option NodeRow → Planned
plan_child a None = plan_absent a
plan_child a (Some child) = told (entry_body (valid_of a) child)

abbrev pub plan_lookup : Agreement → List ℕ → NodeRow → Rows → Planned
plan_lookup a name row rows = refused_by (row_name_checks name row) (plan_child a (child_at rows row.node name))

-- ---- all requests

-- the request is of names in the node that its header names
abbrev pub tells_name : Act → Bool
tells_name (acts.Lookup name) = true
tells_name (acts.Mkdir mode umask name) = true
tells_name (acts.Mknod mode rdev umask name) = true
tells_name (acts.Unlink name) = true
tells_name (acts.Rmdir name) = true
tells_name (acts.Rename new_dir old_name new_name) = true
tells_name (acts.Rename2 new_dir flags old_name new_name) = true
tells_name _ = false

-- the operation, at the node of the header; the last line is of requests that aren't performed here
abbrev pub plan_act : Agreement → InHeader → Act → Moment → NodeRow → Rows → Planned
plan_act a header (acts.Lookup name) now row rows = plan_lookup a name row rows
plan_act a header (acts.Getattr flags fh) now row rows = told (attr_body (valid_of a) row)
plan_act a header (acts.Setattr set) now row rows = plan_setattr a set now row rows
plan_act a header (acts.Mkdir mode umask name) now row rows = plan_mkdir a (asked_node (asker header now) mode 0) name row rows
plan_act a header (acts.Mknod mode rdev umask name) now row rows = plan_mknod a (asked_node (asker header now) mode rdev) name row rows
plan_act a header (acts.Unlink name) now row rows = plan_unlink a.profile name now row rows
plan_act a header (acts.Rmdir name) now row rows = plan_rmdir a.profile name now row rows
plan_act a header (acts.OpenFile flags open_flags) now row rows = plan_open (terms a.profile).open_flags flags row rows
plan_act a header (acts.Read asked) now row rows = plan_read asked row rows
plan_act a header (acts.Write fh offset write_flags lock_owner flags payload) now row rows = plan_write a.profile fh (record { offset = offset; payload = payload; now = now }) row rows
plan_act a header (acts.OpenDir flags open_flags) now row rows = plan_open_dir row rows
plan_act a header (acts.ReadDir x) now row rows = plan_read_dir x row rows
plan_act a header (acts.Release x) now row rows = plan_release x.fh row rows
plan_act a header (acts.ReleaseDir x) now row rows = plan_release_dir x.fh row rows
plan_act a header (acts.Rename new_dir old_name new_name) now row rows = plan_rename (asking new_dir 0 old_name new_name now) row rows
plan_act a header (acts.Rename2 new_dir flags old_name new_name) now row rows = plan_rename (asking new_dir flags old_name new_name now) row rows
plan_act a header (acts.Further opcode body) now row rows = plan_further a (asker header now) opcode body row rows
plan_act a header _ now row rows = refused enosys

abbrev pub plan_at : Agreement → Asked → Moment → Option NodeRow → Rows → Planned
plan_at a request now None rows = refused estale
plan_at a request now (Some row) rows = plan_act a request.header request.act now row rows

-- where settings are agreed on
abbrev pub plan_agreed : Agreement → Asked → Moment → Rows → Planned
plan_agreed a request now rows = if names_node request.act then plan_at a request now (row_at rows request.header.nodeid) rows else told []

abbrev pub plan_offered : Asked → Moment → Option InitIn → Rows → Planned
plan_offered request now (Some offer) rows = plan_init (agree (agreement_at rows).profile offer)
plan_offered request now None rows = if is_some rows.settings then plan_agreed (agreement_at rows) request now rows else refused eproto

abbrev pub plan_of : Asked → Moment → Rows → Planned
plan_of request now rows = plan_offered request now (offer_of request.act) rows

-- The parts of `plan` over the rows (defined by this project): shared by the plans of the operations.
-- Not part of what is trusted: neither `done` nor the public clauses of `plan` speak of it.
use Rattle.std.specs.Prelude.{◌≡◌, ◌≤◌, ◌+◌, ◌&&◌, ℕ, Bool, not, nat_le, if◌then◌else◌, List, [], ◌∷◌, Option, Some, None, Result, IfOk, IfErr, OnErr, ◌≢◌}
use Rattle.fuse_wire.specs.declared.errno.Errno.{Errno}
use Rattle.fuse_wire.specs.Errnos.{enoent, enotdir}
use Rattle.fuse_init.specs.declared.profile.Profile.{Profile}
use Rattle.fuse_init.specs.Profile.{terms}
use Rattle.fuse_answer.specs.Bodies.{entry_bytes, attr_out_bytes}
use Rattle.fuse_answer.specs.declared.records.Attr.{Attr}
use Rattle.fuse_rows.specs.Bounds.{node_limit, file_limit, block_limit, block_bytes}
use Rattle.fuse_rows.specs.Blocks.{how_many}
use Rattle.fuse_tree.specs.declared.look.LookFault.{LookFault}
use Rattle.fuse_plan.specs.declared.planning.fault.PlanFault.{PlanFault}
use Rattle.fuse_plan.specs.declared.planning.fault.PlanFault.TheVariants as faults
use Rattle.fuse_rows.specs.declared.rows.NodeRow.{NodeRow}
use Rattle.fuse_rows.specs.declared.rows.EntryRow.{EntryRow}
use Rattle.fuse_plan.specs.declared.planned.Planned.{Planned}
use Rattle.fuse_tree.specs.Checks.{Check, Where, Part, first_error}
use Rattle.fuse_tree.specs.State.{is_dir, name_tests}
use Rattle.fuse_rows.specs.Rows.{Rows, row_is_named, row_at, entry_at}
use Rattle.fuse_tree.specs.Rowed.{IsRowed}
use Rattle.fuse_plan.specs.Plan.{look_fault}
use Rattle.fuse_tree.specs.Done.{sectors_for, entry_out_of, attr_out_of}

-- ---- the answers of the parts

-- where it is answered, it is this, and the rows are not said to be those of no tree
abbrev pub IsReported : {X : Type 0} → Result X PlanFault → X → Type 0
IsReported result told = IfOk result (λ x. x ≡ told) × IfErr result (λ fault. fault ≢ faults.NotATree)

-- where no look failed and no answer was wrong, over the rows of a tree it is read off them
abbrev pub IsReadOff : {X : Type 0} → Type 0 → (Rows → Type 0) → Result X PlanFault → (Rows → X) → Type 0
IsReadOff clean sees result told = look_fault result ≡ None → clean → (rows : Rows) → IsRowed rows → sees rows → IsReported result (told rows)

-- nothing but looks lie between the two, and the fault of the last is the one that is answered
pub record LookedOrFailed {S X : Type 0} (fault_of : S → Option LookFault) (looking failing : S → S → Type 0) (old new : S) (result : Result X PlanFault) : Type 0 where
  pub fault : fault_of new ≡ look_fault result
  pub looks : look_fault result ≡ None → looking old new
  pub fails : OnErr result (failing old new)

-- the relations of a `Look`
pub record View (S : Type 0) : Type 1 where
  pub is_clean : S → Type 0
  pub sees : S → Rows → Type 0
  pub fault_of : S → Option LookFault
  pub looking : S → S → Type 0
  pub failing : S → S → Type 0

abbrev pub view : {S : Type 0} → (S → Type 0) → (S → Rows → Type 0) → (S → Option LookFault) → (S → S → Type 0) → (S → S → Type 0) → View S
view is_clean sees fault_of looking failing = record { is_clean = is_clean; sees = sees; fault_of = fault_of; looking = looking; failing = failing }

-- the answer is read off the rows that the old one sees, and nothing but looks lie between the two
pub record LooksUp {S X : Type 0} (v : View S) (old new : S) (result : Result X PlanFault) (told : Rows → X) : Type 0 where
  pub reads : IsReadOff (v.is_clean new) (v.sees old) result told
  pub fault : v.fault_of new ≡ look_fault result
  pub looks : look_fault result ≡ None → v.looking old new
  pub fails : OnErr result (v.failing old new)

-- the row is within the bounds of this profile
abbrev pub is_within : Profile → NodeRow → Bool
is_within p row = nat_le row.size (terms p).file_limit && (nat_le row.subdirs (terms p).node_limit && nat_le (how_many row.written) block_limit)

-- a row within the bounds of every profile
pub record IsWithin (row : NodeRow) : Type 0 where
  pub size : row.size ≤ file_limit
  pub subdirs : row.subdirs ≤ node_limit
  pub written : how_many row.written ≤ block_limit

-- ---- answers

abbrev pub refused : Errno → Planned
refused errno = record { answer = record { errno = errno.0; body = [] }; changes = [] }

-- a refusal where there is a fault, and else the plan
abbrev pub refused_for : Option Errno → Planned → Planned
refused_for (Some errno) p = refused errno
refused_for None p = p

-- these checks in this order, and else the plan
abbrev pub refused_by : List Check → Planned → Planned
refused_by checks p = refused_for (first_error checks) p

-- the checks on a name in the directory of this row
abbrev pub row_name_checks : List ℕ → NodeRow → List Check
row_name_checks name row = Where enotdir (not (is_dir row.mode)) ∷ Part (name_tests name) ∷ Where enoent (not (row_is_named row)) ∷ []

abbrev pub told : List ℕ → Planned
told body = record { answer = record { errno = 0; body = body }; changes = [] }

-- ---- the content of a row

abbrev pub row_links : NodeRow → ℕ
row_links row =
    if not (row_is_named row) then 0
    else if is_dir row.mode then 2 + row.subdirs
    else 1

abbrev pub row_attr : NodeRow → Attr
row_attr row = record {
  ino = row.node;
  size = row.size;
  blocks = sectors_for row.written row.size;
  atime = row.atime.secs;
  mtime = row.mtime.secs;
  ctime = row.ctime.secs;
  atimensec = row.atime.nanos;
  mtimensec = row.mtime.nanos;
  ctimensec = row.ctime.nanos;
  mode = row.mode;
  nlink = row_links row;
  uid = row.uid;
  gid = row.gid;
  rdev = row.rdev;
  blksize = block_bytes;
  flags = 0;
}

abbrev pub entry_body : ℕ → NodeRow → List ℕ
entry_body valid row = entry_bytes (entry_out_of valid (row_attr row))

abbrev pub attr_body : ℕ → NodeRow → List ℕ
attr_body valid row = attr_out_bytes (attr_out_of valid (row_attr row))

-- ---- the child of an entry

abbrev pub child_of : Rows → Option EntryRow → Option NodeRow
child_of rows None = None
child_of rows (Some e) = row_at rows e.child

-- the row of the node under this name in the directory
abbrev pub child_at : Rows → ℕ → List ℕ → Option NodeRow
child_at rows dir name = child_of rows (entry_at rows.entries dir name)

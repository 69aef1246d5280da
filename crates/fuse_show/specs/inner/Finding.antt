-- The parts of a lookup (defined by this project).
use Rattle.std.specs.Prelude.{◌≡◌, List, ℕ, Bool, true, false, Some, Result, Ok, Err, ◌≢◌, All}
use Rattle.fuse_rows.specs.Rows.{Rows, row_at}
use Rattle.fuse_show.specs.declared.fault.ShowFault.{ShowFault}
use Rattle.fuse_show.specs.declared.fault.ShowFault.TheVariants.{Look, NotATree, NoSuchPath, NotDirectory, NotFile, Output}
use Rattle.fuse_rows.specs.Bounds.{fuse_root_id}
use Rattle.fuse_rows.specs.declared.rows.NodeRow.{NodeRow}
use Rattle.fuse_show.specs.Lookup.{HasNoEntry, IsNoDirectory, LeadsBy}

-- the faults of a lookup
abbrev pub is_of_finding : ShowFault → Bool
is_of_finding (Look f) = true
is_of_finding NotATree = true
is_of_finding NoSuchPath = true
is_of_finding NotDirectory = true
is_of_finding NotFile = false
is_of_finding Output = false

-- the byte is not among these
abbrev pub Lacks : ℕ → List ℕ → Type 0
Lacks b bytes = All (λ x. x ≢ b) bytes

-- the result of following one name from a node
abbrev pub StepsTo : Rows → NodeRow → List ℕ → Result NodeRow ShowFault → Type 0
StepsTo rows from name (Ok to) = LeadsBy rows from name to
StepsTo rows from name (Err (Look f)) = Unit {0}
StepsTo rows from name (Err NotATree) = ⊥
StepsTo rows from name (Err NoSuchPath) = HasNoEntry rows from name
StepsTo rows from name (Err NotDirectory) = IsNoDirectory from name
StepsTo rows from name (Err NotFile) = ⊥
StepsTo rows from name (Err Output) = ⊥

-- the result of looking up the root
abbrev pub IsRoot : Rows → Result NodeRow ShowFault → Type 0
IsRoot rows (Ok row) = row_at rows fuse_root_id ≡ Some row
IsRoot rows (Err (Look f)) = Unit {0}
IsRoot rows (Err NotATree) = ⊥
IsRoot rows (Err NoSuchPath) = ⊥
IsRoot rows (Err NotDirectory) = ⊥
IsRoot rows (Err NotFile) = ⊥
IsRoot rows (Err Output) = ⊥

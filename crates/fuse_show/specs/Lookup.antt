-- The node at a path (defined by this project).
use Rattle.std.specs.Prelude.{◌≡◌, ℕ, true, false, List, [], ◌∷◌, ◌++◌, Some, None, Result, Ok, Err}
use Rattle.fuse_rows.specs.Bounds.{fuse_root_id}
use Rattle.fuse_rows.specs.declared.rows.NodeRow.{NodeRow}
use Rattle.fuse_rows.specs.declared.rows.EntryRow.{EntryRow}
use Rattle.fuse_tree.specs.State.{is_dir}
use Rattle.fuse_rows.specs.Rows.{Rows, row_at, entry_at}
use Rattle.fuse_tree.specs.Rowed.{IsRowed}
use Rattle.fuse_show.specs.declared.fault.ShowFault.{ShowFault}
use Rattle.fuse_show.specs.declared.fault.ShowFault.TheVariants.{Look, NotATree, NoSuchPath, NotDirectory, NotFile, Output}

-- a name leads from a directory to the child of its entry with that name
pub record LeadsBy (rows : Rows) (from : NodeRow) (name : List ℕ) (to : NodeRow) : Type 0 where
  pub entry : EntryRow
  pub dir : is_dir from.mode ≡ true
  pub found : entry_at rows.entries from.node name ≡ Some entry
  pub child : row_at rows entry.child ≡ Some to

-- names lead from a node to another, each from a directory to a child
abbrev pub Lead : Rows → NodeRow → List (List ℕ) → NodeRow → Type 0
Lead rows from [] to = to ≡ from
Lead rows from (name ∷ names) to = (next : NodeRow) × LeadsBy rows from name next × Lead rows next names to

-- names lead from the root to a node
pub record LeadTo (rows : Rows) (names : List (List ℕ)) (to : NodeRow) : Type 0 where
  pub root : NodeRow
  pub is_root : row_at rows fuse_root_id ≡ Some root
  pub lead : Lead rows root names to

-- a prefix of the names leads from the root to a node, and the next name leads nowhere for this reason
pub record Stops (rows : Rows) (names : List (List ℕ)) (Why : NodeRow → List ℕ → Type 0) : Type 0 where
  pub prefix : List (List ℕ)
  pub name : List ℕ
  pub after : List (List ℕ)
  pub parts : names ≡ prefix ++ name ∷ after
  pub last : NodeRow
  pub leads : LeadTo rows prefix last
  pub why : Why last name

-- the node is a directory without an entry of this name
abbrev pub HasNoEntry : Rows → NodeRow → List ℕ → Type 0
HasNoEntry rows last name = (is_dir last.mode ≡ true) × (entry_at rows.entries last.node name ≡ None)

-- the node is no directory
abbrev pub IsNoDirectory : NodeRow → List ℕ → Type 0
IsNoDirectory last name = is_dir last.mode ≡ false

-- the result of following names: the node, or why there is none
abbrev pub Finds : Rows → List (List ℕ) → Result NodeRow ShowFault → Type 0
Finds rows names (Ok row) = LeadTo rows names row
Finds rows names (Err (Look f)) = Unit {0}
Finds rows names (Err NotATree) = ⊥
Finds rows names (Err NoSuchPath) = Stops rows names (HasNoEntry rows)
Finds rows names (Err NotDirectory) = Stops rows names IsNoDirectory
Finds rows names (Err NotFile) = ⊥
Finds rows names (Err Output) = ⊥

-- the result is not the fault of a look
abbrev pub NoLookFault : Result NodeRow ShowFault → Type 0
NoLookFault (Ok row) = Unit {0}
NoLookFault (Err (Look f)) = ⊥
NoLookFault (Err NotATree) = Unit {0}
NoLookFault (Err NoSuchPath) = Unit {0}
NoLookFault (Err NotDirectory) = Unit {0}
NoLookFault (Err NotFile) = Unit {0}
NoLookFault (Err Output) = Unit {0}

-- ---- laws

-- in a tree any names have such a result that is not the fault of a look
abbrev pub FindsSomething : Type 0
FindsSomething = (rows : Rows) (names : List (List ℕ)) → IsRowed rows → (found : Result NodeRow ShowFault) × NoLookFault found × Finds rows names found

-- and only one
abbrev pub FoundOnce : Type 0
FoundOnce = (rows : Rows) (names : List (List ℕ)) (a b : Result NodeRow ShowFault) → NoLookFault a → NoLookFault b → Finds rows names a → Finds rows names b → a ≡ b

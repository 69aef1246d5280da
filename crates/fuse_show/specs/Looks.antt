-- What an operation over a look promises: about the rows that the look sees, its faults, and its output (defined by this project).
use Rattle.std.specs.Prelude.{◌≡◌, Bool, true, false, Option, Some, None, Result, Ok, Err, OnErr}
use Rattle.fuse_tree.specs.declared.look.LookFault.{LookFault}
use Rattle.fuse_rows.specs.Rows.{Rows}
use Rattle.fuse_tree.specs.Rowed.{IsRowed}
use Rattle.fuse_show.specs.declared.fault.ShowFault.{ShowFault}
use Rattle.fuse_show.specs.declared.fault.ShowFault.TheVariants.{Look, NotATree, NoSuchPath, NotDirectory, NotFile, Output}

-- the fault of a look, if the result is one
abbrev pub look_fault_in : {X : Type 0} → Result X ShowFault → Option LookFault
look_fault_in (Ok x) = None
look_fault_in (Err (Look f)) = Some f
look_fault_in (Err NotATree) = None
look_fault_in (Err NoSuchPath) = None
look_fault_in (Err NotDirectory) = None
look_fault_in (Err NotFile) = None
look_fault_in (Err Output) = None

-- writing failed
abbrev pub is_output : ShowFault → Bool
is_output (Look f) = false
is_output NotATree = false
is_output NoSuchPath = false
is_output NotDirectory = false
is_output NotFile = false
is_output Output = true

-- the fault is one of the path
abbrev pub is_of_path : ShowFault → Bool
is_of_path (Look f) = false
is_of_path NotATree = false
is_of_path NoSuchPath = true
is_of_path NotDirectory = true
is_of_path NotFile = true
is_of_path Output = false

-- if the look took no wrong answer and sees the rows of a tree, P holds of them
abbrev pub ReadOff : Type 0 → (Rows → Type 0) → (Rows → Type 0) → Type 0
ReadOff clean sees P = clean → (rows : Rows) → IsRowed rows → sees rows → P rows

-- looks that went well lead from the old state to this one, and at most one more look, which failed, from there to the new one
abbrev pub lies_between : {S : Type 0} → (S → S → Type 0) → (S → S → Type 0) → S → S → S → Type 0
lies_between looking failing old new seen = looking old seen × failing seen new

-- of a state of the look P holds of the rows so; that is the last state, unless the last look failed
pub record ReadUpTo {S : Type 0} (clean looked : S → Type 0) (sees : Rows → Type 0) (new : S) (fault : Option LookFault) (P : Rows → Type 0) : Type 0 where
  pub seen : S
  pub looks : looked seen
  pub last : fault ≡ None → new ≡ seen
  pub so : ReadOff (clean seen) sees P

-- only looks lie between the two states, and the fault of a failed look is the result
pub record OnlyLooked {S X : Type 0} (fault_of : S → Option LookFault) (looking failing : S → S → Type 0) (old new : S)
    (result : Result X ShowFault) : Type 0 where
  pub fault : fault_of new ≡ look_fault_in result
  pub looks : look_fault_in result ≡ None → looking old new
  pub fails : OnErr result (failing old new)

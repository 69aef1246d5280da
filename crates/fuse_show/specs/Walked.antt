-- What a walk over a tree does to its look and to its output (defined by this project).
use Rattle.std.specs.Prelude.{◌≡◌, ◌⊎◌, ⊤, ℕ, List, [], Option, Some, None, Result, OnOk, OnErr, IfErr}
use Rattle.std.specs.declared.io.Error.{Error}
use Rattle.fuse_tree.specs.declared.look.LookFault.{LookFault}
use Rattle.fuse_show.specs.declared.findings.Finding.{Finding}
use Rattle.fuse_show.specs.declared.verify.VerifyFault.{VerifyFault}
use Rattle.fuse_show.specs.declared.verify.VerifyFault.TheVariants.{Look, Wrong, Memory, Output}
use Rattle.fuse_show.specs.Findings.{finding_line, unread_line}
use Rattle.fuse_show.specs.Sinks.{IsPartOf, Way, Flushed, Failed, Left, Outputs}

-- the fault of a walk that a look ended is that of the look
abbrev pub TellsLook : Option LookFault → VerifyFault → Type 0
TellsLook fault (Look f) = fault ≡ Some f
TellsLook fault Wrong = ⊤
TellsLook fault Memory = ⊤
TellsLook fault Output = ⊤

-- only looks lie between the two states, and all went well if the walk did
pub record OnlyWalked {S X : Type 0} (fault_of : S → Option LookFault) (looking failing : S → S → Type 0) (old new : S)
    (result : Result X VerifyFault) : Type 0 where
  pub well : OnOk result (fault_of new ≡ None)
  pub looks : OnOk result (looking old new)
  pub fails : OnErr result (failing old new)
  pub tells : IfErr result (TellsLook (fault_of new))

-- how the output of a walk with this fault ended
abbrev pub way_of_walk : VerifyFault → Way
way_of_walk (Look f) = Flushed
way_of_walk Wrong = Flushed
way_of_walk Memory = Left
way_of_walk Output = Failed

-- a line of what is wrong, or can't be read, at some path
abbrev pub IsFinding : List ℕ → Type 0
IsFinding line = (path : List ℕ) × (f : Finding) × (line ≡ finding_line path f)

abbrev pub IsUnread : List ℕ → Type 0
IsUnread line = (path : List ℕ) × (line ≡ unread_line path)

-- what it wrote: such a line, a part of one where output failed, or nothing
abbrev pub WritesFinding : VerifyFault → List ℕ → Type 0
WritesFinding (Look f) bytes = IsUnread bytes
WritesFinding Wrong bytes = IsFinding bytes
WritesFinding Memory bytes = bytes ≡ []
WritesFinding Output bytes = (line : List ℕ) × (IsFinding line ⊎ IsUnread line) × IsPartOf bytes line

-- the output of a walk with this fault
abbrev pub WalkWrites : {W : Type 0} → (W → W → Result ℕ Error → List ℕ → Type 0) → (W → W → Result (Unit {0}) Error → Type 0) → W → W → VerifyFault → Type 0
WalkWrites written flushed a b fault = Outputs written flushed a b (way_of_walk fault) (WritesFinding fault)

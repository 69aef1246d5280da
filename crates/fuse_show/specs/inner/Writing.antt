-- What parts of an output write (defined by this project).
use Rattle.std.specs.Prelude.{◌≡◌, List, ℕ, Bool, true, false, Option, Result, Ok, Err, ◌++◌}
use Rattle.std.specs.declared.io.Error.{Error}
use Rattle.fuse_show.specs.declared.fault.ShowFault.{ShowFault}
use Rattle.fuse_show.specs.declared.fault.ShowFault.TheVariants.{Look, NotATree, NoSuchPath, NotDirectory, NotFile, Output}
use Rattle.fuse_show.specs.Looks.{is_output}
use Rattle.fuse_show.specs.Sinks.{TookBytes, WriteFails, IsPartOf}

-- the fault cuts a text off: it is one of a look or of the output
abbrev pub cuts_off : ShowFault → Bool
cuts_off (Look f) = true
cuts_off NotATree = false
cuts_off NoSuchPath = false
cuts_off NotDirectory = false
cuts_off NotFile = false
cuts_off Output = true

-- these bytes were written of a text: all, or a part before a look or the output failed
abbrev pub WritesOut : {X : Type 0} → List ℕ → List ℕ → Result X ShowFault → Type 0
WritesOut text bytes (Ok _) = bytes ≡ text
WritesOut text bytes (Err f) = IsPartOf bytes text × (cuts_off f ≡ true)

-- a write failed, or nothing was written
abbrev pub FailsBy : {W : Type 0} → (W → W → Result ℕ Error → List ℕ → Type 0) → W → W → Bool → Type 0
FailsBy written a b true = WriteFails written a b
FailsBy written a b false = b ≡ a

abbrev pub LastWrite : {W X : Type 0} → (W → W → Result ℕ Error → List ℕ → Type 0) → W → W → Result X ShowFault → Type 0
LastWrite written a b (Ok _) = b ≡ a
LastWrite written a b (Err f) = FailsBy written a b (is_output f)

-- bytes of which this is so were taken, by writes that went well, and then a write failed if the output did
pub record PutsOut {W X : Type 0} (written : W → W → Result ℕ Error → List ℕ → Type 0) (a b : W) (result : Result X ShowFault) (P : List ℕ → Type 0) : Type 0 where
  pub bytes : List ℕ
  pub mid : W
  pub takes : TookBytes written a mid bytes
  pub last : LastWrite written mid b result
  pub so : P bytes

-- the permissions of a class of users
abbrev pub class_text : List ℕ → List ℕ → List ℕ → List ℕ
class_text read write run = read ++ (write ++ run)

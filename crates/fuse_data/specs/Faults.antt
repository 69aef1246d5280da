-- What the disk counts of a call of the data file (defined by this project).
use Rattle.std.specs.Prelude.{◌≡◌, ◌≤◌, ℕ, Bool, false, Result, MatchResult, MatchBool}
use Rattle.sqlite_disk.specs.declared.tally.Tally.{Tally}
use Rattle.sqlite_disk.specs.Disk.{MoreFaults}
use Rattle.sqlite_disk.specs.Refusal.{is_no_room}
use Rattle.fuse_data.specs.declared.fault.DataFault.{DataFault}
use Rattle.fuse_data.specs.declared.fault.DataFault.TheVariants.{Disk}

-- a fault of the disk is a failed call, which it counted, and no other fault is
abbrev pub CountsFault : DataFault → ℕ → ℕ → Type 0
CountsFault (Disk e) old new = MoreFaults old new × (old ≤ new)
CountsFault f old new = new ≡ old

-- it is no fault of the disk
abbrev pub IsRefusal : DataFault → Type 0
IsRefusal (Disk e) = ⊥
IsRefusal f = Unit {0}

abbrev pub CountsIfErr : {T : Type 0} → Result T DataFault → ℕ → ℕ → Type 0
CountsIfErr result old new = MatchResult result (λ _. new ≡ old) (λ e. CountsFault e old new)

abbrev pub finds_disk_full : DataFault → Bool
finds_disk_full (Disk e) = is_no_room e
finds_disk_full f = false

-- the disk counts a refusal exactly where the fault is a full disk
pub record CountsDiskFull (f : DataFault) (old new : Tally) : Type 0 where
  pub caught : new.caught ≡ old.caught
  pub refused : MatchBool (finds_disk_full f) (MoreFaults old.refused new.refused) (new.refused ≡ old.refused)

abbrev pub CountsFullIfErr : {T : Type 0} → Result T DataFault → Tally → Tally → Type 0
CountsFullIfErr result old new = MatchResult result (λ _. new ≡ old) (λ e. CountsDiskFull e old new)

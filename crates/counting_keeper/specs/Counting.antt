-- The counts of a keeper over another one (defined by this project).
use Rattle.std.specs.Prelude.{◌≡◌, ℕ, ◌+◌, ◌-◌, ◌<◌, ◌^◌, min, List, length, Result, Ok, Err}
use Rattle.std.specs.List.{count_by}
use Rattle.fuse_keeper.specs.declared.fault.StoreFault.{StoreFault}
use Rattle.fuse_keeper.specs.declared.keeper.Done.{Done}
use Rattle.counting_keeper.specs.declared.keeper.CountingKeeper.{CountingKeeper}
use Rattle.counting_keeper.specs.declared.tally.Tally.{Tally}
use Rattle.counting_keeper.specs.declared.log.Log.{Log}
use Rattle.fuse_keeper.specs.Performance.{Performance}
use Rattle.counting_keeper.specs.Logging.{Logged}

-- the keeper that it stands on, whose state is its own
abbrev pub inner_of : {K : Type 0} → CountingKeeper K → K
inner_of k = k.inner

abbrev pub tally_of : {K : Type 0} → CountingKeeper K → Tally
tally_of k = k.tally

abbrev pub nothing : Tally
nothing = record { groups = 0; requests = 0; repeated = 0; mounts = 0; faults = 0; openings = 0 }

-- so many more; a count that is full stays so
abbrev pub up : ℕ → ℕ → ℕ
up n more = min (n + more) (2 ^ 64 - 1)

-- a group was performed, and answered so
abbrev pub with_group : Tally → List Done → Tally
with_group t dones = record t {
  groups = up t.groups 1;
  requests = up t.requests (length dones);
  repeated = up t.repeated (count_by (λ d. d.repeated) dones);
}

-- a mount was begun
abbrev pub with_mount : Tally → Tally
with_mount t = record t { mounts = up t.mounts 1 }

-- a call failed
abbrev pub with_fault : Tally → Tally
with_fault t = record t { faults = up t.faults 1 }

-- a call that only looks counts where it fails
abbrev pub LooksCounted : {A : Type 0} → Tally → Tally → Result A StoreFault → Type 0
LooksCounted a b (Ok x) = b ≡ a
LooksCounted a b (Err fault) = b ≡ with_fault a

-- it was opened again
abbrev pub with_opening : Tally → Tally
with_opening t = record t { openings = up t.openings 1 }

-- it was opened again so often on the way, where the count has room for it
abbrev pub Opened : Tally → Tally → ℕ → Type 0
Opened a b n = a.openings + n < 2 ^ 64 → b.openings ≡ a.openings + n

-- it became so, and its openings are counted
abbrev pub Became : {K : Type 0} → (K → K → ℕ → Type 0) → CountingKeeper K → CountingKeeper K → ℕ → Type 0
Became became a b n = became a.inner b.inner n × Opened a.tally b.tally n

-- the log of a keeper
abbrev pub log_of : {K : Type 0} → CountingKeeper K → Log
log_of k = k.log

-- it was asked these, and they are logged
abbrev pub Asked : {K : Type 0} → (K → K → List Performance → Type 0) → CountingKeeper K → CountingKeeper K → List Performance → Type 0
Asked performed a b list = performed a.inner b.inner list × Logged a.log b.log list

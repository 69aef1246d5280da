-- A test of what the tables hold, which only reads (defined by this project).
use Rattle.std.specs.Prelude.{◌≡◌, ◌≤◌, ◌==◌, ℕ, List, Result, IfErr, map, if◌then◌else◌}
use Rattle.sqlite.specs.Order.{Row}
use Rattle.sqlite.specs.State.{State, HasCleanDisk}
use Rattle.fuse_init.specs.declared.profile.Profile.{Profile}
use Rattle.fuse_init.specs.declared.profile.Profile.TheVariants.{Plain, Everyday}
use Rattle.fuse_keeper.specs.declared.fault.StoreFault.{StoreFault}
use Rattle.fuse_store_tables.specs.Content.{Content}
use Rattle.fuse_store_tables.specs.Faults.{IsOutside, IsPlain}
use Rattle.fuse_store_tables.specs.Moves.{InsideAs, Takes}
use Rattle.fuse_store_tables.specs.Opening.{IsLaid, IsMeta}
use Rattle.fuse_store_tables.specs.inner.Columns.{shown_meta}
use Rattle.fuse_store_tables.specs.inner.Performing.{OnlyReads, StaysWithin}
use Rattle.fuse_store_tables.specs.inner.Steps.{Tests}

-- Of tables of which something is known: where the test succeeds, they are so. Where they are so, a fault says nothing of them.
pub record ChecksIf {X : Type 0} (Known P : Content → Type 0) (old new : State) (result : Result X StoreFault) : Type 0 where
  pub looks : Takes IsLaid IsLaid old new result
  pub reads : OnlyReads old new result
  pub within : StaysWithin old new result
  pub whole : Tests (λ c. Known c → P c) old new result
  pub fault : HasCleanDisk new → IfErr result (λ f. (c : Content) → InsideAs (IsLaid c) old → Known c → P c → IsOutside f)
  pub plain : IfErr result IsPlain

-- these are the rows of `meta`, and there are at least so many
pub record IsMetaIn (rows : List Row) (least : ℕ) (c : Content) : Type 0 where
  pub profile : Profile
  pub count : ℕ
  pub enough : least ≤ count
  pub meta : IsMeta profile count c
  pub are : rows ≡ map shown_meta c.counters

-- the profile of a store of version 2 with so many rows in `meta`, if it is a store
abbrev pub profile_by : ℕ → Profile
profile_by n = if n == 11 then Plain else Everyday

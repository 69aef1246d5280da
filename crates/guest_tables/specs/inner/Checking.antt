-- A test of what the tables hold, which only reads (defined by this project).
use Rattle.std.specs.Prelude.{◌≡◌, List, Result, OnOk, IfErr, map}
use Rattle.sqlite.specs.Order.{Row}
use Rattle.sqlite.specs.State.{State, HasCleanDisk}
use Rattle.fuse_keeper.specs.declared.fault.StoreFault.{StoreFault}
use Rattle.fuse_store_tables.specs.Faults.{IsOutside, IsPlain}
use Rattle.fuse_store_tables.specs.Moves.{InsideAs, Takes}
use Rattle.fuse_store_tables.specs.inner.Performing.{OnlyReads, StaysWithin}
use Rattle.guest_tables.specs.Content.{GuestContent}
use Rattle.guest_tables.specs.Opening.{IsLaid, IsMeta, LotsAreBelow, AreRecords}
use Rattle.guest_tables.specs.inner.Columns.{shown_meta}

-- where the call succeeds, the rows are so
abbrev pub Tests : {X E : Type 0} → (GuestContent → Type 0) → State → State → Result X E → Type 0
Tests P old new r = HasCleanDisk new → OnOk r ((c : GuestContent) → InsideAs (IsLaid c) old → P c)

-- Of tables of which something is known: where the test succeeds, they are so. Where they are so, a fault says nothing of them.
pub record ChecksIf {X : Type 0} (Known P : GuestContent → Type 0) (old new : State) (result : Result X StoreFault) : Type 0 where
  pub looks : Takes IsLaid IsLaid old new result
  pub reads : OnlyReads old new result
  pub within : StaysWithin old new result
  pub whole : Tests (λ c. Known c → P c) old new result
  pub fault : HasCleanDisk new → IfErr result (λ f. (c : GuestContent) → InsideAs (IsLaid c) old → Known c → P c → IsOutside f)
  pub plain : IfErr result IsPlain

-- these are the rows of `meta`
pub record IsMetaIn (rows : List Row) (c : GuestContent) : Type 0 where
  pub meta : IsMeta c
  pub are : rows ≡ map shown_meta c.counters

abbrev pub HasRowsOfMeta : GuestContent → Type 0
HasRowsOfMeta c = IsMeta c × LotsAreBelow c

-- what is tested once the version is known
abbrev pub HasRowsInOrder : GuestContent → Type 0
HasRowsInOrder c = HasRowsOfMeta c × AreRecords c.kept

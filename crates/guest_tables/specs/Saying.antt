-- The databases that are no guest's store, are of another version, or have other tables (defined by this project).
use Rattle.std.specs.Prelude.{◌≡◌, ◌≢◌, ◌⊎◌, ℕ, pos, List, [], ◌∷◌, codes, None, ⊤}
use Rattle.sqlite.specs.declared.types.Value.{Value}
use Rattle.sqlite.specs.declared.types.Value.TheVariants.{Int}
use Rattle.sqlite.specs.Order.{Row, column}
use Rattle.sqlite.specs.Effect.{Database}
use Rattle.sqlite_schema.specs.Names.{table_named}
use Rattle.fuse_keeper.specs.declared.fault.StoreFault.{StoreFault}
use Rattle.fuse_keeper.specs.declared.fault.StoreFault.TheVariants.{NotAStore, Version, Damaged, Guest}
use Rattle.fuse_store_tables.specs.Saying.{Shows, HasFirst}
use Rattle.guest_tables.specs.Layout.{guest_schema, guest_version}

abbrev pub version_text : List ℕ
version_text = codes "SELECT v FROM meta WHERE k = 16"

-- asked for its version
abbrev pub ShowsVersion : Database → List Row → Type 0
ShowsVersion = Shows version_text

-- the version is this number of 64 bits
abbrev pub ReportsVersion : Database → ℕ → Type 0
ReportsVersion d n = (rows : List Row) × ShowsVersion d rows × HasFirst n rows

-- no version of another store: 1, or no integer
abbrev pub IsOwn : Value → Type 0
IsOwn (Int n) = n ≡ pos guest_version
IsOwn _ = ⊤

abbrev pub HasOwn : List Row → Type 0
HasOwn [] = ⊥
HasOwn (row ∷ rows) = IsOwn (column row 0)

-- There is no `meta`, or no row of a guest's version, as in each tree's store; or the version is another one. A store is damaged only
-- where neither is so.
abbrev pub Says : Database → StoreFault → Type 0
Says d NotAStore = (table_named d.schema (codes "meta") ≡ None) ⊎ ShowsVersion d []
Says d (Version n) = (n ≢ guest_version) × ReportsVersion d n
Says d Guest = ⊥
Says d Damaged = (rows : List Row) × ShowsVersion d rows × HasOwn rows
Says d _ = ⊤

-- the tables and indexes of a guest's store, and nothing beside them
abbrev pub IsTabled : Database → Type 0
IsTabled d = ReportsVersion d guest_version × (d.schema ≡ guest_schema)

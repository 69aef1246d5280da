-- The databases that are no store, are of another version, or have other tables than a store (defined by this project).
use Rattle.std.specs.Prelude.{◌≡◌, ◌≢◌, ◌⊎◌, ℕ, pos, List, [], ◌∷◌, codes, length, None, Ok, ⊤}
use Rattle.std.specs.Int.{w64, cast_signed}
use Rattle.sqlite.specs.declared.types.Value.{Value}
use Rattle.sqlite.specs.declared.types.Value.TheVariants.{Int}
use Rattle.sqlite.specs.Order.{Row, column}
use Rattle.sqlite.specs.Effect.{Database, Reads}
use Rattle.sqlite.specs.Clock.{timed}
use Rattle.sqlite.specs.Listing.{understood, reads_listing, IsSourceOf}
use Rattle.sqlite_resolve.specs.declared.compiled.Compiled.{Compiled}
use Rattle.sqlite_schema.specs.Names.{table_named}
use Rattle.fuse_keeper.specs.declared.fault.StoreFault.{StoreFault}
use Rattle.fuse_keeper.specs.declared.fault.StoreFault.TheVariants.{NotAStore, Version, Damaged, Guest}
use Rattle.fuse_store_tables.specs.Layout.{with_answers, with_kept, store_schema, third_schema}

abbrev pub version_text : List ℕ
version_text = codes "SELECT v FROM meta WHERE k = 1"

-- asked by this text, the database shows these rows
abbrev pub Shows : List ℕ → Database → List Row → Type 0
Shows text d rows =
    (c : Compiled) × (understood d.schema text ≡ Ok c) × (now : ℕ) × (source : Database) × IsSourceOf (reads_listing d.schema text) d source
    × Reads c.command source (timed [] c.formats now) rows

-- asked for its version
abbrev pub ShowsVersion : Database → List Row → Type 0
ShowsVersion = Shows version_text

-- the version is this number of 64 bits
abbrev pub HasFirst : ℕ → List Row → Type 0
HasFirst n [] = ⊥
HasFirst n (row ∷ rows) = column row 0 ≡ Int (cast_signed w64 n)

abbrev pub ReportsVersion : Database → ℕ → Type 0
ReportsVersion d n = (rows : List Row) × ShowsVersion d rows × HasFirst n rows

-- no version of another store: 1, 2 or 3, or no integer
abbrev pub IsOwn : Value → Type 0
IsOwn (Int n) = (n ≡ pos 1) ⊎ ((n ≡ pos 2) ⊎ (n ≡ pos 3))
IsOwn _ = ⊤

abbrev pub HasOwn : List Row → Type 0
HasOwn [] = ⊥
HasOwn (row ∷ rows) = IsOwn (column row 0)

-- There is no `meta`, or no row of the version; or the version is none of 1, 2 and 3. A store is damaged only where neither is so.
abbrev pub Says : Database → StoreFault → Type 0
Says d NotAStore = (table_named d.schema (codes "meta") ≡ None) ⊎ ShowsVersion d []
Says d (Version n) = (n ≢ 1) × (n ≢ 2) × (n ≢ 3) × ReportsVersion d n
Says d Guest = ⊥
Says d Damaged = (rows : List Row) × ShowsVersion d rows × HasOwn rows
Says d _ = ⊤

-- a fault that refuses the database
abbrev pub IsRefusal : StoreFault → Type 0
IsRefusal NotAStore = ⊤
IsRefusal (Version n) = ⊤
IsRefusal Damaged = ⊤
IsRefusal _ = ⊥

-- ---- the whole schema

-- of version 1, 2 or 3, with the tables and indexes of that version and nothing beside them; the index of version 2 may be missing
abbrev pub IsTabled : Database → Type 0
IsTabled d =
    (ReportsVersion d 1 × (d.schema ≡ with_answers))
    ⊎ ((ReportsVersion d 2 × ((d.schema ≡ store_schema) ⊎ (d.schema ≡ with_kept))) ⊎ (ReportsVersion d 3 × (d.schema ≡ third_schema)))

abbrev pub meta_text : List ℕ
meta_text = codes "SELECT k, v FROM meta ORDER BY k"

-- asked for all rows of `meta`, the database shows another number than a plain store of version 2 has
abbrev pub ShowsMore : Database → Type 0
ShowsMore d = (rows : List Row) × Shows meta_text d rows × (length rows ≢ 11)

-- The same, of version 1, of version 2 without its index, or of version 2 and not plain: only such a database is changed by an
-- opening.
abbrev pub IsToMigrate : Database → Type 0
IsToMigrate d =
    (ReportsVersion d 1 × (d.schema ≡ with_answers))
    ⊎ ((ReportsVersion d 2 × (d.schema ≡ with_kept)) ⊎ (ReportsVersion d 2 × (d.schema ≡ store_schema) × ShowsMore d))

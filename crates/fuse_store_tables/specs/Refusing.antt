-- A new store that is refused, as its first table is there (defined by this project).
use Rattle.std.specs.Prelude.{◌≡◌, ◌⊎◌, codes, true, None}
use Rattle.std.specs.Option.{is_some}
use Rattle.sqlite_trees.specs.declared.error.StoreError.{StoreError}
use Rattle.sqlite.specs.Schema.{Schema}
use Rattle.sqlite.specs.State.{store_error}
use Rattle.sqlite.specs.declared.error.Error.{Error}
use Rattle.sqlite.specs.declared.error.Error.TheVariants.{SqlInputError}
use Rattle.sqlite_resolve.specs.declared.error.CompileError.TheVariants.{Exists}
use Rattle.sqlite_schema.specs.Names.{table_named, view_named}

-- there is a table `meta`, and no view of that name
pub record HasMetaTable (s : Schema) : Type 0 where
  pub table : is_some (table_named s (codes "meta")) ≡ true
  pub view : view_named s (codes "meta") ≡ None

-- the database failed, or ran out of memory
abbrev pub IsOfStore : Error → Type 0
IsOfStore e = (kind : StoreError) × (e ≡ store_error kind)

-- SQLite refused a CREATE, as the name is there; or the database failed
abbrev pub IsNameTaken : Error → Type 0
IsNameTaken e = (e ≡ SqlInputError Exists) ⊎ IsOfStore e

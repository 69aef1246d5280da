-- The statements that take rows out.
use Rattle.std.proofs.Common.{◌≡◌, ℕ, pos, List, [], ◌∷◌, map, filter, Bool, not, Some, None, sym, ap, subst, ◌∙◌}
use Rattle.std.proofs.Common.{slice_get}
use Rattle.std.specs.List.{list_all}
use Rattle.sqlite.specs.declared.types.Value.TheVariants.{Null, Int}
use Rattle.sqlite.specs.Order.{Row}
use Rattle.sqlite.specs.Table.{Table}
use Rattle.sqlite_trees.specs.Tree.{Trees, IsTable, rowid}
use Rattle.sqlite.specs.Term.{Term, col, holds}
use Rattle.sqlite.specs.Program.{overlay}
use Rattle.sqlite.specs.Command.TheVariants.{Delete}
use Rattle.sqlite_schema.specs.declared.program.Program.{Program}
use Rattle.sqlite_schema.specs.declared.schema.Keys.TheVariants.{Enforced}
use Rattle.sqlite_rules.specs.Calls.{ids_of}
use Rattle.sqlite_rules.specs.Edit.{without_all}
use Rattle.sqlite.specs.State.{State, Writes}
use Rattle.fuse_store_tables.specs.declared.version.Layout.{Layout}
use Rattle.fuse_store_tables.specs.Layout.{schema_for}
use Rattle.fuse_store_tables.specs.inner.Rows.{Spares}
use Rattle.fuse_store_tables.proofs.Tables.{quiet}
use Rattle.fuse_store_tables.proofs.Reading.{plain_query, answered}
use Rattle.fuse_store_tables.proofs.RowLemmas.{uncounted, deleted}
use Rattle.fuse_store_tables.proofs.Removing.{removed, IsTable-without_all}

-- the rows that pass the terms are asked for by their rowids
abbrev pub picking : ℕ → List Term → Program
picking tree terms = record { lets = []; body = plain_query tree terms (col 1 0 ∷ []) }

module _ (l : Layout) {X : Type 0} (key : X → ℕ) (row : X → Row) (keyed : (x : X) → rowid (row x) ≡ Int (pos (key x))) (p : X → Bool) (at : ℕ) (table : Table)
    (listed : slice_get (schema_for l).tables at ≡ Some (uncounted table)) (terms : List Term) (params : Row) (tests : (x : X)
    → list_all (holds (params ∷ row x ∷ [])) terms ≡ p x)
    (own : (db : Trees) → overlay db [] table.tree ≡ db table.tree) where
  pub picks : (xs : List X) (old new : State) (text : List ℕ) (n : ℕ) → old.now.schema ≡ schema_for l → old.now.trees table.tree ≡ map row xs
      → IsTable (old.now.trees table.tree)
      → Writes old new None (Delete at (picking table.tree terms)) text params n
      → (new.now.trees table.tree ≡ map row (filter (λ x. not (p x)) xs)) × IsTable (new.now.trees table.tree) × Spares table old.now new.now
  picks xs old new text n has is rise w =
      let d = deleted (schema_for l) at table listed (picking table.tree terms) old new text params n has (λ olds news. quiet l Enforced table.tree olds news) w in
      let same = answered row p Null (overlay old.now.trees []) terms params tests table.tree (col 1 0 ∷ []) xs d.gone (own old.now.trees
      ∙ is) (d.shown.answer Null) in (
        d.rows ∙ ap (λ l. without_all l (ids_of d.gone)) is ∙ removed key row keyed p xs d.gone (subst IsTable is rise) same,
        subst IsTable (sym d.rows) (IsTable-without_all (old.now.trees table.tree) (ids_of d.gone) rise),
        d.spares,
      )

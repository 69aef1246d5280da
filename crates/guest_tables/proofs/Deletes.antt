-- The statements that take rows out.
use Rattle.std.proofs.Common.{◌≡◌, ℕ, pos, List, [], ◌∷◌, map, filter, Bool, not, Some, ap, subst, ◌∙◌, sym}
use Rattle.std.proofs.Common.{slice_get}
use Rattle.std.specs.List.{list_all}
use Rattle.sqlite.specs.declared.types.Value.TheVariants.{Null, Int}
use Rattle.sqlite.specs.Order.{Row}
use Rattle.sqlite.specs.Table.{Table}
use Rattle.sqlite_trees.specs.Tree.{Trees, IsTable, rowid}
use Rattle.sqlite.specs.Term.{Term, col, holds}
use Rattle.sqlite.specs.Program.{overlay}
use Rattle.sqlite.specs.Command.TheVariants.{Delete}
use Rattle.sqlite_schema.specs.declared.schema.Keys.TheVariants.{Enforced}
use Rattle.sqlite_rules.specs.Calls.{ids_of}
use Rattle.sqlite_rules.specs.Edit.{without_all}
use Rattle.sqlite.specs.State.{State, Writes}
use Rattle.std.proofs.Common.{None}
use Rattle.fuse_store_tables.specs.inner.Rows.{Spares}
use Rattle.guest_tables.proofs.any_schema.Reading.{answered}
use Rattle.guest_tables.proofs.any_schema.RowLemmas.{uncounted, deleted}
use Rattle.guest_tables.proofs.any_schema.Removing.{removed, IsTable-without_all}
pub use Rattle.guest_tables.proofs.any_schema.Deletes.{picking}
use Rattle.guest_tables.specs.Layout.{guest_schema}
use Rattle.guest_tables.proofs.Tables.{quiet}

module _ {X : Type 0} (key : X → ℕ) (row : X → Row) (keyed : (x : X) → rowid (row x) ≡ Int (pos (key x))) (p : X → Bool) (at : ℕ) (table : Table)
    (listed : slice_get guest_schema.tables at ≡ Some (uncounted table)) (terms : List Term) (params : Row) (tests : (x : X)
    → list_all (holds (params ∷ row x ∷ [])) terms ≡ p x)
    (own : (db : Trees) → overlay db [] table.tree ≡ db table.tree) where
  pub picks : (xs : List X) (old new : State) (text : List ℕ) (n : ℕ) → old.now.schema ≡ guest_schema → old.now.trees table.tree ≡ map row xs
      → IsTable (old.now.trees table.tree)
      → Writes old new None (Delete at (picking table.tree terms)) text params n
      → (new.now.trees table.tree ≡ map row (filter (λ x. not (p x)) xs)) × IsTable (new.now.trees table.tree) × Spares table old.now new.now
  picks xs old new text n has is rise w =
      let d = deleted guest_schema at table listed (picking table.tree terms) old new text params n has (λ olds news. quiet Enforced table.tree olds news) w in
      let same = answered row p Null (overlay old.now.trees []) terms params tests table.tree (col 1 0 ∷ []) xs d.gone (own old.now.trees
      ∙ is) (d.shown.answer Null) in (
        d.rows ∙ ap (λ l. without_all l (ids_of d.gone)) is ∙ removed key row keyed p xs d.gone (subst IsTable is rise) same,
        subst IsTable (sym d.rows) (IsTable-without_all (old.now.trees table.tree) (ids_of d.gone) rise),
        d.spares,
      )

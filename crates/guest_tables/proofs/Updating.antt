-- An UPDATE of the row with a key.
use Rattle.std.proofs.Common.{◌≡◌, ℕ, pos, List, [], ◌∷◌, map, filter, length, Bool, true, nat_lt, Some, None, Option, refl, sym, ap, subst, arith, ◌∙◌, slice_get}
use Rattle.std.specs.List.{list_all}
use Rattle.std.specs.Option.{option_to_list, is_some}
use Rattle.std.specs.Ordering.{is_eq, nat_cmp}
use Rattle.std.specs.List.Sorted.{IsPermutation}
use Rattle.std.proofs.lemmas.Bool.Decides.{nat_tests}
use Rattle.sqlite.specs.declared.types.Value.TheVariants.{Null, Int}
use Rattle.sqlite.specs.Order.{Row}
use Rattle.sqlite.specs.Table.{Table}
use Rattle.sqlite.specs.Tree.{Trees}
use Rattle.sqlite_trees.specs.Tree.{IsTable, rowid, put_row, without_rowid}
use Rattle.sqlite_trees.proofs.TreeLemmas.{IsTable-put_row}
use Rattle.sqlite_catalog.proofs.LayoutLemmas.{ascending_filter}
use Rattle.sqlite.specs.Term.{Term, col, holds, eval_all}
use Rattle.sqlite.specs.Program.{overlay}
use Rattle.sqlite.specs.Command.TheVariants.{Update}
use Rattle.sqlite.specs.Edit.{edit_of, edited}
use Rattle.sqlite.specs.Rowids.TheVariants.{Given}
use Rattle.sqlite_rules.specs.Cast.{cast_row}
use Rattle.sqlite_rules.specs.Calls.{ids_of}
use Rattle.sqlite_schema.specs.declared.program.Program.{Program}
use Rattle.sqlite_schema.specs.declared.schema.Keys.TheVariants.{Enforced}
use Rattle.sqlite.specs.Effect.{Answers}
use Rattle.sqlite.specs.State.{State, Writes}
use Rattle.guest_tables.specs.Layout.{guest_schema}
use Rattle.fuse_store_tables.specs.Content.{has_by, at_by, set_by}
use Rattle.fuse_store_tables.specs.inner.Rows.{Edits, Spares}
use Rattle.guest_tables.proofs.Tables.{quiet}
pub use Rattle.guest_tables.proofs.any_schema.Updating.{changing}
use Rattle.guest_tables.proofs.any_schema.RowLemmas.{uncounted, updated, counted}
use Rattle.guest_tables.proofs.any_schema.Reading.{plain_query, answered, only}
use Rattle.guest_tables.proofs.any_schema.Keyed.{found_rows, found_has, set_rows, set_missing}

pub same_key : (m n : ℕ) → is_eq (nat_cmp m n) ≡ true → m ≡ n
same_key m n is = grind (arith, nat_tests)

-- the rows that an UPDATE asks for, and how many there are
module _ {X : Type 0} (key : X → ℕ) (row : X → Row) (at : ℕ) (table : Table) (listed : slice_get guest_schema.tables at ≡ Some (uncounted table))
    (cells : X → Row) (p : X → Bool) (terms shown : List Term) (params : Row) (tests : (x : X) → list_all (holds (params ∷ row x ∷ [])) terms ≡ p x)
    (shows : (x : X) → eval_all (col 1 0 ∷ shown) (params ∷ row x ∷ []) ≡ Int (pos (key x)) ∷ cells x) (own : (db : Trees)
    → overlay db [] table.tree ≡ db table.tree) where
  abbrev asked : X → Row
  asked x = Int (pos (key x)) ∷ cells x

  shows_all : (xs : List X) → map (λ x. eval_all (col 1 0 ∷ shown) (params ∷ row x ∷ [])) xs ≡ map asked xs
  shows_all [] = refl
  shows_all (x ∷ xs) = ap (λ r. r ∷ map (λ y. eval_all (col 1 0 ∷ shown) (params ∷ row y ∷ [])) xs) (shows x) ∙ ap (λ more. asked x ∷ more) (shows_all xs)

  pub edits : (xs : List X) (o : Option X) → filter p xs ≡ option_to_list o → (old new : State) (text : List ℕ) (n : ℕ) → old.now.schema ≡ guest_schema
      → old.now.trees table.tree ≡ map row xs
      → Writes old new None (Update at (changing table.tree terms shown)) text params n
      → Edits table 1 (map asked (option_to_list o)) (map asked (option_to_list o)) old.now new.now × (n ≡ length (map asked (option_to_list o)))
  edits xs o picked old new text n has is w =
      let q = changing table.tree terms shown in
      let reads = λ (rows : List Row) (h : Answers (record old.now { schema = guest_schema }) q params rows).
      let all = answered row p Null (overlay old.now.trees []) terms params tests table.tree (col 1 0 ∷ shown) xs rows (own old.now.trees
      ∙ is) (h.answer Null) in
      let mine = subst (λ l. IsPermutation l rows) (shows_all _) all in
      only o asked rows (subst (λ l. IsPermutation (map asked l) rows) picked mine) in (
        updated guest_schema at table listed q old new text params n (map asked (option_to_list o)) has reads
            (λ olds news. quiet Enforced table.tree olds news) w,
        counted guest_schema at table listed q old new text params n (map asked (option_to_list o)) has reads
            (λ olds news. quiet Enforced table.tree olds news) w,
      )

-- whether a row was changed
pub some_changed : {X : Type 0} (o : Option X) (show : X → Row) (n : ℕ) → n ≡ length (map show (option_to_list o)) → nat_lt 0 n ≡ is_some o
some_changed None show n is = rw is refl
some_changed (Some x) show n is = rw is refl

module _ {X : Type 0} (key : X → ℕ) (row : X → Row) (keyed : (x : X) → rowid (row x) ≡ Int (pos (key x))) (k : ℕ) (f : X → X) (same : (x : X)
    → key (f x) ≡ key x) (at : ℕ) (table : Table)
    (listed : slice_get guest_schema.tables at ≡ Some (uncounted table)) (cells : X → Row) (cast : (x : X) → cast_row table (cells x) ≡ row (f x)) where
  abbrev source : X → Row
  source x = Int (pos (key x)) ∷ cells x

  pub edited_as : (all : List X) (o : Option X) (db : Trees) → db table.tree ≡ map row all → IsTable (db table.tree) → at_by key k all ≡ o
      → (edited db (edit_of db table (ids_of (map source (option_to_list o))) Given 1 (map source (option_to_list o))) ≡ map row (set_by key k f all))
      × IsTable (edited db (edit_of db table (ids_of (map source (option_to_list o))) Given 1 (map source (option_to_list o))))
  edited_as all None db has rise none = (has ∙ ap (map row) (sym (set_missing key row keyed k f all none)), rise)
  edited_as all (Some x) db has rise is =
      let here = same_key (key x) k (found_has key row keyed k all x is) in
      let now : edited db (edit_of db table (ids_of (source x ∷ [])) Given 1 (source x ∷ [])) ≡ put_row (row (f x)) (without_rowid (pos (key x))
      (db table.tree)) =
      ap (λ r. put_row r (without_rowid (pos (key x)) (db table.tree))) (cast x) in (
        now ∙ ap (λ rows. put_row (row (f x)) (without_rowid (pos (key x)) rows)) has ∙ ap (λ m. put_row (row (f x)) (without_rowid (pos m) (map row all))) here
            ∙ set_rows key row keyed k f same all x (subst IsTable has rise) is,
        subst IsTable (sym now) (IsTable-put_row (row (f x)) _ (ascending_filter _ _ (db table.tree) rise)),
      )

  module _ (terms shown : List Term) (params : Row) (tests : (x : X) → list_all (holds (params ∷ row x ∷ [])) terms ≡ has_by key k x)
      (shows : (x : X) → eval_all (col 1 0 ∷ shown) (params ∷ row x ∷ []) ≡ source x) (own : (db : Trees) → overlay db [] table.tree ≡ db table.tree) where
    -- what was changed, and how many rows
    pub changes : (xs : List X) (old new : State) (text : List ℕ) (n : ℕ) → old.now.schema ≡ guest_schema → old.now.trees table.tree ≡ map row xs
        → IsTable (old.now.trees table.tree)
        → Writes old new None (Update at (changing table.tree terms shown)) text params n
        → (new.now.trees table.tree ≡ map row (set_by key k f xs)) × IsTable (new.now.trees table.tree) × Spares table old.now new.now
    changes xs old new text n has is rise w =
        let edit = (edits key row at table listed cells (has_by key k) terms shown params tests shows own xs (at_by key k xs)
        (found_rows key row keyed k xs (subst IsTable is rise)) old new text n has is w).0 in
        let made = edited_as xs (at_by key k xs) old.now.trees is rise refl in
        (edit.rows ∙ made.0, subst IsTable (sym edit.rows) made.1, edit.spares)

    pub changes_some : (xs : List X) (old new : State) (text : List ℕ) (n : ℕ) → old.now.schema ≡ guest_schema → old.now.trees table.tree ≡ map row xs
        → IsTable (old.now.trees table.tree)
        → Writes old new None (Update at (changing table.tree terms shown)) text params n → nat_lt 0 n ≡ is_some (at_by key k xs)
    changes_some xs old new text n has is rise w =
        some_changed (at_by key k xs) source n (edits key row at table listed cells (has_by key k) terms shown params tests shows own xs (at_by key k xs)
        (found_rows key row keyed k xs (subst IsTable is rise)) old new text n has is w).1

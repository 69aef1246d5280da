-- What DROP TABLE makes of a database.
use Rattle.std.proofs.Common.{◌≡◌, ℕ, List, [], codes, Some, None, slice_get, Ok, Result, refl, sym, ap, subst, ◌∙◌}
use Rattle.sqlite.specs.Schema.{Schema}
use Rattle.sqlite.specs.Table.{Table}
use Rattle.sqlite.specs.Order.{Row}
use Rattle.sqlite_schema.specs.declared.command.Command.TheVariants.{DropTable}
use Rattle.sqlite_catalog.specs.Change.{without_table}
use Rattle.sqlite.specs.Does.{Tally, Does, Drops}
use Rattle.sqlite.specs.Rows.{Task}
use Rattle.sqlite_tied.specs.Compute.{everything}
use Rattle.sqlite.specs.Listing.{understood}
use Rattle.sqlite.specs.Effect.{Database}
use Rattle.sqlite.specs.State.{State, HasCleanDisk, Survives, CommitsBy, Writes, mode_of}
use Rattle.sqlite.specs.declared.error.Error.{Error}
use Rattle.sqlite.proofs.Callers.{IsPlain, command_of, statement_of}
use Rattle.sqlite_resolve.specs.Compile.{first}
use Rattle.fuse_store_tables.specs.Layout.{no_schema, store_schema, meta, nodes, entries, blocks, handles, answers, lots, kept}
use Rattle.fuse_store_tables.specs.Making.{IsBare}
use Rattle.fuse_store_tables.specs.Moves.{Takes}
use Rattle.fuse_store_tables.specs.inner.Dropping.{HasSchema, left_by_kept, left_by_lots, left_by_answers, left_by_handles, left_by_blocks, left_by_entries, left_by_nodes}
use Rattle.fuse_store_tables.specs.inner.Performing.{Ran}
use Rattle.fuse_store_tables.proofs.RowLemmas.{went, same_value}
use Rattle.fuse_store_tables.proofs.Writing.{makes}
use Rattle.fuse_store_tables.proofs.Edits.{IsEditText}

pub dropped_as : (s : Schema) (sql : List ℕ) (at : ℕ) (t : Table) → slice_get s.tables at ≡ Some t
    → (old new : State) (params : Row) (n : ℕ) → old.now.schema ≡ s → Writes old new None (DropTable at) sql params n
    → new.now.schema ≡ without_table s t.tree
dropped_as s sql at t listed old new params n has w =
    let ran = subst (λ (k : Schema). Does old.step_limit (mode_of old) params (record old.now { schema = k }) sql None (DropTable at) (Ok (w.tally, new.now)))
    has w.changed in
    let task : Task = record { limit = old.step_limit; keys = (mode_of old).keys; schema = s; table = t; params = params } in
    let on : Drops task (mode_of old) old.now.trees (Ok (w.tally, new.now)) = rw listed at ran in
    let emptied = went on in
    let uncounted = went emptied.2 in
    let tested = went uncounted.2 in
    let left = went tested.2 in
    ap (λ (p : Tally × Database). p.1.schema) (same_value left.2) ∙ left.1.0

-- the text drops this table, which stands at this place of the schema, and leaves the others
pub record IsDropOf (s : Schema) (at : ℕ) (table : Table) (left : Schema) (text : List ℕ) : Type 0 where
  pub listed : slice_get s.tables at ≡ Some table
  pub leaves : without_table s table.tree ≡ left
  pub command : command_of (understood s text) ≡ DropTable at
  pub plain : IsPlain (understood s text)
  pub edit : IsEditText (first text)

pub drops : (s : Schema) (at : ℕ) (table : Table) (left : Schema) (text : List ℕ) → IsDropOf s at table left text
    → (old new : State) (r : Result (Unit {0}) Error) → (HasCleanDisk new → Ran text [] old new r) → Survives old new (CommitsBy text [] old)
    → Takes (HasSchema s) (HasSchema left) old new r
drops s at table left text drop =
    makes (HasSchema s) s (λ c d h. h.schema) text [] (DropTable at) drop.command drop.plain refl drop.edit (HasSchema left)
    (λ c old new n h w. record { schema = dropped_as s _ at table drop.listed old new [] n h.schema w ∙ drop.leaves; sound = w.sound })

-- the last of them
pub bares : (s : Schema) (at : ℕ) (table : Table) (text : List ℕ) → IsDropOf s at table no_schema text
    → (old new : State) (r : Result (Unit {0}) Error) → (HasCleanDisk new → Ran text [] old new r) → Survives old new (CommitsBy text [] old)
    → Takes (HasSchema s) (IsBare no_schema) old new r
bares s at table text drop =
    makes (HasSchema s) s (λ c d h. h.schema) text [] (DropTable at) drop.command drop.plain refl drop.edit (IsBare no_schema)
    (λ c old new n h w. record { schema = dropped_as s _ at table drop.listed old new [] n h.schema w ∙ drop.leaves; sound = w.sound; rows = tt })

-- ---- kept

abbrev pub kept_text : List ℕ
kept_text = codes "DROP TABLE kept"

pub kept_edit : IsEditText (first kept_text)
unfolding first everything
kept_edit = tt

pub kept_dropped : IsDropOf store_schema 7 kept left_by_kept kept_text
unfolding understood everything
kept_dropped = record { listed = refl; leaves = refl; command = refl; plain = (refl, refl); edit = kept_edit }

-- ---- lots

abbrev pub lots_text : List ℕ
lots_text = codes "DROP TABLE lots"

pub lots_edit : IsEditText (first lots_text)
unfolding first everything
lots_edit = tt

pub lots_dropped : IsDropOf left_by_kept 6 lots left_by_lots lots_text
unfolding understood everything
lots_dropped = record { listed = refl; leaves = refl; command = refl; plain = (refl, refl); edit = lots_edit }

-- ---- answers

abbrev pub answers_text : List ℕ
answers_text = codes "DROP TABLE answers"

pub answers_edit : IsEditText (first answers_text)
unfolding first everything
answers_edit = tt

pub answers_dropped : IsDropOf left_by_lots 5 answers left_by_answers answers_text
unfolding understood everything
answers_dropped = record { listed = refl; leaves = refl; command = refl; plain = (refl, refl); edit = answers_edit }

-- ---- handles

abbrev pub handles_text : List ℕ
handles_text = codes "DROP TABLE handles"

pub handles_edit : IsEditText (first handles_text)
unfolding first everything
handles_edit = tt

pub handles_dropped : IsDropOf left_by_answers 4 handles left_by_handles handles_text
unfolding understood everything
handles_dropped = record { listed = refl; leaves = refl; command = refl; plain = (refl, refl); edit = handles_edit }

-- ---- blocks

abbrev pub blocks_text : List ℕ
blocks_text = codes "DROP TABLE blocks"

pub blocks_edit : IsEditText (first blocks_text)
unfolding first everything
blocks_edit = tt

pub blocks_dropped : IsDropOf left_by_handles 3 blocks left_by_blocks blocks_text
unfolding understood everything
blocks_dropped = record { listed = refl; leaves = refl; command = refl; plain = (refl, refl); edit = blocks_edit }

-- ---- entries

abbrev pub entries_text : List ℕ
entries_text = codes "DROP TABLE entries"

pub entries_edit : IsEditText (first entries_text)
unfolding first everything
entries_edit = tt

pub entries_dropped : IsDropOf left_by_blocks 2 entries left_by_entries entries_text
unfolding understood everything
entries_dropped = record { listed = refl; leaves = refl; command = refl; plain = (refl, refl); edit = entries_edit }

-- ---- nodes

abbrev pub nodes_text : List ℕ
nodes_text = codes "DROP TABLE nodes"

pub nodes_edit : IsEditText (first nodes_text)
unfolding first everything
nodes_edit = tt

pub nodes_dropped : IsDropOf left_by_entries 1 nodes left_by_nodes nodes_text
unfolding understood everything
nodes_dropped = record { listed = refl; leaves = refl; command = refl; plain = (refl, refl); edit = nodes_edit }

-- ---- meta

abbrev pub meta_text : List ℕ
meta_text = codes "DROP TABLE meta"

pub meta_edit : IsEditText (first meta_text)
unfolding first everything
meta_edit = tt

pub meta_dropped : IsDropOf left_by_nodes 0 meta no_schema meta_text
unfolding understood everything
meta_dropped = record { listed = refl; leaves = refl; command = refl; plain = (refl, refl); edit = meta_edit }

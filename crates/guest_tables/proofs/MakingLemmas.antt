-- The tables and the first rows of a new store.
use Rattle.std.proofs.Common.{◌≡◌, ◌≢◌, ◌<◌, ◌^◌, ℕ, pos, List, [], ◌∷◌, ◌++◌, map, codes, None, Result, refl, sym, ap, subst, arith, ◌∙◌}
use Rattle.std.specs.Prelude.{⊤}
use Rattle.std.specs.Int.{w64, cast_signed}
use Rattle.std.specs.List.{AllByRecursion}
use Rattle.sqlite.specs.declared.types.Value.TheVariants.{Null, Int}
use Rattle.sqlite.specs.Order.{Row}
use Rattle.sqlite_trees.specs.Tree.{IsTable, no_trees}
use Rattle.sqlite.specs.Term.{Term, lit, col}
use Rattle.sqlite.specs.Source.TheVariants.{Values}
use Rattle.sqlite.specs.Command.TheVariants.{Insert}
use Rattle.sqlite_rules.specs.Cast.{cast_row}
use Rattle.sqlite_rules.specs.Edit.{numbered, put_all}
use Rattle.sqlite.specs.Rowids.TheVariants.{Chosen}
use Rattle.sqlite_tied.specs.Compute.{everything}
use Rattle.sqlite.specs.declared.error.Error.{Error}
use Rattle.sqlite.specs.Effect.{Database}
use Rattle.sqlite.specs.Listing.{understood}
use Rattle.sqlite.specs.State.{State, HasCleanDisk, Survives, CommitsBy, Writes}
use Rattle.sqlite.proofs.Callers.{IsPlain, command_of, statement_of}
use Rattle.sqlite_resolve.specs.Compile.{first}
use Rattle.fuse_store_tables.specs.Layout.{meta, with_meta}
use Rattle.fuse_store_tables.specs.Content.{Counter, HasRows}
use Rattle.fuse_store_tables.specs.Making.{IsBare}
use Rattle.fuse_store_tables.specs.Moves.{Takes}
use Rattle.fuse_store_tables.specs.inner.Performing.{Ran}
use Rattle.guest_tables.proofs.any_schema.Edits.{IsEditText}
use Rattle.guest_tables.proofs.any_schema.Keyed.{put_all_rows, numbered_rows, IsTable-put_all}
use Rattle.guest_tables.proofs.any_schema.RowLemmas.{cast_int, cast_null, inserted_all}
use Rattle.guest_tables.proofs.any_schema.SchemaLemmas.{IsTextOf, lots_text, lots_edit, kept_text, kept_edit}
use Rattle.guest_tables.proofs.any_schema.Tables.{wrote}
use Rattle.guest_tables.proofs.any_schema.Writing.{makes}
use Rattle.guest_tables.specs.Layout.{guest_schema, with_pairs, with_lots, pair_table, lot_table, kept_table}
use Rattle.guest_tables.specs.Content.{Holds, stored, counter_row}
use Rattle.guest_tables.specs.Making.{first_counters, new_content}
use Rattle.guest_tables.proofs.Tables.{quiet, meta_listed}

-- ---- the tables

abbrev pub pairs_text : List ℕ
pairs_text =
    codes "CREATE TABLE pairs (key BLOB NOT NULL, value BLOB NOT NULL, place INTEGER NOT NULL, len INTEGER NOT NULL, "
    ++ codes "sum INTEGER NOT NULL, PRIMARY KEY (key)) STRICT"

pub pairs_edit : IsEditText (first pairs_text)
unfolding first everything
pairs_edit = tt

pub pairs_made : IsTextOf with_meta pair_table pairs_text
unfolding understood everything
pairs_made = record { defines = refl; statement = refl; command = refl; plain = (refl, refl); lacks = refl; edit = pairs_edit }

pub lots_made : IsTextOf with_pairs lot_table lots_text
unfolding understood everything
lots_made = record { defines = refl; statement = refl; command = refl; plain = (refl, refl); lacks = refl; edit = lots_edit }

pub kept_made : IsTextOf with_lots kept_table kept_text
unfolding understood everything
kept_made = record { defines = refl; statement = refl; command = refl; plain = (refl, refl); lacks = refl; edit = kept_edit }

-- ---- the rows of `meta`

abbrev pub fill_text : List ℕ
fill_text = codes "INSERT INTO meta (k, v) VALUES (7, 0), (8, 0), (9, 0), (10, 0), (11, 1), (15, ?1), (16, 1), (17, 0)"

abbrev terms : List Term
terms =
    lit (Int (pos 7)) ∷ lit Null ∷ lit (Int (pos 0)) ∷ lit (Int (pos 8)) ∷ lit Null ∷ lit (Int (pos 0)) ∷ lit (Int (pos 9)) ∷ lit Null ∷ lit (Int (pos 0))
    ∷ lit (Int (pos 10)) ∷ lit Null ∷ lit (Int (pos 0)) ∷ lit (Int (pos 11)) ∷ lit Null ∷ lit (Int (pos 1)) ∷ lit (Int (pos 15)) ∷ lit Null ∷ col 0 0
    ∷ lit (Int (pos 16)) ∷ lit Null ∷ lit (Int (pos 1)) ∷ lit (Int (pos 17)) ∷ lit Null ∷ lit (Int (pos 0)) ∷ []

fill_is : command_of (understood guest_schema fill_text) ≡ Insert 0 (Values terms 3)
unfolding understood everything
fill_is = refl

fill_plain : IsPlain (understood guest_schema fill_text)
unfolding understood everything
fill_plain = (refl, refl)

pub fill_edit : IsEditText (first fill_text)
unfolding first everything
fill_edit = tt

cast_counter : (c : Counter) → cast_row meta (counter_row c) ≡ counter_row c
cast_counter c = rw (cast_int (pos c.key), cast_int (cast_signed w64 c.value), cast_null)

cast_counters : (cs : List Counter) → map (λ s. cast_row meta s) (map counter_row cs) ≡ map counter_row cs
cast_counters [] = refl
cast_counters (c ∷ cs) = rw (cast_counter c) (ap (λ more. counter_row c ∷ more) (cast_counters cs))

module _ (number : ℕ) where
  abbrev given : Row
  given = Int (cast_signed w64 number) ∷ []

  abbrev firsts : List Counter
  firsts = first_counters number

  only_meta : AllByRecursion (λ t. t.tree ≢ 0 → stored (new_content number) t.tree ≡ no_trees t.tree) guest_schema.tables
  only_meta = (λ e. absurd (e refl), (λ _. refl, (λ _. refl, (λ _. refl, tt))))

  fills : (c : ⊤) (old new : State) (n : ℕ) → IsBare guest_schema c old.now → Writes old new None (Insert 0 (Values terms 3))
      (statement_of fill_text (understood guest_schema fill_text)) given n → Holds (new_content number) new.now
  fills c old new n at w =
      let put = inserted_all guest_schema 0 meta meta_listed terms 3 old new _ given n (map counter_row firsts) (λ keys news. quiet keys 0 [] news)
      (cast_counters firsts) at.schema w in
      let was : (old.now.trees 0 ≡ []) × IsTable (old.now.trees 0) = at.rows.0 in
      let rows : new.now.trees 0 ≡ put_all [] (map counter_row firsts) =
      put.rows ∙ ap (λ all. put_all all (numbered Chosen all (map counter_row firsts))) was.0
      ∙ ap (put_all []) (numbered_rows (λ (x : Counter). x.key) counter_row (λ _. refl) [] firsts (λ all x. refl)) in
      wrote guest_schema no_trees (stored (new_content number)) meta old.now new.now at put.spares w.sound only_meta
      (rows ∙ put_all_rows (λ (x : Counter). x.key) counter_row (λ _. refl) [] firsts)
      (subst IsTable (sym rows) (IsTable-put_all [] (map counter_row firsts) tt))

  pub fill : (old new : State) (r : Result (Unit {0}) Error) → (HasCleanDisk new → Ran fill_text given old new r)
      → Survives old new (CommitsBy fill_text given old)
      → Takes (IsBare guest_schema) (λ _. Holds (new_content number)) old new r
  fill = makes (IsBare guest_schema) guest_schema (λ c d h. h.schema) fill_text given (Insert 0 (Values terms 3)) fill_is fill_plain refl fill_edit
      (λ _. Holds (new_content number)) fills

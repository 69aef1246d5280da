-- The first rows of a new store.
use Rattle.std.proofs.Common.{◌≡◌, ◌≢◌, ℕ, pos, List, [], ◌∷◌, map, codes, None, Result, refl, sym, ap, subst, ◌∙◌}
use Rattle.std.specs.Prelude.{⊤}
use Rattle.std.specs.List.{AllByRecursion}
use Rattle.sqlite.specs.declared.types.Value.TheVariants.{Null, Int}
use Rattle.sqlite_trees.specs.Tree.{IsTable, no_trees}
use Rattle.sqlite.specs.Term.{Term, lit}
use Rattle.sqlite.specs.Source.TheVariants.{Values}
use Rattle.sqlite.specs.Command.TheVariants.{Insert}
use Rattle.sqlite_rules.specs.Cast.{cast_row}
use Rattle.sqlite_rules.specs.Edit.{numbered, put_all}
use Rattle.sqlite.specs.Rowids.TheVariants.{Chosen}
use Rattle.sqlite_tied.specs.Compute.{everything}
use Rattle.sqlite.specs.declared.error.Error.{Error}
use Rattle.sqlite.specs.Listing.{understood}
use Rattle.sqlite.specs.State.{State, HasCleanDisk, Survives, CommitsBy, Writes}
use Rattle.sqlite.proofs.Callers.{IsPlain, command_of, statement_of}
use Rattle.fuse_store_tables.specs.Layout.{meta, schema_for, version_of}
use Rattle.fuse_store_tables.specs.declared.version.Layout.{Layout}
use Rattle.fuse_store_tables.specs.declared.version.Layout.TheVariants.{Second, Third}
use Rattle.sqlite.specs.Effect.{Database}
use Rattle.fuse_store_tables.specs.Content.{Counter, HasRows, stored, counter_row}
use Rattle.fuse_store_tables.specs.Making.{IsBare, first_counters, counters_alone}
use Rattle.fuse_store_tables.specs.inner.Steps.{HasCounters}
use Rattle.fuse_store_tables.specs.Moves.{Takes}
use Rattle.fuse_store_tables.specs.inner.Performing.{Ran}
use Rattle.fuse_store_tables.proofs.Writing.{makes}
use Rattle.fuse_store_tables.proofs.Tables.{wrote, quiet, meta_listed}
use Rattle.fuse_store_tables.proofs.Keyed.{put_all_rows, numbered_rows, IsTable-put_all}
use Rattle.fuse_store_tables.proofs.RowLemmas.{cast_int, cast_null, inserted_all}
use Rattle.sqlite_resolve.specs.Compile.{first}
use Rattle.fuse_store_tables.proofs.Edits.{IsEditText}

abbrev pub second_fill : List ℕ
second_fill = codes "INSERT INTO meta (k, v) VALUES (1, 2), (2, 2), (3, 1), (4, 3), (5, 1), (6, 0), (7, 0), (8, 0), (9, 0), (10, 0), (11, 1)"

abbrev pub third_fill : List ℕ
third_fill = codes "INSERT INTO meta (k, v) VALUES (1, 3), (2, 2), (3, 1), (4, 3), (5, 1), (6, 0), (7, 0), (8, 0), (9, 0), (10, 0), (11, 1)"

abbrev pub fill_text : Layout → List ℕ
fill_text Second = second_fill
fill_text Third = third_fill

abbrev terms : Layout → List Term
terms l =
    lit (Int (pos 1)) ∷ lit Null ∷ lit (Int (pos (version_of l))) ∷ lit (Int (pos 2)) ∷ lit Null ∷ lit (Int (pos 2)) ∷ lit (Int (pos 3)) ∷ lit Null ∷ lit (Int (pos 1))
    ∷ lit (Int (pos 4)) ∷ lit Null ∷ lit (Int (pos 3)) ∷ lit (Int (pos 5)) ∷ lit Null ∷ lit (Int (pos 1)) ∷ lit (Int (pos 6)) ∷ lit Null ∷ lit (Int (pos 0))
    ∷ lit (Int (pos 7)) ∷ lit Null ∷ lit (Int (pos 0)) ∷ lit (Int (pos 8)) ∷ lit Null ∷ lit (Int (pos 0)) ∷ lit (Int (pos 9)) ∷ lit Null ∷ lit (Int (pos 0))
    ∷ lit (Int (pos 10)) ∷ lit Null ∷ lit (Int (pos 0)) ∷ lit (Int (pos 11)) ∷ lit Null ∷ lit (Int (pos 1)) ∷ []

fill_is : (l : Layout) → command_of (understood (schema_for l) (fill_text l)) ≡ Insert 0 (Values (terms l) 3)
unfolding understood everything
fill_is Second = refl
fill_is Third = refl

fill_plain : (l : Layout) → IsPlain (understood (schema_for l) (fill_text l))
unfolding understood everything
fill_plain Second = (refl, refl)
fill_plain Third = (refl, refl)

pub fill_edit : (l : Layout) → IsEditText (first (fill_text l))
unfolding first everything
fill_edit Second = tt
fill_edit Third = tt

cast_counter : (c : Counter) → cast_row meta (counter_row c) ≡ counter_row c
cast_counter c = rw (cast_int (pos c.key), cast_int (pos c.value), cast_null)

cast_counters : (cs : List Counter) → map (λ s. cast_row meta s) (map counter_row cs) ≡ map counter_row cs
cast_counters [] = refl
cast_counters (c ∷ cs) = rw (cast_counter c) (ap (λ more. counter_row c ∷ more) (cast_counters cs))

only_meta : (l : Layout) → AllByRecursion (λ t. t.tree ≢ 0 → stored (counters_alone l) t.tree ≡ no_trees t.tree) (schema_for l).tables
only_meta Second = (λ e. absurd (e refl), (λ _. refl, (λ _. refl, (λ _. refl, (λ _. refl, (λ _. refl, (λ _. refl, (λ _. refl, tt))))))))
only_meta Third = (λ e. absurd (e refl), (λ _. refl, (λ _. refl, (λ _. refl, (λ _. refl, (λ _. refl, (λ _. refl, (λ _. refl, (λ _. refl, tt)))))))))

bare_meta : (l : Layout) (d : Database) → AllByRecursion (HasRows no_trees d.trees) (schema_for l).tables → (d.trees 0 ≡ []) × IsTable (d.trees 0)
bare_meta Second d r = r.0
bare_meta Third d r = r.0

fills : (l : Layout) (c : ⊤) (old new : State) (n : ℕ) → IsBare (schema_for l) c old.now → Writes old new None (Insert 0 (Values (terms l) 3))
    (statement_of (fill_text l) (understood (schema_for l) (fill_text l))) [] n → HasCounters l c new.now
fills l c old new n at w =
    let put = inserted_all (schema_for l) 0 meta (meta_listed l) (terms l) 3 old new _ [] n (map counter_row (first_counters l)) (λ keys news. quiet l keys 0 [] news)
    (cast_counters (first_counters l)) at.schema w in
    let was = bare_meta l old.now at.rows in
    let rows : new.now.trees 0 ≡ put_all [] (map counter_row (first_counters l)) =
    put.rows ∙ ap (λ all. put_all all (numbered Chosen all (map counter_row (first_counters l)))) was.0
    ∙ ap (put_all []) (numbered_rows (λ x. x.key) counter_row (λ _. refl) [] (first_counters l) (λ all x. refl)) in
    wrote (schema_for l) no_trees (stored (counters_alone l)) meta old.now new.now at put.spares w.sound (only_meta l)
    (rows ∙ put_all_rows (λ x. x.key) counter_row (λ _. refl) [] (first_counters l))
    (subst IsTable (sym rows) (IsTable-put_all [] (map counter_row (first_counters l)) tt))

pub fill : (l : Layout) (old new : State) (r : Result (Unit {0}) Error) → (HasCleanDisk new → Ran (fill_text l) [] old new r)
    → Survives old new (CommitsBy (fill_text l) [] old)
    → Takes (IsBare (schema_for l)) (HasCounters l) old new r
fill l = makes (IsBare (schema_for l)) (schema_for l) (λ c d h. h.schema) (fill_text l) [] (Insert 0 (Values (terms l) 3)) (fill_is l) (fill_plain l) refl (fill_edit l)
    (HasCounters l) (fills l)

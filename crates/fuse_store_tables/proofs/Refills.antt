-- The statements that refill the tables when a store of version 1 is opened.
use Rattle.std.proofs.Common.{◌≡◌, ℕ, pos, negsuc, List, [], ◌∷◌, map, fold, codes, true, None, Result, refl, sym, ap, subst, ◌∙◌}
use Rattle.sqlite.specs.declared.types.Value.TheVariants.{Null, Int, Blob}
use Rattle.sqlite.specs.Order.{Row}
use Rattle.sqlite_trees.specs.Tree.{put_row, IsTable}
use Rattle.sqlite_trees.proofs.TreeLemmas.{IsTable-put_row}
use Rattle.sqlite_value.specs.declared.keys.Collation.TheVariants.{Binary}
use Rattle.sqlite.specs.Term.{Term, lit, col}
use Rattle.sqlite.specs.Program.{overlay}
use Rattle.sqlite.specs.Query.{IsAnswerAs}
use Rattle.sqlite_schema.specs.declared.program.Program.{Program}
use Rattle.sqlite.specs.Source.TheVariants.{Values, Query}
use Rattle.sqlite.specs.Command.TheVariants.{Insert}
use Rattle.sqlite_rules.specs.Cast.{cast_row}
use Rattle.sqlite_rules.specs.Edit.{put_all}
use Rattle.sqlite_tied.specs.Compute.{everything}
use Rattle.sqlite.specs.Effect.{Answers}
use Rattle.sqlite.specs.declared.error.Error.{Error}
use Rattle.sqlite.specs.Listing.{understood}
use Rattle.sqlite.specs.State.{State, HasCleanDisk, Survives, CommitsBy, Writes}
use Rattle.sqlite.proofs.Callers.{IsPlain, command_of, statement_of}
use Rattle.fuse_store_tables.specs.Layout.{meta, kept, schema_for, store_schema}
use Rattle.fuse_store_tables.specs.Content.{Content, Counter, Answer, Holds, stored, counter_row, answer_row, kept_row, kept_key, put_by, with_counter}
use Rattle.fuse_store_tables.specs.Opening.{under}
use Rattle.fuse_store_tables.specs.inner.Steps.{HoldsIn, with_copies}
use Rattle.fuse_store_tables.specs.Moves.{Makes, Takes}
use Rattle.fuse_store_tables.specs.inner.Performing.{Ran}
use Rattle.fuse_store_tables.proofs.Tables.{wrote, quiet, only_counters, only_kept_in}
use Rattle.fuse_store_tables.proofs.Keyed.{put_rows, put_all_rows, numbered_rows, IsTable-put_all}
use Rattle.fuse_store_tables.proofs.Ordered.{ordered_query, answered_in_order, rises_from}
use Rattle.fuse_store_tables.proofs.CounterRows.{all_of}
use Rattle.fuse_store_tables.proofs.KeptRows.{cast_as}
use Rattle.fuse_store_tables.proofs.RowLemmas.{cast_int, cast_null, inserted, inserted_from}
use Rattle.sqlite_resolve.specs.Compile.{first}
use Rattle.fuse_store_tables.proofs.Edits.{IsEditText}
use Rattle.fuse_store_tables.specs.declared.version.Layout.{Layout}
use Rattle.fuse_store_tables.specs.declared.version.Layout.TheVariants.{Second, Third}
use Rattle.fuse_store_tables.proofs.Writing.{makes}
use Rattle.fuse_store_tables.proofs.Laid.{held_in, in_layout, schema_known, makes_laid}
use Rattle.fuse_store_tables.proofs.Tables.{kept_at, kept_listed, laid, meta_listed}

-- ---- a row of `meta` more

abbrev pub counter_text : List ℕ
counter_text = codes "INSERT INTO meta (k, v) VALUES (?1, ?2)"

abbrev counter_terms : List Term
counter_terms = col 0 0 ∷ lit Null ∷ col 0 1 ∷ []

counter_is : (l : Layout) → command_of (understood (schema_for l) counter_text) ≡ Insert 0 (Values counter_terms 3)
unfolding understood everything
counter_is Second = refl
counter_is Third = refl

counter_plain : (l : Layout) → IsPlain (understood (schema_for l) counter_text)
unfolding understood everything
counter_plain Second = (refl, refl)
counter_plain Third = (refl, refl)

pub counter_edit : IsEditText (first counter_text)
unfolding first everything
counter_edit = tt

abbrev given_counter : ℕ → ℕ → Row
given_counter key value = Int (pos key) ∷ Int (pos value) ∷ []

abbrev new_counter : ℕ → ℕ → Counter
new_counter key value = record { key = key; value = value }

cast_counter : (key value : ℕ) → cast_row meta (counter_row (new_counter key value)) ≡ counter_row (new_counter key value)
cast_counter key value = rw (cast_int (pos key), cast_int (pos value), cast_null)

counter_in : (key value : ℕ) (c : Content) (old new : State) (n : ℕ) → Holds c old.now → Writes old new None (Insert 0 (Values counter_terms 3))
    (statement_of counter_text (understood (schema_for c.layout) counter_text)) (given_counter key value) n
    → Holds (with_counter key value c) new.now
counter_in key value c old new n at w =
    let a = new_counter key value in
    let put = inserted (schema_for c.layout) 0 meta (meta_listed c.layout) counter_terms 3 old new _ (given_counter key value) n (counter_row a) (λ keys news. quiet c.layout keys 0 [] news)
    (ap (λ r. r ∷ []) (cast_counter key value)) at.schema w in
    let was = (laid c old.now at).counters in
    wrote (schema_for c.layout) (stored c) (stored (with_counter key value c)) meta old.now new.now at put.spares w.sound
    (only_counters c (put_by (λ x. x.key) a c.counters))
    (put.rows ∙ ap (put_row (counter_row a)) was.0 ∙ put_rows (λ x. x.key) counter_row (λ _. refl) a c.counters)
    (subst IsTable (sym put.rows) (IsTable-put_row (counter_row a) (old.now.trees 0) was.1))

pub adds_counter : (key value : ℕ) (old new : State) (r : Result (Unit {0}) Error) → (HasCleanDisk new → Ran counter_text (given_counter key value) old new r)
    → Survives old new (CommitsBy counter_text (given_counter key value) old)
    → Makes (with_counter key value) old new r
adds_counter key value = makes_laid counter_text (given_counter key value) (λ _. Insert 0 (Values counter_terms 3)) counter_is
    counter_plain (λ _. refl) counter_edit (λ c. Holds (with_counter key value c)) (counter_in key value)

-- ---- the records of version 1

abbrev pub copy_text : List ℕ
copy_text = codes "INSERT INTO kept (id, lot, errno, body) SELECT id, 0, errno, body FROM answers ORDER BY id"

abbrev copy_terms : List Term
copy_terms = col 1 0 ∷ lit Null ∷ lit (Int (pos 0)) ∷ col 1 2 ∷ col 1 3 ∷ []

abbrev copy_query : Program
copy_query = record {
  lets = [];
  body = record (ordered_query 8 [] copy_terms (lit (Int (negsuc 0)))) {
    collations = Binary ∷ Binary ∷ Binary ∷ Binary ∷ Binary
        ∷ [];
  };
}

copy_is : command_of (understood store_schema copy_text) ≡ Insert 7 (Query copy_query)
unfolding understood everything
copy_is = refl

copy_plain : IsPlain (understood store_schema copy_text)
unfolding understood everything
copy_plain = (refl, refl)

pub copy_edit : IsEditText (first copy_text)
unfolding first everything
copy_edit = tt

abbrev copied : List Answer → List Row
copied all = map kept_row (map (under 0) all)

cast_copies : (all : List Answer) → map (λ s. cast_row kept s) (map (λ a. kept_row (under 0 a)) all) ≡ copied all
cast_copies [] = refl
cast_copies (a ∷ all) = rw (cast_as (under 0 a)) (ap (λ more. kept_row (under 0 a) ∷ more) (cast_copies all))

copies : (c : Content) (old new : State) (n : ℕ) → HoldsIn Second c old.now → Writes old new None (Insert 7 (Query copy_query))
    (statement_of copy_text (understood store_schema copy_text)) [] n → HoldsIn Second (with_copies c) new.now
copies c old new n at w =
    let held = held_in Second c old.now at in
    let source = held.rows.1.1.1.1.1.0 in
    let reads = λ (given : List Row) (h : Answers (record old.now { schema = store_schema }) copy_query [] given).
    let a = h.answer Null in
    let alike : IsAnswerAs Null (ordered_query 8 [] copy_terms (lit (Int (negsuc 0)))) (overlay old.now.trees []) [] given =
    record {
      staged = a.staged;
      grouped = a.grouped;
      kept = a.kept;
      distinct = a.distinct;
      ordered = a.ordered;
      same = a.same;
      sorted = a.sorted;
      shown =
          a.shown;
    } in
    ap (map (λ s. cast_row kept s)) (answered_in_order (λ (a : Answer). a.id) (λ a. Null ∷ Int (pos a.said.errno) ∷ Blob a.said.body ∷ []) (λ _. true) Null
    (overlay old.now.trees []) [] [] (λ _. refl) copy_terms (lit (Int (negsuc 0))) 8 c.answers given source.0
    (rises_from (λ (a : Answer). a.id) answer_row (λ _. refl) c.answers (subst IsTable source.0 source.1)) alike)
    ∙ ap (λ (all : List Answer). map (λ s. cast_row kept s) (map (λ a. kept_row (under 0 a)) all)) (all_of c.answers) ∙ cast_copies c.answers in
    let put = inserted_from store_schema 7 kept refl copy_query old new _ [] n (copied c.answers) (λ keys news. quiet Second keys 10 [] news) reads held.schema w in
    let was = held.rows.1.1.1.1.1.1.1.0 in
    let news = map (under 0) c.answers in
    let rows : new.now.trees 10 ≡ put_all (old.now.trees 10) (map kept_row news) =
    put.rows ∙ ap (put_all (old.now.trees 10)) (numbered_rows (λ k. k.id) kept_row (λ _. refl) (old.now.trees 10) news (λ all x. refl)) in
    in_layout Second (with_copies c) new.now at.1
    (wrote store_schema (stored c) (stored (with_copies c)) kept old.now new.now held put.spares w.sound (only_kept_in Second c (fold (λ all k. put_by kept_key k all) c.kept
    news))
    (rows ∙ ap (λ all. put_all all (map kept_row news)) was.0 ∙ put_all_rows (λ k. k.id) kept_row (λ _. refl) c.kept news)
    (subst IsTable (sym rows) (IsTable-put_all (old.now.trees 10) (map kept_row news) was.1)))

pub copies_all : (old new : State) (r : Result (Unit {0}) Error) → (HasCleanDisk new → Ran copy_text [] old new r)
    → Survives old new (CommitsBy copy_text [] old) → Takes (HoldsIn Second) (λ c. HoldsIn Second (with_copies c)) old new r
copies_all =
    makes (HoldsIn Second) store_schema (schema_known Second) copy_text [] (Insert 7 (Query copy_query)) copy_is copy_plain refl copy_edit
    (λ c. HoldsIn Second (with_copies c)) copies

-- The statements on the table of nodes.
use Rattle.std.proofs.Common.{◌≡◌, ℕ, pos, List, [], ◌∷◌, map, codes, Bool, true, false, nat_lt, ◌&&◌, Some, None, Ok, Err, Result}
use Rattle.std.proofs.Common.{OnOk, IfOk, IfErr, refl, sym, ap, subst, ◌∙◌, ◌++◌}
use Rattle.std.specs.List.{list_all}
use Rattle.std.specs.Option.{option_to_list, is_some}
use Rattle.std.specs.Ordering.{is_eq}
use Rattle.std.specs.List.Sorted.{IsPermutation}
use Rattle.sqlite.specs.declared.types.Value.TheVariants.{Null, Int}
use Rattle.sqlite.specs.Order.{Row}
use Rattle.sqlite_trees.specs.Tree.{IsTable, put_row}
use Rattle.sqlite_trees.proofs.TreeLemmas.{IsTable-put_row}
use Rattle.sqlite_value.specs.declared.keys.Collation.TheVariants.{Binary}
use Rattle.sqlite_sql.specs.declared.ops.BinaryOp.TheVariants.{Compare}
use Rattle.sqlite_sql.specs.declared.ops.CompareOp.TheVariants.{Eq}
use Rattle.sqlite_sql.specs.Ops.{binary, is_true, from_truth}
use Rattle.sqlite.specs.Term.{Term, lit, col, op2, holds}
use Rattle.sqlite.specs.Program.{overlay}
use Rattle.sqlite.specs.Source.TheVariants.{Values}
use Rattle.sqlite.specs.Command.TheVariants.{Insert, Update, Delete, Select}
use Rattle.sqlite_rules.specs.Cast.{cast_row}
use Rattle.sqlite_tied.specs.Compute.{everything}
use Rattle.sqlite.specs.declared.error.Error.{Error}
use Rattle.sqlite.specs.Effect.{Database}
use Rattle.sqlite_rules.specs.Edit.{is_taken}
use Rattle.sqlite.specs.Listing.{understood, reads_listing}
use Rattle.sqlite.specs.State.{State, HasCleanDisk, Survives, CommitsBy, Writes, Shown, FailsToQuery, CommitsShowing}
use Rattle.sqlite.proofs.Callers.{IsPlain, command_of, statement_of}
use Rattle.fuse_store_tables.specs.Layout.{schema_for}
use Rattle.fuse_store_tables.specs.Content.{Content, Holds, stored, put_by, has_by, at_by, node_key, node_row, node_columns, renumbered}
use Rattle.fuse_store_tables.specs.inner.Columns.{given_node}
use Rattle.fuse_store_tables.specs.Content.{with_node, set_node, without_node}
use Rattle.fuse_store_tables.specs.Moves.{InsideAs, Makes, Takes}
use Rattle.fuse_store_tables.specs.inner.Performing.{Ran, RanAny}
use Rattle.fuse_store_tables.proofs.Tables.{wrote, quiet, only_nodes}
use Rattle.fuse_store_tables.proofs.Keyed.{put_rows, row_cmp_nat, found_rows, set_is_put, set_missing, none_there, one_there, none_taken}
use Rattle.fuse_store_tables.proofs.RowLemmas.{cast_int, cast_null, inserted}
use Rattle.fuse_store_tables.proofs.Reading.{plain_query, answered, only, truth_of, looks, read}
use Rattle.fuse_store_tables.proofs.Updating.{changing, changes, changes_some}
use Rattle.fuse_store_tables.proofs.Deletes.{picking, picks}
use Rattle.std.specs.Int.{w64, cast_signed}
use Rattle.fuse_rows.specs.declared.rows.NodeRow.{NodeRow}
use Rattle.sqlite_resolve.specs.Compile.{first}
use Rattle.fuse_store_tables.proofs.Edits.{IsEditText}
use Rattle.fuse_store_tables.proofs.Queries.{IsSelectText}
use Rattle.fuse_store_tables.specs.declared.version.Layout.{Layout}
use Rattle.fuse_store_tables.specs.declared.version.Layout.TheVariants.{Second, Third}
use Rattle.fuse_store_tables.proofs.Laid.{makes_laid, schema_known}
use Rattle.fuse_store_tables.proofs.Tables.{laid, nodes_listed, nodes_for}
use Rattle.fuse_store_tables.proofs.Writing.{makes, makes_any, says_any, told_before}
use Rattle.fuse_store_tables.specs.inner.Rows.{PutsRow}
use Rattle.fuse_store_tables.specs.inner.Steps.{HoldsIn}
use Rattle.fuse_rows.specs.Blocks.{how_many}
use Rattle.sqlite_schema.specs.declared.command.Command.{Command}
use Rattle.sqlite.specs.Rows.{stamped}
use Rattle.sqlite.specs.Effect.{value_rows}
use Rattle.sqlite.specs.Term.{eval_all}
use Rattle.std.proofs.Common.{length, ◌/◌, filter}
use Rattle.fuse_store_tables.specs.Content.{links_of, set_by}

-- ---- a new row

abbrev pub second_insert : List ℕ
second_insert = codes "INSERT INTO nodes (node, mode, uid, gid, rdev, size, atime, atimensec, mtime, mtimensec, ctime, ctimensec, up, subdirs) VALUES (?1, ?2, ?3, ?4, ?5, ?6, ?7, ?8, ?9, ?10, ?11, ?12, ?13, ?14)"

abbrev pub third_insert : List ℕ
third_insert =
    codes "INSERT INTO nodes (node, mode, uid, gid, rdev, size, atime, atimensec, mtime, mtimensec, ctime, ctimensec, up, "
    ++ codes "subdirs, links, written, attributes) VALUES (?1, ?2, ?3, ?4, ?5, ?6, ?7, ?8, ?9, ?10, ?11, ?12, ?13, ?14, ?15, ?16, ?17)"

abbrev pub insert_text : Layout → List ℕ
insert_text Second = second_insert
insert_text Third = third_insert

abbrev later_terms : Layout → List Term
later_terms Second = []
later_terms Third = col 0 14 ∷ col 0 15 ∷ col 0 16 ∷ []

abbrev width_for : Layout → ℕ
width_for Second = 15
width_for Third = 18

abbrev insert_terms : Layout → List Term
insert_terms l = col 0 0 ∷ lit Null ∷ col 0 1 ∷ col 0 2 ∷ col 0 3 ∷ col 0 4 ∷ col 0 5 ∷ col 0 6 ∷ col 0 7 ∷ col 0 8 ∷ col 0 9 ∷ col 0 10 ∷ col 0 11 ∷ col 0 12
    ∷ col 0 13 ∷ later_terms l

abbrev insert_command : Layout → Command
insert_command l = Insert 1 (Values (insert_terms l) (width_for l))

insert_is : (l : Layout) → command_of (understood (schema_for l) (insert_text l)) ≡ insert_command l
unfolding understood everything
insert_is Second = refl
insert_is Third = refl

insert_plain : (l : Layout) → IsPlain (understood (schema_for l) (insert_text l))
unfolding understood everything
insert_plain Second = (refl, refl)
insert_plain Third = (refl, refl)

pub insert_edit : (l : Layout) → IsEditText (first (insert_text l))
unfolding first everything
insert_edit Second = tt
insert_edit Third = tt

abbrev pub given : Layout → NodeRow → Row
given l x = given_node l x

pub cast_as : (l : Layout) (x : NodeRow) → cast_row (nodes_for l) (node_row l x) ≡ node_row l x
cast_as Second x = rw (
  cast_int (pos x.node),
  cast_int (pos x.mode),
  cast_int (pos x.uid),
  cast_int (pos x.gid),
  cast_int (pos x.rdev),
  cast_int (pos x.size),
  cast_int
      (cast_signed w64 x.atime.secs),
  cast_int (pos x.atime.nanos),
  cast_int (cast_signed w64 x.mtime.secs),
  cast_int (pos x.mtime.nanos),
  cast_int
      (cast_signed w64 x.ctime.secs),
  cast_int (pos x.ctime.nanos),
  cast_int (pos x.up),
  cast_int (pos x.subdirs),
  cast_null,
)
cast_as Third x = rw (
  cast_int (pos x.node),
  cast_int (pos x.mode),
  cast_int (pos x.uid),
  cast_int (pos x.gid),
  cast_int (pos x.rdev),
  cast_int (pos x.size),
  cast_int
      (cast_signed w64 x.atime.secs),
  cast_int (pos x.atime.nanos),
  cast_int (cast_signed w64 x.mtime.secs),
  cast_int (pos x.mtime.nanos),
  cast_int
      (cast_signed w64 x.ctime.secs),
  cast_int (pos x.ctime.nanos),
  cast_int (pos x.up),
  cast_int (pos x.subdirs),
  cast_int (pos (links_of x)),
  cast_int (pos (how_many x.written)),
  cast_int (pos 0),
  cast_null,
)

-- the values of the statement are those of the row
insert_values : (l : Layout) (x : NodeRow) → map (λ s. cast_row (nodes_for l) s)
    (value_rows (stamped (nodes_for l) (given l x)) (width_for l) (length (insert_terms l) / width_for l) (insert_terms l)) ≡ node_row l x ∷ []
insert_values Second x = ap (λ r. r ∷ []) (cast_as Second x)
insert_values Third x = ap (λ r. r ∷ []) (cast_as Third x)

module _ (l : Layout) where
  abbrev Inserts : NodeRow → State → State → ℕ → Type 0
  Inserts x old new n = Writes old new None (insert_command l) (statement_of (insert_text l) (understood (schema_for l) (insert_text l))) (given l x) n

  puts : (x : NodeRow) (c : Content) (old new : State) (n : ℕ) → HoldsIn l c old.now → Inserts x old new n → PutsRow (nodes_for l) (node_row l x) old.now new.now
  puts x c old new n at w =
      inserted (schema_for l) 1 (nodes_for l) (nodes_listed l) (insert_terms l) (width_for l) old new _ (given l x) n (node_row l x) (λ keys news. quiet l keys 1 [] news)
      (insert_values l x) (schema_known l c old.now at) w

  inserts : (x : NodeRow) (c : Content) (old new : State) (n : ℕ) → HoldsIn l c old.now → Inserts x old new n → Holds (with_node x c) new.now
  inserts x c old new n at w =
      let put = puts x c old new n at w in
      let was = (laid c old.now at.0).nodes in
      let row = λ (y : NodeRow). node_row c.layout y in
      let rows : new.now.trees 1 ≡ put_row (row x) (old.now.trees 1) = subst (λ k. new.now.trees 1 ≡ put_row (node_row k x) (old.now.trees 1)) (sym at.1) put.rows in
      wrote (schema_for c.layout) (stored c) (stored (with_node x c)) (nodes_for l) old.now new.now at.0 put.spares w.sound (only_nodes c (put_by node_key x c.nodes))
      (rows ∙ ap (put_row (row x)) was.0 ∙ put_rows node_key row (λ _. refl) x c.nodes)
      (subst IsTable (sym rows) (IsTable-put_row (row x) (old.now.trees 1) was.1))

  pub adds : (x : NodeRow) (old new : State) (r : Result (Unit {0}) Error) → (HasCleanDisk new → Ran (insert_text l) (given l x) old new r)
      → Survives old new (CommitsBy (insert_text l) (given l x) old) → Takes (HoldsIn l) (λ c. Holds (with_node x c)) old new r
  adds x = makes (HoldsIn l) (schema_for l) (schema_known l) (insert_text l) (given l x) (insert_command l) (insert_is l) (insert_plain l) refl (insert_edit l)
      (λ c. Holds (with_node x c)) (inserts x)

  -- its key was not there
  fresh : (x : NodeRow) (c : Content) (old new : State) (n : ℕ) → HoldsIn l c old.now → Inserts x old new n → at_by node_key x.node c.nodes ≡ None
  fresh x c old new n at w =
      let put = puts x c old new n at w in
      let row = λ (y : NodeRow). node_row c.layout y in
      none_taken node_key row (λ _. refl) x c.nodes (subst (λ rows. is_taken rows (row x) ≡ false) (laid c old.now at.0).nodes.0
      (subst (λ k. is_taken (old.now.trees 1) (node_row k x) ≡ false) (sym at.1) put.free))

  pub adds_new : (x : NodeRow) (old new : State) (r : Result (Unit {0}) Error) → (HasCleanDisk new → Ran (insert_text l) (given l x) old new r) → HasCleanDisk new
      → OnOk r ((c : Content) → InsideAs (HoldsIn l c) old → at_by node_key x.node c.nodes ≡ None)
  adds_new x = told_before (HoldsIn l) (schema_for l) (schema_known l) (insert_text l) (given l x) (insert_command l) (insert_is l) (insert_plain l) refl
      (λ c. at_by node_key x.node c.nodes ≡ None) (fresh x)

-- ---- by the key

abbrev pub key_terms : List Term
key_terms = op2 (Compare Eq Binary) (col 1 0) (col 0 0) ∷ []

pub key_tests : (l : Layout) (k : ℕ) (params : Row) (x : NodeRow) → list_all (holds ((Int (pos k) ∷ params) ∷ node_row l x ∷ [])) key_terms ≡ has_by node_key k x
unfolding binary
key_tests l k params x = ap (λ o. is_true (from_truth (Some (is_eq o))) && true) (row_cmp_nat (node_key x) k) ∙ truth_of (has_by node_key k x)

-- ---- a row gone

abbrev pub delete_text : List ℕ
delete_text = codes "DELETE FROM nodes WHERE node = ?1"

delete_is : (l : Layout) → command_of (understood (schema_for l) delete_text) ≡ Delete 1 (picking 1 key_terms)
unfolding understood everything
delete_is Second = refl
delete_is Third = refl

delete_plain : (l : Layout) → IsPlain (understood (schema_for l) delete_text)
unfolding understood everything
delete_plain Second = (refl, refl)
delete_plain Third = (refl, refl)

pub delete_edit : IsEditText (first delete_text)
unfolding first everything
delete_edit = tt

gone : (k : ℕ) (c : Content) (old new : State) (n : ℕ) → Holds c old.now → Writes old new None (Delete 1 (picking 1 key_terms)) (statement_of delete_text
    (understood (schema_for c.layout) delete_text)) (Int (pos k) ∷ []) n
    → Holds (without_node k c) new.now
gone k c old new n at w =
    let was = (laid c old.now at).nodes in
    let now = picks c.layout node_key (node_row c.layout) (λ _. refl) (has_by node_key k) 1 (nodes_for c.layout) (nodes_listed c.layout) key_terms (Int (pos k) ∷ []) (key_tests c.layout k []) (λ _. refl) c.nodes old new _ n
    at.schema was.0 was.1 w in
    wrote (schema_for c.layout) (stored c) (stored (without_node k c)) (nodes_for c.layout) old.now new.now at now.2 w.sound (only_nodes c _) now.0 now.1

pub removes : (k : ℕ) (old new : State) (r : Result (Unit {0}) Error) → (HasCleanDisk new → Ran delete_text (Int (pos k) ∷ []) old new r)
    → Survives old new (CommitsBy delete_text (Int (pos k) ∷ []) old) → Makes (without_node k) old new r
removes k = makes_laid delete_text (Int (pos k) ∷ []) (λ _. Delete 1 (picking 1 key_terms)) delete_is delete_plain (λ _. refl) delete_edit
    (λ c. Holds (without_node k c)) (gone k)

-- ---- a row read

abbrev pub second_select : List ℕ
second_select = codes "SELECT mode, uid, gid, rdev, size, atime, atimensec, mtime, mtimensec, ctime, ctimensec, up, subdirs FROM nodes WHERE node = ?1"

abbrev pub third_select : List ℕ
third_select =
    codes "SELECT mode, uid, gid, rdev, size, atime, atimensec, mtime, mtimensec, ctime, ctimensec, up, subdirs, links, written, "
    ++ codes "attributes FROM nodes WHERE node = ?1"

abbrev pub select_text : Layout → List ℕ
select_text Second = second_select
select_text Third = third_select

abbrev later_shown : Layout → List Term
later_shown Second = []
later_shown Third = col 1 15 ∷ col 1 16 ∷ col 1 17 ∷ []

abbrev select_terms : Layout → List Term
select_terms l = col 1 2 ∷ col 1 3 ∷ col 1 4 ∷ col 1 5 ∷ col 1 6 ∷ col 1 7 ∷ col 1 8 ∷ col 1 9 ∷ col 1 10 ∷ col 1 11 ∷ col 1 12 ∷ col 1 13 ∷ col 1 14 ∷ later_shown l

abbrev later_names : Layout → List (List ℕ)
later_names Second = []
later_names Third = codes "links" ∷ codes "written" ∷ codes "attributes" ∷ []

abbrev select_command : Layout → Command
select_command l = Select (record { lets = []; body = plain_query 1 key_terms (select_terms l) }) (codes "mode"
    ∷ codes "uid" ∷ codes "gid" ∷ codes "rdev" ∷ codes "size" ∷ codes "atime" ∷ codes "atimensec" ∷ codes "mtime" ∷ codes "mtimensec" ∷ codes "ctime"
    ∷ codes "ctimensec" ∷ codes "up" ∷ codes "subdirs" ∷ later_names l)

select_is : (l : Layout) → command_of (understood (schema_for l) (select_text l)) ≡ select_command l
unfolding understood everything
select_is Second = refl
select_is Third = refl

select_plain : (l : Layout) → IsPlain (understood (schema_for l) (select_text l))
unfolding understood everything
select_plain Second = (refl, refl)
select_plain Third = (refl, refl)

pub select_reads : (l : Layout) → IsSelectText (first (select_text l))
unfolding first everything
select_reads Second = (_, refl)
select_reads Third = (_, refl)

select_unlisted : (l : Layout) → reads_listing (schema_for l) (select_text l) ≡ false
unfolding understood everything
select_unlisted Second = refl
select_unlisted Third = refl

shows_all : (l : Layout) (params : Row) (xs : List NodeRow)
    → map (λ x. eval_all (select_terms l) (params ∷ node_row l x ∷ [])) xs ≡ map (node_columns l) xs
shows_all l params [] = refl
shows_all Second params (x ∷ xs) = ap (λ more. node_columns Second x ∷ more) (shows_all Second params xs)
shows_all Third params (x ∷ xs) = ap (λ more. node_columns Third x ∷ more) (shows_all Third params xs)

module _ (l : Layout) where
  finds : (k : ℕ) (c : Content) (old new : State) (rows : List Row) → InsideAs (HoldsIn l c) old → Shown (select_text l) (Int (pos k) ∷ []) old new rows
      → rows ≡ map (node_columns l) (option_to_list (at_by node_key k c.nodes))
  finds k c old new rows at h =
      let params = Int (pos k) ∷ [] in
      let was = (laid c old.now at.holds.0).nodes in
      let has : old.now.trees 1 ≡ map (node_row l) c.nodes = subst (λ j. old.now.trees 1 ≡ map (node_row j) c.nodes) at.holds.1 was.0 in
      let answer = (read (HoldsIn l) (schema_for l) (schema_known l) (select_text l) params (select_command l) (select_is l) (select_plain l) (select_unlisted l) c old new
      rows at h).answer Null in
      let same = answered (node_row l) (has_by node_key k) Null (overlay old.now.trees []) key_terms params (key_tests l k []) 1 (select_terms l) c.nodes rows has
      answer in
      let shown = subst (λ rs. IsPermutation rs rows) (shows_all l params (filter (has_by node_key k) c.nodes)) same in
      only (at_by node_key k c.nodes) (node_columns l) rows (subst (λ xs. IsPermutation (map (node_columns l) xs) rows) (found_rows node_key (node_row l) (λ _. refl) k
      c.nodes (subst IsTable has was.1)) shown)

  pub look_makes : {X : Type 0} (items : X → List Row) (k : ℕ) (old new : State) (r : Result X Error)
      → (HasCleanDisk new → IfOk r (λ x. Shown (select_text l) (Int (pos k) ∷ []) old new (items x)))
      → (HasCleanDisk new → IfErr r (FailsToQuery (select_text l) (Int (pos k) ∷ []) old new)) → Survives old new (CommitsShowing (select_text l) (Int (pos k) ∷ []) old)
      → Takes (HoldsIn l) (HoldsIn l) old new r
  look_makes items k = looks (HoldsIn l) (schema_for l) (schema_known l) (select_text l) (Int (pos k) ∷ []) (select_command l) (select_is l) (select_plain l) (select_reads l) items

  pub look_finds : {X : Type 0} (items : X → List Row) (k : ℕ) (old new : State) (r : Result X Error)
      → (HasCleanDisk new → IfOk r (λ x. Shown (select_text l) (Int (pos k) ∷ []) old new (items x)))
      → HasCleanDisk new
      → IfOk r (λ x. (c : Content) → InsideAs (HoldsIn l c) old → items x ≡ map (node_columns l) (option_to_list (at_by node_key k c.nodes)))
  look_finds items k old new (Ok x) ok clean = λ c at. finds k c old new (items x) at (ok clean)
  look_finds items k old new (Err e) ok clean = tt

-- ---- a row changed

abbrev pub second_update : List ℕ
second_update =
    codes "UPDATE nodes SET mode = ?2, uid = ?3, gid = ?4, rdev = ?5, size = ?6, atime = ?7, atimensec = ?8, mtime = ?9, "
    ++ codes "mtimensec = ?10, ctime = ?11, ctimensec = ?12, up = ?13, subdirs = ?14 WHERE node = ?1"

abbrev pub third_update : List ℕ
third_update =
    codes "UPDATE nodes SET mode = ?2, uid = ?3, gid = ?4, rdev = ?5, size = ?6, atime = ?7, atimensec = ?8, mtime = ?9, "
    ++ codes "mtimensec = ?10, ctime = ?11, ctimensec = ?12, up = ?13, subdirs = ?14, links = ?15, written = ?16, attributes = ?17 "
    ++ codes "WHERE node = ?1"

abbrev pub update_text : Layout → List ℕ
update_text Second = second_update
update_text Third = third_update

abbrev update_terms : Layout → List Term
update_terms l = col 1 0 ∷ lit Null ∷ col 0 1 ∷ col 0 2 ∷ col 0 3 ∷ col 0 4 ∷ col 0 5 ∷ col 0 6 ∷ col 0 7 ∷ col 0 8 ∷ col 0 9 ∷ col 0 10 ∷ col 0 11 ∷ col 0 12
    ∷ col 0 13 ∷ later_terms l

abbrev update_command : Layout → Command
update_command l = Update 1 (changing 1 key_terms (update_terms l))

update_is : (l : Layout) → command_of (understood (schema_for l) (update_text l)) ≡ update_command l
unfolding understood everything
update_is Second = refl
update_is Third = refl

update_plain : (l : Layout) → IsPlain (understood (schema_for l) (update_text l))
unfolding understood everything
update_plain Second = (refl, refl)
update_plain Third = (refl, refl)

pub update_edit : (l : Layout) → IsEditText (first (update_text l))
unfolding first everything
update_edit Second = tt
update_edit Third = tt

update_shows : (l : Layout) (x y : NodeRow)
    → eval_all (col 1 0 ∷ update_terms l) (given l x ∷ node_row l y ∷ []) ≡ Int (pos y.node) ∷ node_row l (renumbered x y)
update_shows Second x y = refl
update_shows Third x y = refl

module _ (l : Layout) where
  abbrev Updates : NodeRow → State → State → ℕ → Type 0
  Updates x old new n = Writes old new None (update_command l) (statement_of (update_text l) (understood (schema_for l) (update_text l))) (given l x) n

  held_nodes : (c : Content) (d : Database) → HoldsIn l c d → (d.trees 1 ≡ map (node_row l) c.nodes) × IsTable (d.trees 1)
  held_nodes c d at =
      let was = (laid c d at.0).nodes in
      (subst (λ j. d.trees 1 ≡ map (node_row j) c.nodes) at.1 was.0, was.1)

  changed : (x : NodeRow) (c : Content) (old new : State) (n : ℕ) → HoldsIn l c old.now → Updates x old new n → Holds (set_node x c) new.now
  changed x c old new n at w =
      let was = held_nodes c old.now at in
      let now = changes l node_key (node_row l) (λ _. refl) x.node (renumbered x) (λ _. refl) 1 (nodes_for l) (nodes_listed l) (λ y. node_row l (renumbered x y))
      (λ y. cast_as l (renumbered x y)) key_terms (update_terms l) (given l x) (key_tests l x.node (node_columns l x)) (update_shows l x) (λ _. refl)
      c.nodes old new _ n (schema_known l c old.now at) was.0 was.1 w in
      wrote (schema_for c.layout) (stored c) (stored (set_node x c)) (nodes_for l) old.now new.now at.0 now.2 w.sound (only_nodes c _)
      (subst (λ j. new.now.trees 1 ≡ map (node_row j) (set_by node_key x.node (renumbered x) c.nodes)) (sym at.1) now.0) now.1

  changed_some : (x : NodeRow) (c : Content) (old new : State) (n : ℕ) → HoldsIn l c old.now → Updates x old new n
      → nat_lt 0 n ≡ is_some (at_by node_key x.node c.nodes)
  changed_some x c old new n at w =
      let was = held_nodes c old.now at in
      changes_some l node_key (node_row l) (λ _. refl) x.node (renumbered x) (λ _. refl) 1 (nodes_for l) (nodes_listed l) (λ y. node_row l (renumbered x y))
      (λ y. cast_as l (renumbered x y)) key_terms (update_terms l) (given l x) (key_tests l x.node (node_columns l x)) (update_shows l x) (λ _. refl)
      c.nodes old new _ n (schema_known l c old.now at) was.0 was.1 w

  pub sets : (x : NodeRow) (old new : State) (r : Result Bool Error) → (HasCleanDisk new → RanAny (update_text l) (given l x) old new r)
      → Survives old new (CommitsBy (update_text l) (given l x) old) → Takes (HoldsIn l) (λ c. Holds (set_node x c)) old new r
  sets x = makes_any (HoldsIn l) (schema_for l) (schema_known l) (update_text l) (given l x) (update_command l) (update_is l) (update_plain l) refl (update_edit l)
      (λ c. Holds (set_node x c)) (changed x)

  pub sets_some : (x : NodeRow) (old new : State) (r : Result Bool Error) → (HasCleanDisk new → RanAny (update_text l) (given l x) old new r)
      → HasCleanDisk new → IfOk r (λ any. (c : Content) → InsideAs (HoldsIn l c) old → any ≡ is_some (at_by node_key x.node c.nodes))
  sets_some x = says_any (HoldsIn l) (schema_for l) (schema_known l) (update_text l) (given l x) (update_command l) (update_is l) (update_plain l) refl
      (λ c. is_some (at_by node_key x.node c.nodes)) (changed_some x)

-- ---- in the place of the row before, or as a new row

same_node : (x y : NodeRow) → y.node ≡ x.node → renumbered x y ≡ x
same_node x y is = ap (λ n. record x { node = n }) is

pub put_over : (x : NodeRow) (c : Content) (d : Database) → Holds c d → is_some (at_by node_key x.node c.nodes) ≡ true → set_node x c ≡ with_node x c
put_over x c d at is =
    let was = (laid c d at).nodes in
    let there = one_there (at_by node_key x.node c.nodes) is in
    ap (λ ns. record c { nodes = ns }) (set_is_put node_key (node_row c.layout) (λ _. refl) (renumbered x) x (same_node x) c.nodes there.0 (subst IsTable was.0 was.1)
    there.1)

pub put_new : (x : NodeRow) (c : Content) → is_some (at_by node_key x.node c.nodes) ≡ false → with_node x (set_node x c) ≡ with_node x c
put_new x c is =
    ap (λ ns. with_node x (record c { nodes = ns })) (set_missing node_key (node_row c.layout) (λ _. refl) x.node (renumbered x) c.nodes
    (none_there (at_by node_key x.node c.nodes) is))

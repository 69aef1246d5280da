-- The statements on the table of pieces.
use Rattle.std.proofs.Common.{◌≡◌, ◌≤◌, ℕ, ℤ, pos, ◌+ℤ◌, ◌+◌, List, [], ◌∷◌, map, filter, fold, not, codes, Bool, true, false, ◌&&◌, Some, None, Result, Ok, Err, IfOk, IfErr}
use Rattle.std.proofs.Common.{refl, sym, ap, subst, arith, ◌∙◌, ◌++◌, Equal}
use Rattle.std.specs.List.{list_all, flat_map, AllByRecursion}
use Rattle.std.specs.Ordering.{is_eq, is_ge, is_gt, is_lt, nat_cmp, ordering_then}
use Rattle.std.specs.List.Sorted.{IsPermutation, IsSorted}
use Rattle.std.specs.Int.{w64, cast_signed}
use Rattle.std.proofs.lemmas.Bool.Decides.{nat_tests}
use Rattle.sqlite.specs.declared.types.Value.TheVariants.{Null, Int}
use Rattle.sqlite.specs.Order.{Row}
use Rattle.sqlite.specs.Tree.{Trees}
use Rattle.sqlite_trees.specs.Tree.{IsTable, IsAscending, put_row, rowid}
use Rattle.sqlite_trees.proofs.TreeLemmas.{IsTable-put_row}
use Rattle.sqlite_trees.proofs.ListLemmas.{map-map}
use Rattle.sqlite_value.specs.Order.{value_cmp}
use Rattle.sqlite_value.specs.declared.keys.Collation.TheVariants.{Binary}
use Rattle.sqlite_sql.specs.declared.ops.BinaryOp.TheVariants.{Compare}
use Rattle.sqlite_sql.specs.declared.ops.CompareOp.TheVariants.{Eq, Ge, Lt}
use Rattle.sqlite_sql.specs.Ops.{binary, is_true, from_truth}
use Rattle.sqlite_sql.specs.Query.{output_cmp}
use Rattle.sqlite_sql.proofs.QueryLemmas.{output_cmp_total}
use Rattle.sqlite_exec.proofs.PartitionLemmas.{ascending_from_sorted}
use Rattle.sqlite.specs.Term.{Term, Env, lit, col, op2, eval_all, holds}
use Rattle.sqlite.specs.Program.{overlay}
use Rattle.sqlite.specs.Query.{Query, inner, end, IsAnswerAs, matches_as, output, page, Output}
use Rattle.sqlite.specs.Source.TheVariants.{Values}
use Rattle.sqlite.specs.Command.TheVariants.{Insert, Delete, Select}
use Rattle.sqlite_rules.specs.Cast.{cast_row}
use Rattle.sqlite_rules.specs.Edit.{id_in, with_rowid}
use Rattle.sqlite.specs.Rowids.TheVariants.{Chosen}
use Rattle.sqlite_tied.specs.Compute.{everything}
use Rattle.sqlite.specs.declared.error.Error.{Error}
use Rattle.sqlite.specs.Listing.{understood, reads_listing}
use Rattle.sqlite.specs.State.{State, HasCleanDisk, Survives, CommitsBy, Writes, Shown, FailsToQuery, CommitsShowing}
use Rattle.sqlite.proofs.Callers.{IsPlain, command_of, statement_of}
use Rattle.sqlite_resolve.specs.Compile.{first}
use Rattle.fuse_store_tables.specs.declared.pieces.PieceRow.{PieceRow}
use Rattle.fuse_store_tables.specs.declared.version.Layout.TheVariants.{Third}
use Rattle.fuse_store_tables.specs.Layout.{third_schema, pieces}
use Rattle.fuse_store_tables.specs.Pieces.{Piece, ShowsInOrder, begins_between, new_piece, piece_row, shown_piece}
use Rattle.fuse_store_tables.specs.Content.{Content, HoldsIn, stored, is_piece_of, put_by, with_piece, without_pieces, without_pieces_between}
use Rattle.fuse_store_tables.specs.Moves.{InsideAs, Takes}
use Rattle.fuse_store_tables.specs.inner.Performing.{Ran}
use Rattle.fuse_store_tables.proofs.Writing.{makes}
use Rattle.fuse_store_tables.proofs.Laid.{held_in, in_layout, schema_known}
use Rattle.fuse_store_tables.proofs.Lifting.{lifted}
use Rattle.fuse_store_tables.proofs.Tables.{wrote, quiet, only_pieces_in}
use Rattle.fuse_store_tables.proofs.Keyed.{put_rows, row_cmp_nat}
use Rattle.fuse_store_tables.proofs.Reading.{looks, read, matched, truth_of}
use Rattle.fuse_store_tables.proofs.RowLemmas.{cast_int, cast_null, inserted}
use Rattle.fuse_store_tables.proofs.Deletes.{picking, picks}
use Rattle.fuse_store_tables.proofs.Edits.{IsEditText}
use Rattle.fuse_store_tables.proofs.Queries.{IsSelectText}

-- ---- a new piece

abbrev pub insert_text : List ℕ
insert_text = codes "INSERT INTO pieces (node, first, count, place, sum) VALUES (?1, ?2, ?3, ?4, ?5)"

abbrev insert_terms : List Term
insert_terms = lit Null ∷ col 0 0 ∷ col 0 1 ∷ col 0 2 ∷ col 0 3 ∷ col 0 4 ∷ []

insert_is : command_of (understood third_schema insert_text) ≡ Insert 7 (Values insert_terms 6)
unfolding understood everything
insert_is = refl

insert_plain : IsPlain (understood third_schema insert_text)
unfolding understood everything
insert_plain = (refl, refl)

pub insert_edit : IsEditText (first insert_text)
unfolding first everything
insert_edit = tt

abbrev pub given : PieceRow → Row
given x = Int (pos x.node) ∷ Int (pos x.first) ∷ Int (pos x.count) ∷ Int (pos x.place) ∷ Int (cast_signed w64 x.sum) ∷ []

cast_given : (x : PieceRow) → cast_row pieces (Null ∷ given x) ≡ Null ∷ given x
cast_given x = rw (cast_int (pos x.node), cast_int (pos x.first), cast_int (pos x.count), cast_int (pos x.place), cast_int (cast_signed w64 x.sum), cast_null)

-- the rowid that is chosen is the next slot
next_is : (ps : List Piece) (a : ℕ) → fold (λ _ r. id_in (rowid r) +ℤ pos 1) (pos a) (map piece_row ps) ≡ pos (fold (λ _ p. p.slot + 1) a ps)
next_is [] a = refl
next_is (p ∷ ps) a = next_is ps (p.slot + 1)

numbered_as : (x : PieceRow) (ps : List Piece) → with_rowid Chosen (map piece_row ps) (Null ∷ given x) ≡ piece_row (new_piece x ps)
numbered_as x ps = ap (λ id. Int id ∷ given x) (next_is ps 1)

inserts : (x : PieceRow) (c : Content) (old new : State) (n : ℕ) → HoldsIn Third c old.now
    → Writes old new None (Insert 7 (Values insert_terms 6)) (statement_of insert_text (understood third_schema insert_text)) (given x) n
    → HoldsIn Third (with_piece x c) new.now
inserts x c old new n at w =
    let held = held_in Third c old.now at in
    let put = inserted third_schema 7 pieces refl insert_terms 6 old new _ (given x) n (Null ∷ given x) (λ keys news. quiet Third keys 11 [] news)
    (ap (λ r. r ∷ []) (cast_given x)) held.schema w in
    let was = held.rows.1.1.1.1.1.1.1.0 in
    let p = new_piece x c.pieces in
    let rows : new.now.trees 11 ≡ put_row (piece_row p) (old.now.trees 11) =
    put.rows ∙ ap (λ r. put_row r (old.now.trees 11)) (ap (λ all. with_rowid Chosen all (Null ∷ given x)) was.0 ∙ numbered_as x c.pieces) in
    in_layout Third (with_piece x c) new.now at.1
    (wrote third_schema (stored c) (stored (with_piece x c)) pieces old.now new.now held put.spares w.sound
    (only_pieces_in Third c (put_by (λ q. q.slot) p c.pieces))
    (rows ∙ ap (put_row (piece_row p)) was.0 ∙ put_rows (λ (q : Piece). q.slot) piece_row (λ _. refl) p c.pieces)
    (subst IsTable (sym rows) (IsTable-put_row (piece_row p) (old.now.trees 11) was.1)))

pub adds : (x : PieceRow) (old new : State) (r : Result (Unit {0}) Error) → (HasCleanDisk new → Ran insert_text (given x) old new r)
    → Survives old new (CommitsBy insert_text (given x) old) → Takes (HoldsIn Third) (λ c. HoldsIn Third (with_piece x c)) old new r
adds x = makes (HoldsIn Third) third_schema (schema_known Third) insert_text (given x) (Insert 7 (Values insert_terms 6)) insert_is insert_plain refl insert_edit
    (λ c. HoldsIn Third (with_piece x c)) (inserts x)

-- ---- pieces gone

module _ (text : List ℕ) (params : Row) (terms : List Term) (p : Piece → Bool) (is : command_of (understood third_schema text) ≡ Delete 7 (picking 11 terms))
    (plain : IsPlain (understood third_schema text)) (edit : IsEditText (first text))
    (tests : (x : Piece) → list_all (holds (params ∷ piece_row x ∷ [])) terms ≡ p x) where
  abbrev left : Content → Content
  left c = record c { pieces = filter (λ x. not (p x)) c.pieces }

  gone : (c : Content) (old new : State) (n : ℕ) → HoldsIn Third c old.now
      → Writes old new None (Delete 7 (picking 11 terms)) (statement_of text (understood third_schema text)) params n → HoldsIn Third (left c) new.now
  gone c old new n at w =
      let held = held_in Third c old.now at in
      let was = held.rows.1.1.1.1.1.1.1.0 in
      let now = picks Third (λ (x : Piece). x.slot) piece_row (λ _. refl) p 7 pieces refl terms params tests (λ _. refl)
      c.pieces old new _ n held.schema was.0 was.1 w in
      in_layout Third (left c) new.now at.1
      (wrote third_schema (stored c) (stored (left c)) pieces old.now new.now held now.2 w.sound
      (only_pieces_in Third c (filter (λ x. not (p x)) c.pieces)) now.0 now.1)

  pub removes : (old new : State) (r : Result (Unit {0}) Error) → (HasCleanDisk new → Ran text params old new r)
      → Survives old new (CommitsBy text params old) → Takes (HoldsIn Third) (λ c. HoldsIn Third (left c)) old new r
  removes = makes (HoldsIn Third) third_schema (schema_known Third) text params (Delete 7 (picking 11 terms)) is plain refl edit
      (λ c. HoldsIn Third (left c)) gone

-- ---- all of a node

abbrev pub all_text : List ℕ
all_text = codes "DELETE FROM pieces WHERE node = ?1"

abbrev node_terms : List Term
node_terms = op2 (Compare Eq Binary) (col 1 1) (col 0 0) ∷ []

all_is : command_of (understood third_schema all_text) ≡ Delete 7 (picking 11 node_terms)
unfolding understood everything
all_is = refl

all_plain : IsPlain (understood third_schema all_text)
unfolding understood everything
all_plain = (refl, refl)

pub all_edit : IsEditText (first all_text)
unfolding first everything
all_edit = tt

tests_node : (node : ℕ) (p : Piece) → list_all (holds ((Int (pos node) ∷ []) ∷ piece_row p ∷ [])) node_terms ≡ is_piece_of node p
unfolding binary
tests_node node p = ap (λ o. is_true (from_truth (Some (is_eq o))) && true) (row_cmp_nat p.node node) ∙ truth_of (is_piece_of node p)

pub removes_all : (node : ℕ) (old new : State) (r : Result (Unit {0}) Error) → (HasCleanDisk new → Ran all_text (Int (pos node) ∷ []) old new r)
    → Survives old new (CommitsBy all_text (Int (pos node) ∷ []) old) → Takes (HoldsIn Third) (λ c. HoldsIn Third (without_pieces node c)) old new r
removes_all node = removes all_text (Int (pos node) ∷ []) node_terms (is_piece_of node) all_is all_plain all_edit (tests_node node)

-- ---- those that begin between two blocks

abbrev pub between_text : List ℕ
between_text = codes "DELETE FROM pieces WHERE node = ?1 AND first >= ?2 AND first < ?3"

abbrev pub between_terms : List Term
between_terms =
    op2 (Compare Eq Binary) (col 1 1) (col 0 0) ∷ op2 (Compare Ge Binary) (col 1 2) (col 0 1) ∷ op2 (Compare Lt Binary) (col 1 2) (col 0 2) ∷ []

between_is : command_of (understood third_schema between_text) ≡ Delete 7 (picking 11 between_terms)
unfolding understood everything
between_is = refl

between_plain : IsPlain (understood third_schema between_text)
unfolding understood everything
between_plain = (refl, refl)

pub between_edit : IsEditText (first between_text)
unfolding first everything
between_edit = tt

abbrev pub bounds : ℕ → ℕ → ℕ → Row → Row
bounds node from to more = Int (pos node) ∷ Int (pos from) ∷ Int (pos to) ∷ more

all_three : (a b d : Bool)
    → (is_true (from_truth (Some a)) && (is_true (from_truth (Some b)) && (is_true (from_truth (Some d)) && true))) ≡ (a && (b && d))
all_three true true true = refl
all_three true true false = refl
all_three true false d = refl
all_three false b d = refl

pub tests_between : (node from to : ℕ) (more : Row) (p : Piece) → list_all (holds (bounds node from to more ∷ piece_row p ∷ [])) between_terms
    ≡ begins_between node from to p
unfolding binary
tests_between node from to more p =
    ap (λ o. is_true (from_truth (Some (is_eq o))) && (is_true (from_truth (Some (is_ge (value_cmp (Int (pos p.first)) (Int (pos from))))))
    && (is_true (from_truth (Some (is_lt (value_cmp (Int (pos p.first)) (Int (pos to)))))) && true))) (row_cmp_nat p.node node)
    ∙ ap (λ o. is_true (from_truth (Some (is_eq (nat_cmp p.node node)))) && (is_true (from_truth (Some (is_ge o)))
    && (is_true (from_truth (Some (is_lt (value_cmp (Int (pos p.first)) (Int (pos to)))))) && true))) (row_cmp_nat p.first from)
    ∙ ap (λ o. is_true (from_truth (Some (is_eq (nat_cmp p.node node)))) && (is_true (from_truth (Some (is_ge (nat_cmp p.first from))))
    && (is_true (from_truth (Some (is_lt o))) && true))) (row_cmp_nat p.first to)
    ∙ all_three (is_eq (nat_cmp p.node node)) (is_ge (nat_cmp p.first from)) (is_lt (nat_cmp p.first to))

pub removes_between : (node from to : ℕ) (old new : State) (r : Result (Unit {0}) Error) → (HasCleanDisk new → Ran between_text (bounds node from to []) old new r)
    → Survives old new (CommitsBy between_text (bounds node from to []) old)
    → Takes (HoldsIn Third) (λ c. HoldsIn Third (without_pieces_between node from to c)) old new r
removes_between node from to =
    removes between_text (bounds node from to []) between_terms (begins_between node from to) between_is between_plain between_edit (tests_between node from to [])

-- ---- those that begin between two blocks, read in order

abbrev pub slice_text : List ℕ
slice_text = codes "SELECT first, count, place, sum FROM pieces WHERE node = ?1 AND first >= ?2 AND first < ?3 ORDER BY first LIMIT ?4"

abbrev shown_terms : List Term
shown_terms = col 1 2 ∷ col 1 3 ∷ col 1 4 ∷ col 1 5 ∷ []

abbrev slice_query : Query
slice_query = record {
  from = inner 11 end;
  filter = between_terms;
  group = None;
  project = shown_terms;
  distinct = false;
  collations = [];
  order = (col 1 2, record { collation = Binary; descending = false }) ∷ [];
  limit = col 0 3;
  offset = lit (Int (pos 0));
}

slice_is : command_of (understood third_schema slice_text)
    ≡ Select (record { lets = []; body = slice_query }) (codes "first" ∷ codes "count" ∷ codes "place" ∷ codes "sum" ∷ [])
unfolding understood everything
slice_is = refl

slice_plain : IsPlain (understood third_schema slice_text)
unfolding understood everything
slice_plain = (refl, refl)

pub slice_reads : IsSelectText (first slice_text)
unfolding first everything
slice_reads = (_, refl)

slice_unlisted : reads_listing third_schema slice_text ≡ false
unfolding understood everything
slice_unlisted = refl

at_most : (a b : ℕ) → is_gt (ordering_then (value_cmp (Int (pos a)) (Int (pos b))) Equal) ≡ false → a ≤ b
at_most a b h = below (subst (λ o. is_gt (ordering_then o Equal) ≡ false) (row_cmp_nat a b) h)
  where
    below : is_gt (ordering_then (nat_cmp a b) Equal) ≡ false → a ≤ b
    below k = grind (arith, nat_tests)

module _ (db : Trees) (params : Row) where
  abbrev env : Piece → Env
  env x = params ∷ piece_row x ∷ []

  abbrev out : Piece → Output
  out x = output slice_query (env x)

  follows : (xs : List Piece) → IsAscending (λ a b. is_gt (output_cmp slice_query a b) ≡ false) (map out xs)
      → IsAscending (λ (a b : Piece). a.first ≤ b.first) xs
  follows [] up = tt
  follows (x ∷ xs) up = (each xs up.0, follows xs up.1)
    where
      each : (ys : List Piece) → AllByRecursion (λ b. is_gt (output_cmp slice_query (out x) b) ≡ false) (map out ys)
          → AllByRecursion (λ (y : Piece). x.first ≤ y.first) ys
      each [] all = tt
      each (y ∷ ys) all = (at_most x.first y.first all.0, each ys all.1)

  in_order : (ys : List Piece) (rows : List Row) → matches_as Null db between_terms (inner 11 end) (params ∷ []) ≡ map env ys
      → IsAnswerAs Null slice_query db params rows
      → (ws : List Piece) × IsPermutation ys ws × IsAscending (λ (a b : Piece). a.first ≤ b.first) ws × (rows ≡ page slice_query params (map shown_piece ws))
  in_order ys rows ways a =
      let q = slice_query in
      let kept : a.kept ≡ map out ys = a.distinct ∙ ap (map (output q)) (a.grouped ∙ ways) ∙ map-map (output q) env ys in
      let made = lifted out ys a.ordered (subst (λ k. IsPermutation k a.ordered) kept a.same) in
      let up = ascending_from_sorted (output_cmp q) (output_cmp_total q) (map out made.0) (subst (IsSorted (output_cmp q)) (sym made.1) a.sorted) in (
        made.0,
        made.2,
        follows made.0 up,
        a.shown ∙ ap (λ o. page q params (map (λ (x : Output). x.1) o)) (sym made.1) ∙ ap (page q params) (map-map (λ (x : Output). x.1) out made.0),
      )

slice_finds : (node from to limit : ℕ) (c : Content) (old new : State) (rows : List Row) → InsideAs (HoldsIn Third c) old
    → Shown slice_text (bounds node from to (Int (pos limit) ∷ [])) old new rows
    → ShowsInOrder limit (filter (begins_between node from to) c.pieces) rows
slice_finds node from to limit c old new rows at h =
    let params = bounds node from to (Int (pos limit) ∷ []) in
    let was = (held_in Third c old.now at.holds).rows.1.1.1.1.1.1.1.0 in
    let db = overlay old.now.trees [] in
    let answer = (read (HoldsIn Third) third_schema (schema_known Third) slice_text params _ slice_is slice_plain slice_unlisted c old new rows at h).answer Null in
    let all = in_order db params (filter (begins_between node from to) c.pieces) rows
    (ap (flat_map (λ r. matches_as Null db between_terms end (params ∷ r ∷ []))) was.0
    ∙ matched piece_row (begins_between node from to) Null db between_terms params (tests_between node from to (Int (pos limit) ∷ [])) c.pieces) answer in
    record { ordered = all.0; same = all.1; rise = all.2; shown = all.3 }

pub slice_makes : {X : Type 0} (items : X → List Row) (node from to limit : ℕ) (old new : State) (r : Result X Error)
    → (HasCleanDisk new → IfOk r (λ x. Shown slice_text (bounds node from to (Int (pos limit) ∷ [])) old new (items x)))
    → (HasCleanDisk new → IfErr r (FailsToQuery slice_text (bounds node from to (Int (pos limit) ∷ [])) old new))
    → Survives old new (CommitsShowing slice_text (bounds node from to (Int (pos limit) ∷ [])) old) → Takes (HoldsIn Third) (HoldsIn Third) old new r
slice_makes items node from to limit =
    looks (HoldsIn Third) third_schema (schema_known Third) slice_text (bounds node from to (Int (pos limit) ∷ [])) _ slice_is slice_plain slice_reads items

pub slice_shows : {X : Type 0} (items : X → List Row) (node from to limit : ℕ) (old new : State) (r : Result X Error)
    → (HasCleanDisk new → IfOk r (λ x. Shown slice_text (bounds node from to (Int (pos limit) ∷ [])) old new (items x)))
    → HasCleanDisk new
    → IfOk r (λ x. (c : Content) → InsideAs (HoldsIn Third c) old → ShowsInOrder limit (filter (begins_between node from to) c.pieces) (items x))
slice_shows items node from to limit old new (Ok x) ok clean = λ c at. slice_finds node from to limit c old new (items x) at (ok clean)
slice_shows items node from to limit old new (Err e) ok clean = tt

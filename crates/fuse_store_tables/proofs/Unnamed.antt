-- The statements on nodes without a name, and the number of nodes.
use Rattle.std.proofs.Common.{◌≡◌, ℕ, pos, negsuc, List, [], ◌∷◌, map, filter, codes, true, false, ◌&&◌, Some, None, Ok, Err, Result, IfOk, IfErr, refl}
use Rattle.std.proofs.Common.{ap, subst, ◌∙◌}
use Rattle.std.specs.List.{list_all}
use Rattle.std.specs.Ordering.{is_eq, is_gt, nat_cmp}
use Rattle.sqlite.specs.declared.types.Value.TheVariants.{Null, Int}
use Rattle.sqlite.specs.Order.{Row}
use Rattle.sqlite_trees.specs.Tree.{IsTable}
use Rattle.sqlite_value.specs.Order.{value_cmp}
use Rattle.sqlite_value.specs.declared.keys.Collation.TheVariants.{Binary}
use Rattle.sqlite_sql.specs.declared.ops.BinaryOp.TheVariants.{Compare}
use Rattle.sqlite_sql.specs.declared.ops.CompareOp.TheVariants.{Eq, Gt}
use Rattle.sqlite_sql.specs.Ops.{binary, is_true, from_truth}
use Rattle.sqlite.specs.Term.{Term, lit, col, op2, holds}
use Rattle.sqlite.specs.Program.{overlay}
use Rattle.sqlite.specs.Command.TheVariants.{Delete, Select}
use Rattle.sqlite_tied.specs.Compute.{everything}
use Rattle.sqlite.specs.declared.error.Error.{Error}
use Rattle.sqlite.specs.Listing.{understood, reads_listing}
use Rattle.sqlite.specs.State.{State, HasCleanDisk, Survives, CommitsBy, Writes, Shown, FailsToQuery, CommitsShowing}
use Rattle.sqlite.proofs.Callers.{IsPlain, command_of, statement_of}
use Rattle.fuse_rows.specs.declared.rows.NodeRow.{NodeRow}
use Rattle.fuse_store_tables.specs.Layout.{nodes, schema_for}
use Rattle.fuse_store_tables.specs.Content.{Content, Holds, stored, node_row, node_columns, is_unnamed}
use Rattle.fuse_store_tables.specs.inner.Steps.{without_unnamed}
use Rattle.fuse_store_tables.specs.Clearing.{counted_to, unnamed_numbers}
use Rattle.fuse_store_tables.specs.inner.Columns.{shown_number}
use Rattle.fuse_store_tables.specs.Moves.{Inside, InsideAs, Makes, Takes}
use Rattle.fuse_store_tables.specs.inner.Performing.{Ran}
use Rattle.fuse_store_tables.proofs.Tables.{wrote, only_nodes}
use Rattle.fuse_store_tables.proofs.Keyed.{row_cmp_nat}
use Rattle.fuse_store_tables.proofs.Reading.{both_true, looks, read}
use Rattle.fuse_store_tables.proofs.Ordered.{ordered_query, answered_in_order, rises_from}
use Rattle.fuse_store_tables.proofs.CounterRows.{all_of}
use Rattle.fuse_store_tables.proofs.Counting.{count_query, counted_all}
use Rattle.fuse_store_tables.proofs.Deletes.{picking, picks}
use Rattle.sqlite_resolve.specs.Compile.{first}
use Rattle.fuse_store_tables.proofs.Edits.{IsEditText}
use Rattle.fuse_store_tables.proofs.Queries.{IsSelectText}
use Rattle.fuse_store_tables.specs.declared.version.Layout.{Layout}
use Rattle.fuse_store_tables.specs.declared.version.Layout.TheVariants.{Second, Third}
use Rattle.fuse_store_tables.proofs.Laid.{looks_laid, makes_laid, read_laid, schema_known}
use Rattle.fuse_store_tables.specs.inner.Steps.{HoldsIn, unnamed_extents}
use Rattle.fuse_store_tables.specs.Clearing.{extent_of}
use Rattle.sqlite_schema.specs.declared.command.Command.{Command}
use Rattle.sqlite.specs.Term.{eval_all}
use Rattle.fuse_store_tables.proofs.Tables.{laid, nodes_listed, nodes_for}

-- ---- the unnamed nodes

abbrev pub gone_text : List ℕ
gone_text = codes "DELETE FROM nodes WHERE up = 0 AND node > 1"

abbrev pub unnamed_terms : List Term
unnamed_terms = op2 (Compare Eq Binary) (col 1 13) (lit (Int (pos 0))) ∷ op2 (Compare Gt Binary) (col 1 0) (lit (Int (pos 1))) ∷ []

gone_is : (l : Layout) → command_of (understood (schema_for l) gone_text) ≡ Delete 1 (picking 1 unnamed_terms)
unfolding understood everything
gone_is Second = refl
gone_is Third = refl

gone_plain : (l : Layout) → IsPlain (understood (schema_for l) gone_text)
unfolding understood everything
gone_plain Second = (refl, refl)
gone_plain Third = (refl, refl)

pub gone_edit : IsEditText (first gone_text)
unfolding first everything
gone_edit = tt

pub tests_unnamed : (l : Layout) (n : NodeRow) → list_all (holds ([] ∷ node_row l n ∷ [])) unnamed_terms ≡ is_unnamed n
unfolding binary
tests_unnamed l n =
    ap (λ o. is_true (from_truth (Some (is_eq o))) && (is_true (from_truth (Some (is_gt (value_cmp (Int (pos n.node)) (Int (pos 1)))))) && true))
    (row_cmp_nat n.up 0)
    ∙ ap (λ o. is_true (from_truth (Some (is_eq (nat_cmp n.up 0)))) && (is_true (from_truth (Some (is_gt o))) && true)) (row_cmp_nat n.node 1)
    ∙ both_true (is_eq (nat_cmp n.up 0)) (is_gt (nat_cmp n.node 1))

unnamed_gone : (c : Content) (old new : State) (n : ℕ) → Holds c old.now → Writes old new None (Delete 1 (picking 1 unnamed_terms))
    (statement_of gone_text (understood (schema_for c.layout) gone_text)) [] n → Holds (without_unnamed c) new.now
unnamed_gone c old new n at w =
    let was = (laid c old.now at).nodes in
    let now = picks c.layout (λ x. x.node) (node_row c.layout) (λ _. refl) is_unnamed 1 (nodes_for c.layout) (nodes_listed c.layout) unnamed_terms [] (tests_unnamed c.layout) (λ _. refl) c.nodes old new _ n at.schema was.0
    was.1 w in
    wrote (schema_for c.layout) (stored c) (stored (without_unnamed c)) (nodes_for c.layout) old.now new.now at now.2 w.sound (only_nodes c _) now.0 now.1

pub removes_unnamed : (old new : State) (r : Result (Unit {0}) Error) → (HasCleanDisk new → Ran gone_text [] old new r)
    → Survives old new (CommitsBy gone_text [] old) → Makes without_unnamed old new r
removes_unnamed = makes_laid gone_text [] (λ _. Delete 1 (picking 1 unnamed_terms)) gone_is gone_plain (λ _. refl) gone_edit
    (λ c. Holds (without_unnamed c)) unnamed_gone

-- ---- in order

abbrev pub unnamed_text : List ℕ
unnamed_text = codes "SELECT node FROM nodes WHERE up = 0 AND node > 1 ORDER BY node"

abbrev no_limit : Term
no_limit = lit (Int (negsuc 0))

unnamed_is : (l : Layout) → command_of (understood (schema_for l) unnamed_text) ≡ Select (record { lets = []; body = ordered_query 1 unnamed_terms (col 1 0 ∷ []) no_limit })
    (codes "node" ∷ [])
unfolding understood everything
unnamed_is Second = refl
unnamed_is Third = refl

unnamed_plain : (l : Layout) → IsPlain (understood (schema_for l) unnamed_text)
unfolding understood everything
unnamed_plain Second = (refl, refl)
unnamed_plain Third = (refl, refl)

pub unnamed_select : IsSelectText (first unnamed_text)
unfolding first everything
unnamed_select = (_, refl)

unnamed_unlisted : (l : Layout) → reads_listing (schema_for l) unnamed_text ≡ false
unfolding understood everything
unnamed_unlisted Second = refl
unnamed_unlisted Third = refl

numbers_shown : (ns : List NodeRow) → map (λ n. shown_number n.node) ns ≡ map shown_number (map (λ (n : NodeRow). n.node) ns)
numbers_shown [] = refl
numbers_shown (n ∷ ns) = ap (λ more. shown_number n.node ∷ more) (numbers_shown ns)

unnamed_found : (c : Content) (old new : State) (rows : List Row) → Inside c old → Shown unnamed_text [] old new rows
    → rows ≡ map shown_number (unnamed_numbers c.nodes)
unnamed_found c old new rows at h =
    let answer = (read_laid unnamed_text [] _ unnamed_is unnamed_plain unnamed_unlisted c old new rows at h).answer Null in
    let was = (laid c old.now at.holds).nodes in
    answered_in_order (λ (n : NodeRow). n.node) (λ n. Null ∷ node_columns c.layout n) is_unnamed Null (overlay old.now.trees []) unnamed_terms [] (tests_unnamed c.layout) (col 1 0
    ∷ []) no_limit 1 c.nodes rows was.0
    (rises_from (λ (n : NodeRow). n.node) (node_row c.layout) (λ _. refl) c.nodes (subst IsTable was.0 was.1)) answer
    ∙ numbers_shown (filter is_unnamed c.nodes)

pub unnamed_makes : {X : Type 0} (items : X → List Row) (old new : State) (r : Result X Error)
    → (HasCleanDisk new → IfOk r (λ x. Shown unnamed_text [] old new (items x)))
    → (HasCleanDisk new → IfErr r (FailsToQuery unnamed_text [] old new)) → Survives old new (CommitsShowing unnamed_text [] old) → Makes (λ c. c) old new r
unnamed_makes items = looks_laid unnamed_text [] _ unnamed_is unnamed_plain unnamed_select items

pub unnamed_finds : {X : Type 0} (items : X → List Row) (old new : State) (r : Result X Error)
    → (HasCleanDisk new → IfOk r (λ x. Shown unnamed_text [] old new (items x)))
    → HasCleanDisk new → IfOk r (λ x. (c : Content) → Inside c old → items x ≡ map shown_number (unnamed_numbers c.nodes))
unnamed_finds items old new (Ok x) ok clean = λ c at. unnamed_found c old new (items x) at (ok clean)
unnamed_finds items old new (Err e) ok clean = tt

-- ---- what says how many blocks they use

abbrev pub second_extents : List ℕ
second_extents = codes "SELECT size FROM nodes WHERE up = 0 AND node > 1 ORDER BY node"

abbrev pub third_extents : List ℕ
third_extents = codes "SELECT written FROM nodes WHERE up = 0 AND node > 1 ORDER BY node"

abbrev pub extents_text : Layout → List ℕ
extents_text Second = second_extents
extents_text Third = third_extents

abbrev extent_at : Layout → ℕ
extent_at Second = 6
extent_at Third = 16

abbrev extent_name : Layout → List ℕ
extent_name Second = codes "size"
extent_name Third = codes "written"

abbrev extents_command : Layout → Command
extents_command l = Select (record { lets = []; body = ordered_query 1 unnamed_terms (col 1 (extent_at l) ∷ []) no_limit }) (extent_name l ∷ [])

extents_is : (l : Layout) → command_of (understood (schema_for l) (extents_text l)) ≡ extents_command l
unfolding understood everything
extents_is Second = refl
extents_is Third = refl

extents_plain : (l : Layout) → IsPlain (understood (schema_for l) (extents_text l))
unfolding understood everything
extents_plain Second = (refl, refl)
extents_plain Third = (refl, refl)

pub extents_select : (l : Layout) → IsSelectText (first (extents_text l))
unfolding first everything
extents_select Second = (_, refl)
extents_select Third = (_, refl)

extents_unlisted : (l : Layout) → reads_listing (schema_for l) (extents_text l) ≡ false
unfolding understood everything
extents_unlisted Second = refl
extents_unlisted Third = refl

extents_shown : (l : Layout) (ns : List NodeRow)
    → map (λ n. eval_all (col 1 (extent_at l) ∷ []) ([] ∷ node_row l n ∷ [])) ns ≡ map shown_number (map (extent_of l) ns)
extents_shown l [] = refl
extents_shown Second (n ∷ ns) = ap (λ more. shown_number n.size ∷ more) (extents_shown Second ns)
extents_shown Third (n ∷ ns) = ap (λ more. shown_number (extent_of Third n) ∷ more) (extents_shown Third ns)

module _ (l : Layout) where
  extents_found : (c : Content) (old new : State) (rows : List Row) → InsideAs (HoldsIn l c) old → Shown (extents_text l) [] old new rows
      → rows ≡ map shown_number (unnamed_extents l c.nodes)
  extents_found c old new rows at h =
      let answer = (read (HoldsIn l) (schema_for l) (schema_known l) (extents_text l) [] (extents_command l) (extents_is l) (extents_plain l) (extents_unlisted l) c old new
      rows at h).answer Null in
      let was = (laid c old.now at.holds.0).nodes in
      let has : old.now.trees 1 ≡ map (node_row l) c.nodes = subst (λ j. old.now.trees 1 ≡ map (node_row j) c.nodes) at.holds.1 was.0 in
      answered_in_order (λ (n : NodeRow). n.node) (λ n. Null ∷ node_columns l n) is_unnamed Null (overlay old.now.trees []) unnamed_terms [] (tests_unnamed l)
      (col 1 (extent_at l) ∷ []) no_limit 1 c.nodes rows has
      (rises_from (λ (n : NodeRow). n.node) (node_row l) (λ _. refl) c.nodes (subst IsTable has was.1)) answer
      ∙ extents_shown l (filter is_unnamed c.nodes)

  pub extents_make : {X : Type 0} (items : X → List Row) (old new : State) (r : Result X Error)
      → (HasCleanDisk new → IfOk r (λ x. Shown (extents_text l) [] old new (items x)))
      → (HasCleanDisk new → IfErr r (FailsToQuery (extents_text l) [] old new)) → Survives old new (CommitsShowing (extents_text l) [] old)
      → Takes (HoldsIn l) (HoldsIn l) old new r
  extents_make items = looks (HoldsIn l) (schema_for l) (schema_known l) (extents_text l) [] (extents_command l) (extents_is l) (extents_plain l) (extents_select l) items

  pub extents_find : {X : Type 0} (items : X → List Row) (old new : State) (r : Result X Error)
      → (HasCleanDisk new → IfOk r (λ x. Shown (extents_text l) [] old new (items x)))
      → HasCleanDisk new → IfOk r (λ x. (c : Content) → InsideAs (HoldsIn l c) old → items x ≡ map shown_number (unnamed_extents l c.nodes))
  extents_find items old new (Ok x) ok clean = λ c at. extents_found c old new (items x) at (ok clean)
  extents_find items old new (Err e) ok clean = tt

-- ---- how many nodes there are

abbrev pub count_text : List ℕ
count_text = codes "SELECT count(*) FROM nodes"

count_is : (l : Layout) → command_of (understood (schema_for l) count_text) ≡ Select (record { lets = []; body = count_query 1 [] }) (codes "count(*)" ∷ [])
unfolding understood everything
count_is Second = refl
count_is Third = refl

count_plain : (l : Layout) → IsPlain (understood (schema_for l) count_text)
unfolding understood everything
count_plain Second = (refl, refl)
count_plain Third = (refl, refl)

pub count_select : IsSelectText (first count_text)
unfolding first everything
count_select = (_, refl)

count_unlisted : (l : Layout) → reads_listing (schema_for l) count_text ≡ false
unfolding understood everything
count_unlisted Second = refl
count_unlisted Third = refl

count_found : (c : Content) (old new : State) (rows : List Row) → Inside c old → Shown count_text [] old new rows → rows ≡ shown_number (counted_to c.nodes)
    ∷ []
count_found c old new rows at h =
    let answer = (read_laid count_text [] _ count_is count_plain count_unlisted c old new rows at h).answer Null in
    counted_all (node_row c.layout) (λ _. true) Null (overlay old.now.trees []) [] [] (λ _. refl) 1 c.nodes rows (laid c old.now at.holds).nodes.0 answer
    ∙ ap (λ (ns : List NodeRow). shown_number (counted_to ns) ∷ []) (all_of c.nodes)

pub count_makes : {X : Type 0} (items : X → List Row) (old new : State) (r : Result X Error)
    → (HasCleanDisk new → IfOk r (λ x. Shown count_text [] old new (items x)))
    → (HasCleanDisk new → IfErr r (FailsToQuery count_text [] old new)) → Survives old new (CommitsShowing count_text [] old) → Makes (λ c. c) old new r
count_makes items = looks_laid count_text [] _ count_is count_plain count_select items

pub count_finds : {X : Type 0} (items : X → List Row) (old new : State) (r : Result X Error)
    → (HasCleanDisk new → IfOk r (λ x. Shown count_text [] old new (items x)))
    → HasCleanDisk new → IfOk r (λ x. (c : Content) → Inside c old → items x ≡ shown_number (counted_to c.nodes) ∷ [])
count_finds items old new (Ok x) ok clean = λ c at. count_found c old new (items x) at (ok clean)
count_finds items old new (Err e) ok clean = tt

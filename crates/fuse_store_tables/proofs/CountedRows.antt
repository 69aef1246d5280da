-- The nodes of version 2 as they are read, with the number of their blocks.
use Rattle.std.proofs.Common.{◌≡◌, ◌<◌, ◌≤◌, ℕ, zero, suc, pos, negsuc, List, [], ◌∷◌, ◌++◌, map, filter, take, length, slice_index_or, codes}
use Rattle.std.proofs.Common.{true, false, ◌&&◌, Some, Ok, Err, Result, IfOk, IfErr, refl, sym, ap, subst, arith, take_all, ◌∙◌}
use Rattle.std.proofs.lemmas.List.{length-map}
use Rattle.fuse_keeper.specs.declared.fault.StoreFault.{StoreFault}
use Rattle.fuse_keeper.specs.declared.fault.StoreFault.TheVariants.{Memory}
use Rattle.fuse_store_tables.specs.declared.counted_nodes.Added.{Added}
use Rattle.fuse_store_tables.specs.inner.Looking.{ReadsIf}
use Rattle.fuse_store_tables.proofs.SecondReads.{looks_then, looks_told, looks_fail, looks_memory}
use Rattle.std.specs.List.{list_all}
use Rattle.std.specs.Ordering.{is_eq, nat_cmp}
use Rattle.sqlite.specs.declared.types.Value.TheVariants.{Null, Int}
use Rattle.sqlite.specs.Order.{Row}
use Rattle.sqlite_trees.specs.Tree.{IsTable}
use Rattle.sqlite_value.specs.declared.keys.Collation.TheVariants.{Binary}
use Rattle.sqlite_sql.specs.declared.ops.BinaryOp.TheVariants.{Compare}
use Rattle.sqlite_sql.specs.declared.ops.CompareOp.TheVariants.{Eq}
use Rattle.sqlite_sql.specs.Ops.{binary, is_true, from_truth}
use Rattle.sqlite.specs.Term.{Term, lit, col, op2, holds, eval_all}
use Rattle.sqlite.specs.Program.{overlay}
use Rattle.sqlite_schema.specs.declared.program.Program.{Program}
use Rattle.sqlite.specs.Command.TheVariants.{Select}
use Rattle.sqlite_tied.specs.Compute.{everything}
use Rattle.sqlite.specs.declared.error.Error.{Error}
use Rattle.sqlite.specs.Listing.{understood, reads_listing}
use Rattle.sqlite.specs.State.{State, HasCleanDisk, Survives, Shown, FailsToQuery, CommitsShowing}
use Rattle.sqlite.proofs.Callers.{IsPlain, command_of}
use Rattle.sqlite_resolve.specs.Compile.{first}
use Rattle.fuse_rows.specs.declared.rows.NodeRow.{NodeRow}
use Rattle.fuse_store_tables.specs.Layout.{store_schema}
use Rattle.fuse_store_tables.specs.declared.version.Layout.TheVariants.{Second}
use Rattle.fuse_store_tables.specs.Blocks.{Block, block_row}
use Rattle.fuse_store_tables.specs.Content.{Content, node_row, node_columns}
use Rattle.fuse_store_tables.specs.Counted.{counted_to}
use Rattle.fuse_store_tables.specs.Migrating.{is_block_of, with_written}
use Rattle.fuse_store_tables.specs.Moves.{InsideAs, Takes}
use Rattle.fuse_store_tables.specs.inner.Columns.{given_node, shown_number}
use Rattle.fuse_store_tables.specs.inner.Copies.{nodes_text, count_text, added_of}
use Rattle.fuse_store_tables.specs.inner.Steps.{HoldsIn}
use Rattle.fuse_store_tables.proofs.CounterRows.{all_of}
use Rattle.fuse_store_tables.proofs.Counting.{count_query, counted_all}
use Rattle.fuse_store_tables.proofs.Keyed.{row_cmp_nat}
use Rattle.fuse_store_tables.proofs.Laid.{schema_known}
use Rattle.fuse_store_tables.proofs.Ordered.{ordered_query, answered_in_order, rises_from}
use Rattle.fuse_store_tables.proofs.Queries.{IsSelectText}
use Rattle.fuse_store_tables.proofs.Reading.{looks, read, truth_of}
use Rattle.fuse_store_tables.proofs.Tables.{laid}

-- ---- all nodes

abbrev nodes_shown : List Term
nodes_shown =
    col 1 0 ∷ col 1 2 ∷ col 1 3 ∷ col 1 4 ∷ col 1 5 ∷ col 1 6 ∷ col 1 7 ∷ col 1 8 ∷ col 1 9 ∷ col 1 10 ∷ col 1 11 ∷ col 1 12 ∷ col 1 13 ∷ col 1 14 ∷ []

abbrev no_limit : Term
no_limit = lit (Int (negsuc 0))

abbrev nodes_query : Program
nodes_query = record { lets = []; body = ordered_query 1 [] nodes_shown no_limit }

abbrev nodes_names : List (List ℕ)
nodes_names =
    codes "node" ∷ codes "mode" ∷ codes "uid" ∷ codes "gid" ∷ codes "rdev" ∷ codes "size" ∷ codes "atime" ∷ codes "atimensec" ∷ codes "mtime" ∷ codes "mtimensec"
    ∷ codes "ctime" ∷ codes "ctimensec" ∷ codes "up" ∷ codes "subdirs" ∷ []

nodes_is : command_of (understood store_schema nodes_text) ≡ Select nodes_query nodes_names
unfolding understood everything
nodes_is = refl

nodes_plain : IsPlain (understood store_schema nodes_text)
unfolding understood everything
nodes_plain = (refl, refl)

nodes_unlisted : reads_listing store_schema nodes_text ≡ false
unfolding understood everything
nodes_unlisted = refl

pub nodes_select : IsSelectText (first nodes_text)
unfolding first everything
nodes_select = (_, refl)

nodes_found_of : (c : Content) (old new : State) (rows : List Row) → InsideAs (HoldsIn Second c) old → Shown nodes_text [] old new rows
    → rows ≡ map (given_node Second) c.nodes
nodes_found_of c old new rows at h =
    let answer = (read (HoldsIn Second) store_schema (schema_known Second) nodes_text [] (Select nodes_query nodes_names) nodes_is nodes_plain nodes_unlisted c old
    new rows at h).answer Null in
    let was = (laid c old.now at.holds.0).nodes in
    let has : old.now.trees 1 ≡ map (node_row Second) c.nodes = subst (λ j. old.now.trees 1 ≡ map (node_row j) c.nodes) at.holds.1 was.0 in
    answered_in_order (λ (n : NodeRow). n.node) (λ n. Null ∷ node_columns Second n) (λ _. true) Null (overlay old.now.trees []) [] [] (λ _. refl) nodes_shown
    no_limit 1 c.nodes rows has (rises_from (λ (n : NodeRow). n.node) (node_row Second) (λ _. refl) c.nodes (subst IsTable has was.1)) answer
    ∙ ap (map (given_node Second)) (all_of c.nodes)

pub nodes_look : {X : Type 0} (items : X → List Row) (old new : State) (r : Result X Error)
    → (HasCleanDisk new → IfOk r (λ x. Shown nodes_text [] old new (items x)))
    → (HasCleanDisk new → IfErr r (FailsToQuery nodes_text [] old new)) → Survives old new (CommitsShowing nodes_text [] old)
    → Takes (HoldsIn Second) (HoldsIn Second) old new r
nodes_look items = looks (HoldsIn Second) store_schema (schema_known Second) nodes_text [] (Select nodes_query nodes_names) nodes_is nodes_plain nodes_select items

pub nodes_found : {X : Type 0} (items : X → List Row) (old new : State) (r : Result X Error)
    → (HasCleanDisk new → IfOk r (λ x. Shown nodes_text [] old new (items x)))
    → HasCleanDisk new → IfOk r (λ x. (c : Content) → InsideAs (HoldsIn Second c) old → items x ≡ map (given_node Second) c.nodes)
nodes_found items old new (Ok x) ok clean = λ c at. nodes_found_of c old new (items x) at (ok clean)
nodes_found items old new (Err e) ok clean = tt

-- ---- the blocks of one

abbrev count_terms : List Term
count_terms = op2 (Compare Eq Binary) (col 1 1) (col 0 0) ∷ []

abbrev count_program : Program
count_program = record { lets = []; body = count_query 5 count_terms }

count_is : command_of (understood store_schema count_text) ≡ Select count_program (codes "count(*)" ∷ [])
unfolding understood everything
count_is = refl

count_plain : IsPlain (understood store_schema count_text)
unfolding understood everything
count_plain = (refl, refl)

count_unlisted : reads_listing store_schema count_text ≡ false
unfolding understood everything
count_unlisted = refl

pub count_select : IsSelectText (first count_text)
unfolding first everything
count_select = (_, refl)

count_tests : (node : ℕ) (b : Block) → list_all (holds ((Int (pos node) ∷ []) ∷ block_row b ∷ [])) count_terms ≡ is_block_of node b
unfolding binary
count_tests node b = ap (λ o. is_true (from_truth (Some (is_eq o))) && true) (row_cmp_nat b.node node) ∙ truth_of (is_block_of node b)

count_found_of : (node : ℕ) (c : Content) (old new : State) (rows : List Row) → InsideAs (HoldsIn Second c) old → Shown count_text (Int (pos node) ∷ []) old new rows
    → rows ≡ shown_number (counted_to (filter (is_block_of node) c.blocks)) ∷ []
count_found_of node c old new rows at h =
    let answer = (read (HoldsIn Second) store_schema (schema_known Second) count_text (Int (pos node) ∷ []) (Select count_program (codes "count(*)" ∷ [])) count_is
    count_plain count_unlisted c old new rows at h).answer Null in
    counted_all block_row (is_block_of node) Null (overlay old.now.trees []) count_terms (Int (pos node) ∷ []) (count_tests node) 5 c.blocks rows
    (laid c old.now at.holds.0).blocks.0 answer

module _ (node : ℕ) {X : Type 0} (items : X → List Row) (old new : State) where
  pub count_looks : (r : Result X Error) → (HasCleanDisk new → IfOk r (λ x. Shown count_text (Int (pos node) ∷ []) old new (items x)))
      → (HasCleanDisk new → IfErr r (FailsToQuery count_text (Int (pos node) ∷ []) old new))
      → Survives old new (CommitsShowing count_text (Int (pos node) ∷ []) old) → Takes (HoldsIn Second) (HoldsIn Second) old new r
  count_looks r =
      looks (HoldsIn Second) store_schema (schema_known Second) count_text (Int (pos node) ∷ []) (Select count_program (codes "count(*)" ∷ [])) count_is count_plain
      count_select items old new r

  pub count_found : (r : Result X Error) → (HasCleanDisk new → IfOk r (λ x. Shown count_text (Int (pos node) ∷ []) old new (items x)))
      → HasCleanDisk new → IfOk r (λ x. (c : Content) → InsideAs (HoldsIn Second c) old
      → items x ≡ shown_number (counted_to (filter (is_block_of node) c.blocks)) ∷ [])
  count_found (Ok x) ok clean = λ c at. count_found_of node c old new (items x) at (ok clean)
  count_found (Err e) ok clean = tt

-- ---- what is added, node after node

abbrev pub Knows : List Row → Content → Type 0
Knows nodes c = nodes ≡ map (given_node Second) c.nodes

abbrev pub AddedTo : List Added → ℕ → Content → ℕ → Type 0
AddedTo all at c m = all ≡ map (λ n. added_of (with_written c.blocks n)) (take at c.nodes)

abbrev pub KnowsOne : Row → Content → Type 0
KnowsOne row c = (n : NodeRow) × (row ≡ given_node Second n)

abbrev pub AddsOne : Row → Content → Added → Type 0
AddsOne row c a = (n : NodeRow) → row ≡ given_node Second n → a ≡ added_of (with_written c.blocks n)

map_last : {X Y : Type 0} (f : X → Y) (xs : List X) (x : X) → map f (xs ++ x ∷ []) ≡ map f xs ++ f x ∷ []
map_last f [] x = refl
map_last f (y ∷ xs) x = ap (λ more. f y ∷ more) (map_last f xs x)

one_at : (ns : List NodeRow) (at : ℕ) (d : Row) → at < length (map (given_node Second) ns)
    → (n : NodeRow) × (slice_index_or (map (given_node Second) ns) at d ≡ given_node Second n) × (take (suc at) ns ≡ take at ns ++ n ∷ [])
one_at [] at d low = absurd (omega (arith, low))
one_at (n ∷ ns) zero d low = (n, refl, refl)
one_at (n ∷ ns) (suc at) d low =
    let more = one_at ns at d (omega (arith, low)) in
    (more.0, more.1, ap (λ l. n ∷ l) more.2)

module _ (nodes : List Row) (at : ℕ) (row : Row) (low : at < length nodes) (is : row ≡ slice_index_or nodes at row) where
  knows_one : (c : Content) → Knows nodes c → KnowsOne row c
  knows_one c known =
      let step = one_at c.nodes at row (subst (λ l. at < length l) known low) in
      (step.0, is ∙ ap (λ l. slice_index_or l at row) known ∙ step.1)

  pub added_more : (all now : List Added) (one : Added) → now ≡ all ++ one ∷ [] → (a b d : State) (x y : ℕ) → ReadsIf (Knows nodes) (AddedTo all at) a b (Ok x)
      → ReadsIf (KnowsOne row) (AddsOne row) b d (Ok one) → ReadsIf (Knows nodes) (AddedTo now (suc at)) a d (Ok y)
  added_more all now one pushed a b d x y p q =
      looks_told (Knows nodes) (λ c z. AddedTo all at c x × AddsOne row c z) (AddedTo now (suc at)) a d one y
      (λ c known found.
      let f = λ (n : NodeRow). added_of (with_written c.blocks n) in
      let step = one_at c.nodes at row (subst (λ l. at < length l) known low) in
      let same = is ∙ ap (λ l. slice_index_or l at row) known ∙ step.1 in
      pushed ∙ ap (λ l. l ++ one ∷ []) found.0 ∙ ap (λ z. map f (take at c.nodes) ++ z ∷ []) (found.1 step.0 same) ∙ sym (map_last f (take at c.nodes) step.0)
      ∙ ap (map f) (sym step.2))
      (looks_then (Knows nodes) (KnowsOne row) (AddedTo all at) (AddsOne row) a b d x (Ok one) p (λ c known found. knows_one c known) q)

  pub added_fails : {Y : Type 0} (Told : Content → Y → Type 0) (all : List Added) (e : StoreFault) (a b d : State) (x : ℕ)
      → ReadsIf (Knows nodes) (AddedTo all at) a b (Ok x) → ReadsIf (KnowsOne row) (AddsOne row) b d (Err e) → ReadsIf (Knows nodes) Told a d (Err e)
  added_fails Told all e a b d x p q =
      looks_fail (Knows nodes) (λ c z. AddedTo all at c x × AddsOne row c z) Told a d e (Err e) refl
      (looks_then (Knows nodes) (KnowsOne row) (AddedTo all at) (AddsOne row) a b d x (Err e) p (λ c known found. knows_one c known) q)

  pub added_memory : {Y : Type 0} (Told : Content → Y → Type 0) (all : List Added) (one : Added) (a b d : State) (x : ℕ)
      → ReadsIf (Knows nodes) (AddedTo all at) a b (Ok x) → ReadsIf (KnowsOne row) (AddsOne row) b d (Ok one) → ReadsIf (Knows nodes) Told a d (Err Memory)
  added_memory Told all one a b d x p q =
      looks_memory (Knows nodes) (λ c z. AddedTo all at c x × AddsOne row c z) Told a d one
      (looks_then (Knows nodes) (KnowsOne row) (AddedTo all at) (AddsOne row) a b d x (Ok one) p (λ c known found. knows_one c known) q)

pub all_added : (nodes : List Row) (at : ℕ) (all : List Added) → length nodes ≤ at → {V : Type 0} (items : V → List Added) (v : V) → items v ≡ all → (a b : State) (x : ℕ)
    → ReadsIf (Knows nodes) (AddedTo all at) a b (Ok x) → ReadsIf (Knows nodes) (λ c w. items w ≡ map (λ n. added_of (with_written c.blocks n)) c.nodes) a b (Ok v)
all_added nodes at all high items v is a b x p =
    looks_told (Knows nodes) (AddedTo all at) (λ c w. items w ≡ map (λ n. added_of (with_written c.blocks n)) c.nodes) a b x v
    (λ c known found.
    is ∙ found
    ∙ ap (map (λ n. added_of (with_written c.blocks n))) (take_all at c.nodes (subst (λ n. n ≤ at) (ap length known ∙ length-map c.nodes (given_node Second)) high)))
    p

-- Rows of version 2 put into the tables of version 3.
use Rattle.std.proofs.Common.{◌≡◌, ◌<◌, ◌≤◌, ◌⊎◌, inl, inr, ℕ, zero, suc, pos, List, [], ◌∷◌, map, fold, take, length, slice_index_or, None, Ok, Err, Result, refl, sym}
use Rattle.std.proofs.Common.{ap, subst, arith, take_all, ◌∙◌}
use Rattle.std.proofs.lemmas.List.{length-map}
use Rattle.sqlite.specs.declared.types.Value.{Value}
use Rattle.sqlite.specs.Effect.{Database}
use Rattle.sqlite.specs.declared.types.Value.TheVariants.{Int}
use Rattle.sqlite.specs.Values.{bound_value}
use Rattle.sqlite.specs.Order.{Row}
use Rattle.sqlite_trees.specs.Tree.{IsTable, put_row}
use Rattle.sqlite_trees.proofs.TreeLemmas.{IsTable-put_row}
use Rattle.sqlite.specs.Term.{Term, col}
use Rattle.sqlite.specs.Source.TheVariants.{Values}
use Rattle.sqlite.specs.Command.TheVariants.{Insert}
use Rattle.sqlite_rules.specs.Cast.{cast_row}
use Rattle.sqlite_tied.specs.Compute.{everything}
use Rattle.sqlite.specs.declared.error.Error.{Error}
use Rattle.sqlite.specs.Listing.{understood}
use Rattle.sqlite.specs.State.{State, HasCleanDisk, Survives, CommitsBy, Writes}
use Rattle.sqlite.proofs.Callers.{IsPlain, command_of, statement_of}
use Rattle.sqlite_resolve.specs.Compile.{first}
use Rattle.fuse_store_tables.specs.Layout.{blocks, schema_for}
use Rattle.fuse_store_tables.specs.declared.version.Layout.{Layout}
use Rattle.fuse_store_tables.specs.declared.version.Layout.TheVariants.{Second, Third}
use Rattle.fuse_store_tables.specs.declared.copied.Copied.{Copied}
use Rattle.fuse_store_tables.specs.declared.copied.Copied.TheVariants.{Counters, Entries, Blocks, Handles, Lots, Records}
use Rattle.fuse_store_tables.specs.Blocks.{Block, block_row}
use Rattle.fuse_store_tables.specs.Content.{Content, Holds, stored, put_by, with_node}
use Rattle.fuse_store_tables.specs.Moves.{Makes, Takes}
use Rattle.fuse_store_tables.specs.inner.Copies.{RowOf, copy_row, put_copy, put_copies, put_text, RowGiven, RowPut, RowsGiven, RowsPut}
use Rattle.fuse_store_tables.specs.inner.Copies.{NodeGiven, NodePut, NodesGiven, NodesPut, put_nodes, added_of}
use Rattle.fuse_store_tables.specs.declared.counted_nodes.Added.{Added}
use Rattle.fuse_rows.specs.declared.rows.NodeRow.{NodeRow}
use Rattle.fuse_store_tables.specs.inner.Columns.{given_node}
use Rattle.fuse_store_tables.proofs.NodeRows.{insert_text, adds as adds_node, insert_edit as node_edit}
use Rattle.fuse_store_tables.specs.inner.Steps.{HoldsIn}
use Rattle.fuse_store_tables.specs.inner.Performing.{Ran}
use Rattle.fuse_store_tables.proofs.Tables.{wrote, quiet, only_blocks, blocks_listed, laid}
use Rattle.fuse_store_tables.proofs.Keyed.{put_rows}
use Rattle.fuse_store_tables.proofs.RowLemmas.{cast_int, inserted}
use Rattle.fuse_store_tables.proofs.Laid.{makes_laid}
use Rattle.fuse_store_tables.proofs.Edits.{IsEditText, edits_within}
use Rattle.fuse_store_tables.proofs.Joining.{earlier, stays_then}
use Rattle.fuse_store_tables.specs.inner.Following.{inside_then}
use Rattle.fuse_store_tables.proofs.Nothing.{no_step, still}
use Rattle.fuse_store_tables.proofs.Refills.{adds_counter, counter_edit}
use Rattle.fuse_store_tables.proofs.EntryRows.{adds as adds_entry, insert_edit as entry_edit}
use Rattle.fuse_store_tables.proofs.HandleRows.{adds as adds_handle, insert_edit as handle_edit}
use Rattle.fuse_store_tables.proofs.KeptRows.{adds as adds_kept, insert_edit as kept_edit}
use Rattle.fuse_store_tables.proofs.LotRows.{adds as adds_lot, insert_edit as lot_edit}

-- ---- a block, with its hidden rowid

abbrev block_terms : List Term
block_terms = col 0 0 ∷ col 0 1 ∷ col 0 2 ∷ col 0 3 ∷ []

block_is : (l : Layout) → command_of (understood (schema_for l) (put_text Blocks)) ≡ Insert 3 (Values block_terms 4)
unfolding understood everything
block_is Second = refl
block_is Third = refl

block_plain : (l : Layout) → IsPlain (understood (schema_for l) (put_text Blocks))
unfolding understood everything
block_plain Second = (refl, refl)
block_plain Third = (refl, refl)

block_edit : IsEditText (first (put_text Blocks))
unfolding first everything
block_edit = tt

cast_block : (b : Block) → cast_row blocks (block_row b) ≡ block_row b
cast_block b = rw (cast_int (pos b.slot), cast_int (pos b.node), cast_int (pos b.block))

abbrev with_slot : Block → Content → Content
with_slot b c = record c { blocks = put_by (λ x. x.slot) b c.blocks }

block_in : (b : Block) (c : Content) (old new : State) (n : ℕ) → Holds c old.now → Writes old new None (Insert 3 (Values block_terms 4))
    (statement_of (put_text Blocks) (understood (schema_for c.layout) (put_text Blocks))) (block_row b) n
    → Holds (with_slot b c) new.now
block_in b c old new n at w =
    let put = inserted (schema_for c.layout) 3 blocks (blocks_listed c.layout) block_terms 4 old new _ (block_row b) n (block_row b)
    (λ keys news. quiet c.layout keys 5 [] news) (ap (λ r. r ∷ []) (cast_block b)) at.schema w in
    let was = (laid c old.now at).blocks in
    wrote (schema_for c.layout) (stored c) (stored (with_slot b c)) blocks old.now new.now at put.spares w.sound (only_blocks c (put_by (λ x. x.slot) b c.blocks))
    (put.rows ∙ ap (put_row (block_row b)) was.0 ∙ put_rows (λ x. x.slot) block_row (λ _. refl) b c.blocks)
    (subst IsTable (sym put.rows) (IsTable-put_row (block_row b) (old.now.trees 5) was.1))

adds_block : (b : Block) (old new : State) (r : Result (Unit {0}) Error) → (HasCleanDisk new → Ran (put_text Blocks) (block_row b) old new r)
    → Survives old new (CommitsBy (put_text Blocks) (block_row b) old) → Makes (with_slot b) old new r
adds_block b = makes_laid (put_text Blocks) (block_row b) (λ _. Insert 3 (Values block_terms 4)) block_is block_plain (λ _. refl) block_edit
    (λ c. Holds (with_slot b c)) (block_in b)

-- ---- a row of any of these tables

pub copy_edit : (k : Copied) → IsEditText (first (put_text k))
copy_edit Counters = counter_edit
copy_edit Entries = entry_edit
copy_edit Blocks = block_edit
copy_edit Handles = handle_edit
copy_edit Lots = lot_edit
copy_edit Records = kept_edit

pub adds_copy : (k : Copied) (x : RowOf k) (old new : State) (r : Result (Unit {0}) Error) → (HasCleanDisk new → Ran (put_text k) (copy_row k x) old new r)
    → Survives old new (CommitsBy (put_text k) (copy_row k x) old) → Makes (put_copy k x) old new r
adds_copy Counters x = adds_counter x.key x.value
adds_copy Entries x = adds_entry x
adds_copy Blocks x = adds_block x
adds_copy Handles x = adds_handle x
adds_copy Lots x = adds_lot x
adds_copy Records x = adds_kept x

-- ---- what the row in memory is

pub same_two : (row values : Row) → ((a b : Value) → row ≡ a ∷ b ∷ [] → values ≡ bound_value a ∷ bound_value b ∷ []) → (k : Copied) → k ≡ Counters
    → (x : RowOf k) → row ≡ copy_row k x → values ≡ copy_row k x
same_two row values has k is = subst (λ j. (x : RowOf j) → row ≡ copy_row j x → values ≡ copy_row j x) (sym is) (λ x same. has _ _ same)

pub same_three : (row values : Row) → ((a b d : Value) → row ≡ a ∷ b ∷ d ∷ [] → values ≡ bound_value a ∷ bound_value b ∷ bound_value d ∷ []) → (k : Copied) → k ≡ Handles
    → (x : RowOf k) → row ≡ copy_row k x → values ≡ copy_row k x
same_three row values has k is = subst (λ j. (x : RowOf j) → row ≡ copy_row j x → values ≡ copy_row j x) (sym is) (λ x same. has _ _ _ same)

pub same_one : (row values : Row) → ((a : Value) → row ≡ a ∷ [] → values ≡ bound_value a ∷ []) → (k : Copied) → k ≡ Lots
    → (x : RowOf k) → row ≡ copy_row k x → values ≡ copy_row k x
same_one row values has k is = subst (λ j. (x : RowOf j) → row ≡ copy_row j x → values ≡ copy_row j x) (sym is) (λ x same. has _ same)

pub same_four : (row values : Row)
    → ((a b d e : Value) → row ≡ a ∷ b ∷ d ∷ e ∷ [] → values ≡ bound_value a ∷ bound_value b ∷ bound_value d ∷ bound_value e ∷ []) → (k : Copied)
    → (k ≡ Entries) ⊎ ((k ≡ Blocks) ⊎ (k ≡ Records)) → (x : RowOf k) → row ≡ copy_row k x → values ≡ copy_row k x
same_four row values has k (inl is) = subst (λ j. (x : RowOf j) → row ≡ copy_row j x → values ≡ copy_row j x) (sym is) (λ x same. has _ _ _ _ same)
same_four row values has k (inr (inl is)) = subst (λ j. (x : RowOf j) → row ≡ copy_row j x → values ≡ copy_row j x) (sym is) (λ x same. has _ _ _ _ same)
same_four row values has k (inr (inr is)) = subst (λ j. (x : RowOf j) → row ≡ copy_row j x → values ≡ copy_row j x) (sym is) (λ x same. has _ _ _ _ same)

layout_kept : (k : Copied) (x : RowOf k) (c : Content) → (put_copy k x c).layout ≡ c.layout
layout_kept Counters x c = refl
layout_kept Entries x c = refl
layout_kept Blocks x c = refl
layout_kept Handles x c = refl
layout_kept Lots x c = refl
layout_kept Records x c = refl

pub puts_copy : (k : Copied) (text : List ℕ) (values row : Row) → text ≡ put_text k → ((x : RowOf k) → row ≡ copy_row k x → values ≡ copy_row k x)
    → (old new : State) (r : Result (Unit {0}) Error) → (HasCleanDisk new → Ran text values old new r) → Survives old new (CommitsBy text values old)
    → Takes (RowGiven k row) (RowPut k) old new r
puts_copy k text values row is same old new (Ok y) runs survives =
    let within = edits_within text values (subst (λ t. IsEditText (first t)) (sym is) (copy_edit k)) old new (Ok y) runs survives in
    record {
      stays = record { survives = within.survives; kept = within.kept };
      within = within.within;
      turns = λ clean p at.
          let e = same p.0 at.holds.0 in
          let one = adds_copy k p.0 old new (Ok y)
          (subst (λ t. HasCleanDisk new → Ran t (copy_row k p.0) old new (Ok y)) is (subst (λ v. HasCleanDisk new → Ran text v old new (Ok y)) e runs))
          (subst (λ t. Survives old new (CommitsBy t (copy_row k p.0) old)) is (subst (λ v. Survives old new (CommitsBy text v old)) e survives)) in
          let on = one.turns clean p.1 (record { is_open = at.is_open; in_transaction = at.in_transaction; holds = at.holds.1.0 }) in
          record { is_open = on.is_open; in_transaction = on.in_transaction; holds = (on.holds, layout_kept k p.0 p.1 ∙ at.holds.1.1) };
    }
puts_copy k text values row is same old new (Err e) runs survives =
    let within = edits_within text values (subst (λ t. IsEditText (first t)) (sym is) (copy_edit k)) old new (Err e) runs survives in
    record { stays = record { survives = within.survives; kept = within.kept }; within = tt; turns = tt }

-- ---- rows one after another

-- the row at a place, and what is made of the rows up to it
pub step_at : {X C : Type 0} (row : X → Row) (f : C → X → C) (xs : List X) (at : ℕ) (d : Row) → at < length (map row xs)
    → (x : X) × (slice_index_or (map row xs) at d ≡ row x) × ((c : C) → fold f c (take (suc at) xs) ≡ f (fold f c (take at xs)) x)
step_at row f [] at d low = absurd (omega (arith, low))
step_at row f (x ∷ xs) zero d low = (x, refl, λ c. refl)
step_at row f (x ∷ xs) (suc at) d low =
    let more = step_at row f xs at d (omega (arith, low)) in
    (more.0, more.1, λ c. more.2 (f c x))

-- as many rows as come before a place
abbrev pub RowsBefore : (k : Copied) → ℕ → List (RowOf k) × Content → Database → Type 0
RowsBefore k at p = HoldsIn Third (put_copies k (take at p.0) p.1)

pub none_before : (k : Copied) (rows : List Row) (a : State) → Takes {X = ℕ} {E = Error} (RowsGiven k rows) (RowsBefore k 0) a a (Ok 0)
none_before k rows a = record {
  stays = record { survives = no_step a _; kept = λ clean inside. still a };
  within = λ clean inside. inside;
  turns = λ clean p at. record { is_open = at.is_open; in_transaction = at.in_transaction; holds = at.holds.1 };
}

pub one_more : (k : Copied) (rows : List Row) (at : ℕ) (row : Row) → at < length rows → row ≡ slice_index_or rows at row → {X Y : Type 0} (a b d : State) (x : X)
    (r : Result Y Error) → Takes {E = Error} (RowsGiven k rows) (RowsBefore k at) a b (Ok x) → Takes (RowGiven k row) (RowPut k) b d r
    → Takes (RowsGiven k rows) (RowsBefore k (suc at)) a d r
one_more k rows at row low is a b d x (Ok y) p q = record {
  stays = stays_then a b d p.stays p.within q.stays;
  within = inside_then a b d p.within q.stays.survives q.within;
  turns = λ clean c given.
      let mid = p.turns (earlier b d _ q.stays.survives clean) c given in
      let step = step_at (copy_row k) (λ (e : Content) z. put_copy k z e) c.0 at row (subst (λ rs. at < length rs) given.holds.0 low) in
      let same = is ∙ ap (λ rs. slice_index_or rs at row) given.holds.0 ∙ step.1 in
      let on = q.turns clean (step.0, put_copies k (take at c.0) c.1)
      (record { is_open = mid.is_open; in_transaction = mid.in_transaction; holds = (same, mid.holds) }) in
      record { is_open = on.is_open; in_transaction = on.in_transaction; holds = subst (λ e. HoldsIn Third e d.now) (sym (step.2 c.1)) on.holds };
}
one_more k rows at row low is a b d x (Err e) p q = record { stays = stays_then a b d p.stays p.within q.stays; within = tt; turns = tt }

pub all_put : (k : Copied) (rows : List Row) (at : ℕ) → length rows ≤ at → {X Y : Type 0} (a b : State) (x : X) (y : Y)
    → Takes {E = Error} (RowsGiven k rows) (RowsBefore k at) a b (Ok x) → Takes {E = Error} (RowsGiven k rows) (RowsPut k) a b (Ok y)
all_put k rows at high a b x y p = record {
  stays = p.stays;
  within = p.within;
  turns = λ clean c given.
      let on = p.turns clean c given in
      let few : length c.0 ≤ at = subst (λ n. n ≤ at) (ap length given.holds.0 ∙ length-map c.0 (copy_row k)) high in
      record {
        is_open = on.is_open;
        in_transaction = on.in_transaction;
        holds = subst (λ l. HoldsIn Third (put_copies k l c.1) b.now) (take_all at c.0 few) on.holds;
      };
}

-- ---- the nodes

pub puts_node : (row : Row) (added : Added) (values : Row) → ((n : NodeRow) → row ≡ given_node Second n → added ≡ added_of n → values ≡ given_node Third n)
    → (old new : State) (r : Result (Unit {0}) Error) → (HasCleanDisk new → Ran (insert_text Third) values old new r)
    → Survives old new (CommitsBy (insert_text Third) values old) → Takes (NodeGiven row added) NodePut old new r
puts_node row added values same old new (Ok y) runs survives =
    let within = edits_within (insert_text Third) values (node_edit Third) old new (Ok y) runs survives in
    record {
      stays = record { survives = within.survives; kept = within.kept };
      within = within.within;
      turns = λ clean p at.
          let e = same p.0 at.holds.0 at.holds.1 in
          let one = adds_node Third p.0 old new (Ok y) (subst (λ v. HasCleanDisk new → Ran (insert_text Third) v old new (Ok y)) e runs)
          (subst (λ v. Survives old new (CommitsBy (insert_text Third) v old)) e survives) in
          let on = one.turns clean p.1 (record { is_open = at.is_open; in_transaction = at.in_transaction; holds = at.holds.2 }) in
          record { is_open = on.is_open; in_transaction = on.in_transaction; holds = (on.holds, at.holds.2.1) };
    }
puts_node row added values same old new (Err e) runs survives =
    let within = edits_within (insert_text Third) values (node_edit Third) old new (Err e) runs survives in
    record { stays = record { survives = within.survives; kept = within.kept }; within = tt; turns = tt }

-- the node at a place
abbrev IsNodeAt : List NodeRow → ℕ → Row → Added → NodeRow → Type 0
IsNodeAt ns at d e n =
    (slice_index_or (map (given_node Second) ns) at d ≡ given_node Second n) × (slice_index_or (map added_of ns) at e ≡ added_of n)
    × ((c : Content) → put_nodes (take (suc at) ns) c ≡ with_node n (put_nodes (take at ns) c))

node_at : (ns : List NodeRow) (at : ℕ) (d : Row) (e : Added) → at < length (map (given_node Second) ns) → (n : NodeRow) × IsNodeAt ns at d e n
node_at [] at d e low = absurd (omega (arith, low))
node_at (n ∷ ns) zero d e low = (n, (refl, refl, λ c. refl))
node_at (n ∷ ns) (suc at) d e low =
    let more = node_at ns at d e (omega (arith, low)) in
    (more.0, (more.1.0, more.1.1, λ c. more.1.2 (with_node n c)))

abbrev pub NodesBefore : ℕ → List NodeRow × Content → Database → Type 0
NodesBefore at p = HoldsIn Third (put_nodes (take at p.0) p.1)

pub no_nodes_before : (rows : List Row) (added : List Added) (a : State) → Takes {X = ℕ} {E = Error} (NodesGiven rows added) (NodesBefore 0) a a (Ok 0)
no_nodes_before rows added a = record {
  stays = record { survives = no_step a _; kept = λ clean inside. still a };
  within = λ clean inside. inside;
  turns = λ clean p at. record { is_open = at.is_open; in_transaction = at.in_transaction; holds = at.holds.2 };
}

pub node_more : (rows : List Row) (added : List Added) (at : ℕ) (row : Row) → at < length rows → row ≡ slice_index_or rows at row → {X Y : Type 0}
    (a b d : State) (x : X) (r : Result Y Error) → Takes {E = Error} (NodesGiven rows added) (NodesBefore at) a b (Ok x)
    → (more : Added) → Takes (NodeGiven row more) NodePut b d r → (none : Added) → more ≡ slice_index_or added at none
    → Takes (NodesGiven rows added) (NodesBefore (suc at)) a d r
node_more rows added at row low is a b d x (Ok y) p more q none also = record {
  stays = stays_then a b d p.stays p.within q.stays;
  within = inside_then a b d p.within q.stays.survives q.within;
  turns = λ clean c given.
      let mid = p.turns (earlier b d _ q.stays.survives clean) c given in
      let step = node_at c.0 at row none (subst (λ rs. at < length rs) given.holds.0 low) in
      let same = is ∙ ap (λ rs. slice_index_or rs at row) given.holds.0 ∙ step.1.0 in
      let told = also ∙ ap (λ all. slice_index_or all at none) given.holds.1 ∙ step.1.1 in
      let on = q.turns clean (step.0, put_nodes (take at c.0) c.1)
      (record { is_open = mid.is_open; in_transaction = mid.in_transaction; holds = (same, told, mid.holds) }) in
      record { is_open = on.is_open; in_transaction = on.in_transaction; holds = subst (λ e. HoldsIn Third e d.now) (sym (step.1.2 c.1)) on.holds };
}
node_more rows added at row low is a b d x (Err e) p more q none also = record { stays = stays_then a b d p.stays p.within q.stays; within = tt; turns = tt }

pub all_nodes : (rows : List Row) (added : List Added) (at : ℕ) → length rows ≤ at → {X Y : Type 0} (a b : State) (x : X) (y : Y)
    → Takes {E = Error} (NodesGiven rows added) (NodesBefore at) a b (Ok x) → Takes {E = Error} (NodesGiven rows added) NodesPut a b (Ok y)
all_nodes rows added at high a b x y p = record {
  stays = p.stays;
  within = p.within;
  turns = λ clean c given.
      let on = p.turns clean c given in
      let few : length c.0 ≤ at = subst (λ n. n ≤ at) (ap length given.holds.0 ∙ length-map c.0 (given_node Second)) high in
      record {
        is_open = on.is_open;
        in_transaction = on.in_transaction;
        holds = subst (λ l. HoldsIn Third (put_nodes l c.1) b.now) (take_all at c.0 few) on.holds;
      };
}

-- The rows of a tree are as they were once the content of a node is cut at its size.
use Rattle.std.proofs.Common.{◌≡◌, ◌<◌, ◌-◌, ◌==◌, inl, inr, ℕ, List, [], ◌∷◌, ◌++◌, map, length, take, replicate, Some, Option}
use Rattle.std.proofs.Common.{None, option_map, find, true, false, refl, sym, ap, subst, arith, ◌∙◌}
use Rattle.std.specs.Prelude.{IfSome, filter, nat_lt}
use Rattle.std.specs.List.{AllByRecursion}
use Rattle.std.proofs.lemmas.Bool.{cases_Bool}
use Rattle.std.proofs.lemmas.Bool.Decides.{nat_tests}
use Rattle.sqlite.specs.State.{State, HasCleanDisk}
use Rattle.fuse_rows.specs.declared.rows.Full.{Full}
use Rattle.fuse_rows.specs.declared.rows.NodeRow.{NodeRow}
use Rattle.fuse_rows.specs.declared.rows.Change.TheVariants as changes
use Rattle.fuse_tree.specs.State.{State as TreeState, Tree}
use Rattle.fuse_rows.specs.Blocks.{below_size, blocks_for}
use Rattle.fuse_rows.specs.Rows.{at_node, sized, body_sized}
use Rattle.fuse_tree.specs.RowsOfTrees.{CountsWritten, RowsOfTrees}
use Rattle.fuse_tree.specs.State.{AreWritten}
use Rattle.fuse_tree.specs.Rowed.{IsRowed, rowed}
use Rattle.fuse_store_tables.specs.Content.{Content, node_key, at_by}
use Rattle.fuse_store_tables.specs.Moves.{Inside, InsideAs, LookedInside}
use Rattle.fuse_store_tables.specs.inner.Following.{earlier, inside_then}
use Rattle.fuse_store_tree.specs.Fits.{Fits}
use Rattle.fuse_store_tree.specs.Pieces.{File}
use Rattle.fuse_store_tree.specs.Store.{Store, Held}
use Rattle.fuse_store_tree.specs.inner.Changing.{Changed, LeavesTrees}
use Rattle.fuse_store_tree.specs.inner.Writing.{with_change}
use Rattle.fuse_store_tree.proofs.Described.{Rises, rows_rise, rows_full, row_told, inside_of, IsFull}
use Rattle.fuse_store_tree.specs.inner.Laws.{looked_fails}

no_more : (xs : List ℕ) → take (length xs) xs ++ [] ≡ xs
no_more [] = refl
no_more (x ∷ xs) = ap (λ more. x ∷ more) (no_more xs)

-- a content cut at its length
pub sized_same : (xs : List ℕ) → sized (length xs) xs ≡ xs
sized_same xs = let e : length xs - length xs ≡ 0 = omega arith in ap (λ n. take (length xs) xs ++ replicate n 0) e ∙ no_more xs

above : (a b node : ℕ) → a < b → (a == node) ≡ true → (b == node) ≡ false
above a b node low here = grind (arith, nat_tests)

others_same : (node size a : ℕ) (fs : List Full) → (a == node) ≡ true → AllByRecursion (λ r. a < node_key r) (map (λ f. f.row) fs)
    → map (at_node node (body_sized size)) fs ≡ fs
others_same node size a [] here all = refl
others_same node size a (f ∷ fs) here all =
    rw (above a f.row.node node all.0 here) (ap (λ more. f ∷ more) (others_same node size a fs here all.1))

-- no written block is above the end of its content
none_above : (end : ℕ) (blocks : List ℕ) → AllByRecursion (λ b. b < end) blocks → filter (λ b. nat_lt b end) blocks ≡ blocks
none_above end [] all = refl
none_above end (b ∷ blocks) all = rw (low b all.0) (ap (λ l. b ∷ l) (none_above end blocks all.1))
  where
    low : (x : ℕ) → x < end → nat_lt x end ≡ true
    low x less = grind (arith, nat_tests)

blocks_same : (bytes : List ℕ) (o : Option (List ℕ)) → IfSome o (AreWritten bytes) → option_map (below_size (length bytes)) o ≡ o
blocks_same bytes None written = refl
blocks_same bytes (Some blocks) written = ap Some (none_above (blocks_for (length bytes)) blocks written.within)

-- a content cut at its length, with its written blocks
body_same : (f : Full) → CountsWritten f → body_sized (length f.content.bytes) f.content ≡ f.content
body_same f counted =
    ap (λ l. record { bytes = l; blocks = option_map (below_size (length f.content.bytes)) f.content.blocks }) (sized_same f.content.bytes)
    ∙ ap (λ o. record { bytes = f.content.bytes; blocks = o }) (blocks_same f.content.bytes f.content.blocks counted.written)

nodes_same : (node : ℕ) (row : NodeRow) (fs : List Full) → AllByRecursion IsFull fs → AllByRecursion CountsWritten fs → Rises node_key (map (λ f. f.row) fs)
    → option_map (λ f. f.row) (find (λ f. f.row.node == node) fs) ≡ Some row → map (at_node node (body_sized row.size)) fs ≡ fs
nodes_same node row [] full counts rises found = refl
nodes_same node row (f ∷ fs) full counts rises found = elim (cases_Bool (f.row.node == node)) [
  | inl here ↦
      let same : f.row ≡ row = let e = rw here at found in cc in
      let size : row.size ≡ length f.content.bytes = ap (λ r. r.size) (sym same) ∙ full.0.0 in
      rw here (ap (λ n. record f { content = body_sized n f.content } ∷ map (at_node node (body_sized row.size)) fs) size
      ∙ ap (λ l. record f { content = l } ∷ map (at_node node (body_sized row.size)) fs) (body_same f counts.0)
      ∙ ap (λ more. f ∷ more) (others_same node row.size f.row.node fs here rises.0))
  | inr off ↦ rw off (ap (λ more. f ∷ more) (nodes_same node row fs full.1 counts.1 rises.1 (rw off at found)))
]

store_same : RowsOfTrees → (x : Store) (node : ℕ) (row : NodeRow) → IsRowed x.rows
    → option_map (λ f. f.row) (find (λ f. f.row.node == node) x.rows.nodes) ≡ Some row → with_change (changes.Sized node row.size) x ≡ x
store_same of_trees x node row is_rowed found =
    ap (λ ns. record x { rows = record x.rows { nodes = ns } })
    (nodes_same node row x.rows.nodes (rows_full x.rows is_rowed) (of_trees x.rows is_rowed).counts (rows_rise x.rows is_rowed).0 found)

-- ---- the steps

looked_held : (file : List ℕ) (a b : State) → LookedInside a b → HasCleanDisk b → (x : Store) → InsideAs (Held file x) a → InsideAs (Held file x) b
looked_held file a b p clean x at =
    let now = p.same clean at.holds.0 (inside_of file x a at) in
    record { is_open = now.is_open; in_transaction = now.in_transaction; holds = (at.holds.0, now.holds, at.holds.2) }

pub looked_trees : (f : File) (a b : State) → LookedInside a b → LeavesTrees f a b
looked_trees f a b p = record {
  stays = p.stays;
  within = p.within;
  held = λ clean read at. (at.0, looked_held f.bytes a b p clean at.0 at.1);
  same = λ clean read x is_rowed at. looked_held f.bytes a b p clean x at;
}

pub sized_trees : RowsOfTrees → (f : File) (a b d : State) (node : ℕ) (row : NodeRow) (o : Option NodeRow) → LookedInside a b
    → (HasCleanDisk b → (c : Content) → Inside c a → Fits c → o ≡ at_by node_key node c.nodes) → o ≡ Some row
    → Changed f (with_change (changes.Sized node row.size)) b d → LeavesTrees f a d
sized_trees of_trees f a b d node row o p value is q = record {
  stays = looked_fails a b d p q.stays;
  within = inside_then a b d p.within q.stays.survives q.within;
  held = λ clean read at. (
    with_change (changes.Sized node row.size) at.0,
    q.turns read clean at.0 (looked_held f.bytes a b p (earlier b d _ q.stays.survives clean) at.0 at.1),
  );
  same = λ clean read x is_rowed at.
      let mid = earlier b d _ q.stays.survives clean in
      let found = sym (row_told x f.bytes at.holds.0 is_rowed at.holds.2 node) ∙ sym (value mid at.holds.0 (inside_of f.bytes x a at) at.holds.2.fits) ∙ is in
      subst (λ s. InsideAs (Held f.bytes s) d) (store_same of_trees x node row is_rowed found)
      (q.turns read clean x (looked_held f.bytes a b p mid x at));
}

pub trees_then : (f : File) (a b d : State) → LookedInside a b → LeavesTrees f b d → LeavesTrees f a d
trees_then f a b d p q = record {
  stays = looked_fails a b d p q.stays;
  within = inside_then a b d p.within q.stays.survives q.within;
  held = λ clean read at. q.held clean read (at.0, looked_held f.bytes a b p (earlier b d _ q.stays.survives clean) at.0 at.1);
  same = λ clean read x is_rowed at. q.same clean read x is_rowed (looked_held f.bytes a b p (earlier b d _ q.stays.survives clean) x at);
}

-- ---- what is held

pub tree_rowed : (s : TreeState) → Tree s → IsRowed (rowed s)
unfolding IsRowed
tree_rowed s tree = (s, tree, refl)

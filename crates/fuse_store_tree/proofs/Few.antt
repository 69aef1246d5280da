-- Bounds that hold where the tables hold a tree.
use Rattle.std.proofs.Common.{◌≡◌, ◌≤◌, ◌<◌, ◌+◌, ◌^◌, inl, inr, ℕ, List, [], ◌∷◌, Bool, IfSome, option_map, find, length, refl, sym, subst, arith}
use Rattle.std.specs.List.{AllByRecursion}
use Rattle.std.proofs.lemmas.Bool.{cases_Bool}
use Rattle.sqlite.specs.Effect.{Database}
use Rattle.fuse_rows.specs.Bounds.{file_limit}
use Rattle.fuse_tree.specs.State.{State, Tree, Node, Apart, AreApart, IsEntry}
use Rattle.fuse_tree.specs.Rowed.{IsRowed, rowed}
use Rattle.fuse_rows.specs.declared.rows.EntryRow.{EntryRow}
use Rattle.fuse_rows.specs.declared.rows.Full.{Full}
use Rattle.fuse_store_tables.specs.Content.{Counter, at_by, node_key}
use Rattle.fuse_store_tree.specs.inner.Reading.{value_of}
use Rattle.fuse_store_tree.specs.Holding.{Holding, HeldFor, store_of}
use Rattle.fuse_store_tree.proofs.Described.{entries_told, handles_are, row_told, rows_full}

-- ---- entries

above_all : (e : EntryRow) (es : List EntryRow) → AllByRecursion (AreApart e) es → AllByRecursion (λ later. e.cookie < later.cookie) es
above_all e [] apart = tt
above_all e (x ∷ es) apart = (apart.0.cookie, above_all e es apart.1)

below_all : (nodes : List Node) (entries : List EntryRow) (end : ℕ) (es : List EntryRow) → AllByRecursion (IsEntry nodes entries end) es
    → AllByRecursion (λ e. e.cookie < end) es
below_all nodes entries end [] all = tt
below_all nodes entries end (e ∷ es) all = (all.0.below, below_all nodes entries end es all.1)

-- numbers that rise between two are no more than lie between them
rising_few : (low end : ℕ) (es : List EntryRow) → low ≤ end → AllByRecursion (λ e. low ≤ e.cookie) es → AllByRecursion (λ e. e.cookie < end) es
    → Apart AreApart es → length es + low ≤ end
rising_few low end [] order from below apart = omega (arith, order)
rising_few low end (e ∷ es) order from below apart =
    let first = from.0 in
    let last = below.0 in
    let higher = stand e es (above_all e es apart.0) in
    let more : length es + (e.cookie + 1) ≤ end = rising_few (e.cookie + 1) end es (omega (arith, last)) higher below.1 apart.1 in
    omega (arith, first, more)
  where
    stand : (x : EntryRow) (xs : List EntryRow) → AllByRecursion (λ later. x.cookie < later.cookie) xs
        → AllByRecursion (λ later. x.cookie + 1 ≤ later.cookie) xs
    stand x [] all = tt
    stand x (y ∷ ys) all = (omega (arith, all.0), stand x ys all.1)

from_three : (nodes : List Node) (entries : List EntryRow) (end : ℕ) (es : List EntryRow) → AllByRecursion (IsEntry nodes entries end) es
    → AllByRecursion (λ e. 3 ≤ e.cookie) es
from_three nodes entries end [] all = tt
from_three nodes entries end (e ∷ es) all = (all.0.from_three, from_three nodes entries end es all.1)

tree_few : (s : State) → Tree s → length (rowed s).entries < 2 ^ 62
unfolding rowed
tree_few s tree =
    let few = rising_few 3 s.next_cookie s.entries tree.shape.limits.cookie_from_three (from_three s.nodes s.entries s.next_cookie s.entries tree.shape.entries)
    (below_all s.nodes s.entries s.next_cookie s.entries tree.shape.entries)
    tree.shape.entries_apart in
    let end = tree.shape.limits.next_cookie in
    omega (arith, few, end)

handles_few : (s : State) → Tree s → length (rowed s).handles < 2 ^ 62
unfolding rowed
handles_few s tree = let few = tree.shape.limits.handles in omega (arith, few)

tree_rowed : (s : State) → Tree s → IsRowed (rowed s)
unfolding IsRowed
tree_rowed s tree = (s, tree, refl)

module _ (file : List ℕ) (y : Holding) (d : Database) (at : HeldFor file y d) where
  pub few_entries : length at.held.0.entries < 2 ^ 62
  few_entries = subst (λ es. length es < 2 ^ 62) (sym (entries_told (store_of y) file at.held.0 (tree_rowed y.tree at.tree) at.held.2)) (tree_few y.tree at.tree)

  pub eleven : 11 ≤ length at.held.0.counters
  eleven = subst (λ (cs : List Counter). 11 ≤ length cs) (sym at.held.2.counters) (omega arith)

  pub minor_fits : value_of at.held.0.counters 7 < 2 ^ 32
  minor_fits = subst (λ cs. value_of cs 7 < 2 ^ 32) (sym at.held.2.counters) at.held.2.settings.minor

  pub readahead_fits : value_of at.held.0.counters 8 < 2 ^ 32
  readahead_fits = subst (λ cs. value_of cs 8 < 2 ^ 32) (sym at.held.2.counters) at.held.2.settings.readahead

  pub few_handles : length at.held.0.handles < 2 ^ 62
  few_handles = subst (λ hs. length hs < 2 ^ 62) (sym (handles_are (store_of y) file at.held.0 (tree_rowed y.tree at.tree) at.held.2)) (handles_few y.tree at.tree)

  pub sizes_fit : (number : ℕ) → IfSome (at_by node_key number at.held.0.nodes) (λ n. n.size ≤ file_limit)
  sizes_fit number =
      let is = tree_rowed y.tree at.tree in
      subst (λ o. IfSome o (λ n. n.size ≤ file_limit)) (sym (row_told (store_of y) file at.held.0 is at.held.2 number))
      (found _ (store_of y).rows.nodes (rows_full (store_of y).rows is))
    where
      found : (p : Full → Bool) (fs : List Full) → AllByRecursion (λ f. (f.row.size ≡ length f.content.bytes) × (f.row.size ≤ file_limit)) fs
          → IfSome (option_map (λ f. f.row) (find p fs)) (λ n. n.size ≤ file_limit)
      found p [] all = tt
      found p (f ∷ fs) all = elim (cases_Bool (p f)) [
        | inl here ↦ rw here (all.0.1)
        | inr not_here ↦ rw not_here (found p fs all.1)
      ]

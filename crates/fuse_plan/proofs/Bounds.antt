-- The bounds of the rows of a tree, so that a plan over them never gives up.
use Rattle.std.proofs.Common.{◌≡◌, ◌==◌, ◌≤◌, ◌&&◌, ◌||◌, ℕ, true, false, cond, not, eqb, List, [], ◌∷◌, length, take, Option, Some, None, refl, sym, subst, ◌∙◌, arith}
use Rattle.std.specs.Prelude.{filter, nat_lt}
use Rattle.std.proofs.lemmas.Bool.{lt-ltb}
use Rattle.std.specs.List.{AllByRecursion, list_any}
use Rattle.std.specs.Option.{option_map}
use Rattle.fuse_init.specs.Profile.{Terms}
use Rattle.fuse_rows.specs.declared.rows.EntryRow.{EntryRow}
use Rattle.fuse_rows.specs.declared.rows.HandleRow.{HandleRow}
use Rattle.fuse_rows.specs.declared.rows.NodeRow.{NodeRow}
use Rattle.fuse_rows.specs.Bounds.{block_limit}
use Rattle.fuse_rows.specs.Blocks.{how_many}
use Rattle.fuse_rows.specs.Rows.{is_entry, Rows, row_at, entry_at, is_after, entries_after}
use Rattle.fuse_tree.specs.State.{State, terms_of, Node, Shape, Tree, IsNode, IsEntry, is_below, has_number, node_at}
use Rattle.fuse_tree.specs.Rowed.{IsRowed, row_of, rowed, rows_of_state}
use Rattle.fuse_tree.specs.Handles.{is_open}
use Rattle.fuse_tree.specs.Removing.{has_entries}
use Rattle.fuse_plan.proofs.Lists.{all_more, found, any_gives, none_found, length_filtered}
use Rattle.fuse_plan.proofs.Puts.{row_found}
use Rattle.fuse_plan.proofs.SmallRows.{few_blocks}

-- the bounds of a row under these terms
pub record Bounded (t : Terms) (row : NodeRow) : Type 0 where
  pub size : row.size ≤ t.file_limit
  pub subdirs : row.subdirs ≤ t.node_limit
  pub written : how_many row.written ≤ block_limit

bounded : (s : State) (number : ℕ) (row : NodeRow) (o : Option Node) → Shape s → node_at s number ≡ o → option_map (row_of s) o ≡ Some row
    → Bounded (terms_of s) row
bounded s number row None tree e is = absurd cc
bounded s number row (Some n) tree e is =
    let p = (found (IsNode (terms_of s) s.next_node) (λ m. m.number == number) s.nodes n tree.nodes e).0 in
    let same : row_of s n ≡ row = cc in
    let here : Bounded (terms_of s) (row_of s n) =
    record { size = p.size; subdirs = omega (arith, tree.limits.nodes, length_filtered (is_below s.entries n.number) s.nodes); written = few_blocks s n p } in
    subst (Bounded (terms_of s)) same here

pub bounded_state : (s : State) (number : ℕ) (row : NodeRow) → Shape s → row_at (rows_of_state s) number ≡ Some row → Bounded (terms_of s) row
bounded_state s number row tree is = bounded s number row (node_at s number) tree refl (sym (row_found s number) ∙ is)

pub rowed_is : (s : State) → rowed s ≡ rows_of_state s
unfolding rowed
rowed_is s = refl

pub map_none : {A B : Type 0} (f : A → B) (o : Option A) → option_map f o ≡ None → o ≡ None
map_none f None e = refl
map_none f (Some x) e = absurd cc

-- a node that is there has a row
pub child_there : (s : State) (child : ℕ) → list_any (has_number child) s.nodes ≡ true → row_at (rows_of_state s) child ≡ None → ⊥
child_there s child there none =
    let missing : node_at s child ≡ None = map_none (row_of s) (node_at s child) (sym (row_found s child) ∙ none) in
    any_gives (λ n. (n.number == child) ≡ false) (has_number child) ⊥ s.nodes (none_found (λ n. n.number == child) s.nodes missing) there
    (λ n fails passes. absurd cc)

child_in_state : (s : State) (dir : ℕ) (name : List ℕ) (x : EntryRow) → Shape s → entry_at s.entries dir name ≡ Some x → row_at (rows_of_state s) x.child ≡ None
    → ⊥
child_in_state s dir name x tree e none =
    let p = (found (IsEntry s.nodes s.entries s.next_cookie) (is_entry dir name) s.entries x tree.entries e).0 in
    child_there s x.child p.child none

-- an entry that is found among those of a tree leads to a row
pub child_row : (rows : Rows) (dir : ℕ) (name : List ℕ) (x : EntryRow) → IsRowed rows → entry_at rows.entries dir name ≡ Some x → row_at rows x.child ≡ None → ⊥
unfolding IsRowed
child_row rows dir name x is e none =
    let s = is.0 in
    let same : rows ≡ rows_of_state s = is.2 ∙ rowed_is s in
    child_in_state s dir name x is.1.shape (subst (λ (r : Rows). entry_at r.entries dir name ≡ Some x) same e)
    (subst (λ (r : Rows). row_at r x.child ≡ None) same none)

open_counted : (handles : List HandleRow) (fh node : ℕ) → is_open handles fh node ≡ true → length handles ≡ 0 → ⊥
open_counted [] fh node there none = absurd cc
open_counted (h ∷ handles) fh node there none = absurd cc

-- where a handle is open in a tree, handles are counted
pub handle_counted : (rows : Rows) (fh node : ℕ) → IsRowed rows → is_open rows.handles fh node ≡ true → rows.counters.handles ≡ 0 → ⊥
unfolding IsRowed
handle_counted rows fh node is there none =
    let s = is.0 in
    let same : rows ≡ rows_of_state s = is.2 ∙ rowed_is s in
    open_counted s.handles fh node (subst (λ (r : Rows). is_open r.handles fh node ≡ true) same there) (subst (λ (r : Rows). r.counters.handles ≡ 0) same none)

-- the rows of a tree are those of one
pub is_rowed : (s : State) → Tree s → IsRowed (rowed s)
unfolding IsRowed
is_rowed s tree = (s, tree, refl)

-- an entry of a tree has a cookie above 0, so the first entry of a directory is among those after 0
first_after : (es : List EntryRow) (dir : ℕ) → AllByRecursion (λ e. 3 ≤ e.cookie) es
    → not (eqb (length (take 1 (filter (is_after dir 0) es))) 0) ≡ has_entries es dir
first_after [] dir all = refl
first_after (e ∷ es) dir all =
    let three : 3 ≤ e.cookie = all.0 in
    let above : nat_lt 0 e.cookie ≡ true = lt-ltb 0 e.cookie (omega arith) in
    let rest = first_after es dir all.1 in
    rw above (elim (eqb e.dir dir) as
    (λ b. not (eqb (length (take 1 (cond (b && true) (e ∷ filter (is_after dir 0) es) (filter (is_after dir 0) es)))) 0) ≡ (b || has_entries es dir)) [
      | true ↦ refl
      | false ↦ rest
    ])

-- the first entry after cookie 0 shows whether an entry stands in a directory
pub entries_told : (rows : Rows) (dir : ℕ) → IsRowed rows → not (eqb (length (entries_after rows dir 0 1)) 0) ≡ has_entries rows.entries dir
unfolding IsRowed
entries_told rows dir is =
    let s = is.0 in
    let same : rows ≡ rows_of_state s = is.2 ∙ rowed_is s in
    subst (λ (r : Rows). not (eqb (length (entries_after r dir 0 1)) 0) ≡ has_entries r.entries dir) (sym same)
    (first_after s.entries dir (all_more (IsEntry s.nodes s.entries s.next_cookie) (λ e. 3 ≤ e.cookie) s.entries (λ e p. p.from_three) is.1.shape.entries))

-- The rows of a tree fit a table, and so does what is found among them.
use Rattle.std.proofs.Common.{◌≡◌, ◌<◌, ◌≤◌, ◌==◌, ◌^◌, ℕ, Bool, true, false, cond, eqb, List, [], ◌∷◌, ◌++◌, length, map, Option, Some, None, is_some, refl, sym, subst, arith}
use Rattle.std.specs.Prelude.{IfSome}
use Rattle.std.specs.List.{AllByRecursion, list_any}
use Rattle.std.specs.Option.{option_map}
use Rattle.std.proofs.lemmas.Bool.{eqb-true}
use Rattle.fuse_wire.specs.declared.errno.Errno.{Errno}
use Rattle.fuse_rows.specs.Bounds.{number_end, node_limit, handle_limit, block_limit}
use Rattle.fuse_rows.specs.Blocks.{how_many}
use Rattle.fuse_plan.specs.declared.planning.finding.Link.{Link}
use Rattle.fuse_rows.specs.declared.rows.Change.{Change}
use Rattle.fuse_rows.specs.declared.rows.Counters.{Counters as CountersRow}
use Rattle.fuse_rows.specs.declared.rows.EntryRow.{EntryRow}
use Rattle.fuse_rows.specs.declared.rows.Full.{Full}
use Rattle.fuse_rows.specs.declared.rows.HandleRow.{HandleRow}
use Rattle.fuse_rows.specs.declared.rows.NodeRow.{NodeRow}
use Rattle.fuse_plan.specs.declared.planned.Planned.{Planned}
use Rattle.fuse_rows.specs.Rows.{is_entry, Rows, full_at, row_at, entry_at, handle_at}
use Rattle.fuse_tree.specs.State.{State, terms_of, profile_of, used_of, FitsCapacity, Node, Shape, IsNode, IsEntry, IsHandle, is_open_at, up_of}
use Rattle.fuse_tree.specs.Rowed.{rows_of_state, full_of}
use Rattle.fuse_tree.specs.Handles.{access_in}
use Rattle.fuse_rows.specs.Columns.{FitsNode, FitsEntry, FitsHandle, FitsRoom, FitColumns}
use Rattle.fuse_plan.specs.inner.PlanRemoving.{link_of, link_at}
use Rattle.fuse_plan.specs.inner.Reading.{refused_for, refused_by}
use Rattle.fuse_tree.specs.Checks.{Check, first_error}
use Rattle.fuse_plan.proofs.Checks.{Passed, passed}
use Rattle.fuse_plan.proofs.Lists.{and_true, any_gives, found}
use Rattle.fuse_plan.proofs.Blocks.{room_with}
use Rattle.fuse_plan.proofs.Most.{nodes_most, file_most}
use Rattle.fuse_plan.proofs.WrittenBlocks.{few_counted_of}
use Rattle.fuse_plan.proofs.Trees.{nodes_below, children_below, dirs_below}

-- ---- the rows of a tree

pub record SmallCounters (counters : CountersRow) : Type 0 where
  pub next_node : counters.next_node ≤ number_end
  pub next_fh : counters.next_fh ≤ number_end
  pub next_cookie : counters.next_cookie ≤ number_end
  pub nodes : counters.nodes ≤ node_limit
  pub handles : counters.handles ≤ handle_limit
  pub room : IfSome counters.room FitsRoom

-- the rows fit, and each counter has room for one more
pub record Small (rows : Rows) : Type 0 where
  pub nodes : AllByRecursion (λ f. FitsNode f.row) rows.nodes
  pub few : AllByRecursion (λ f. how_many f.row.written ≤ block_limit) rows.nodes
  pub entries : AllByRecursion FitsEntry rows.entries
  pub handles : AllByRecursion FitsHandle rows.handles
  pub counters : SmallCounters rows.counters

-- where the numbers of the nodes end
pub below : (s : State) (n : ℕ) → Shape s → n < s.next_node → n < 2 ^ 63
below s n tree lt = omega (arith, tree.limits.next_node)

pub up_small : (entries : List EntryRow) (number : ℕ) → AllByRecursion (λ e. e.dir < 2 ^ 63) entries → up_of entries number < 2 ^ 63
up_small [] number all = omega arith
up_small (e ∷ entries) number all =
    let here : e.dir < 2 ^ 63 = all.0 in
    let rest = up_small entries number all.1 in
    elim (eqb e.child number) as (λ b. cond b e.dir (up_of entries number) < 2 ^ 63) [ true ↦ here | false ↦ rest ]

pub dirs_small : (s : State) (es : List EntryRow) → Shape s → AllByRecursion (λ e. e.dir < s.next_node) es → AllByRecursion (λ e. e.dir < 2 ^ 63) es
dirs_small s [] tree all = tt
dirs_small s (e ∷ es) tree all = (below s e.dir tree all.0, dirs_small s es tree all.1)

-- no file has more blocks than a size takes
pub few_blocks : (s : State) (n : Node) → IsNode (terms_of s) s.next_node n → how_many (option_map length n.blocks) ≤ block_limit
few_blocks s n p =
    let size : length n.content ≤ (terms_of s).file_limit = p.size in
    let most = file_most (profile_of s) in
    omega (arith, size, most, few_counted_of n.content n.blocks p.blocks.written)

-- a new row counts so many
pub counted_small : {A : Type 0} (k : ℕ) (o : Option A) → k < 2 ^ 63 → how_many (option_map (λ _. k) o) < 2 ^ 63
counted_small k None low = omega arith
counted_small k (Some x) low = low

pub nodes_small : (s : State) (ns : List Node) → Shape s → AllByRecursion (IsNode (terms_of s) s.next_node) ns → AllByRecursion (λ f. FitsNode f.row) (map (full_of s) ns)
nodes_small s [] tree all = tt
nodes_small s (n ∷ ns) tree all = (
  record {
    node = below s n.number tree all.0.below;
    up = up_small s.entries n.number (dirs_small s s.entries tree (dirs_below s tree));
    size = omega (arith, all.0.size, file_most (profile_of s));
    written = omega (arith, few_blocks s n all.0);
  },
  nodes_small s ns tree all.1,
)

counts_small : (s : State) (ns : List Node) → AllByRecursion (IsNode (terms_of s) s.next_node) ns
    → AllByRecursion (λ f. how_many f.row.written ≤ block_limit) (map (full_of s) ns)
counts_small s [] all = tt
counts_small s (n ∷ ns) all = (few_blocks s n all.0, counts_small s ns all.1)

pub entries_small : (s : State) (es : List EntryRow) → Shape s → AllByRecursion (IsEntry s.nodes s.entries s.next_cookie) es
    → AllByRecursion (λ e. e.child < s.next_node) es → AllByRecursion (λ e. e.dir < s.next_node) es → AllByRecursion FitsEntry es
entries_small s [] tree all children dirs = tt
entries_small s (e ∷ es) tree all children dirs = (
  record { dir = below s e.dir tree dirs.0; child = below s e.child tree children.0; cookie = omega (arith, all.0.below, tree.limits.next_cookie) },
  entries_small s es tree all.1 children.1 dirs.1,
)

pub open_below : (s : State) (h : HandleRow) → Shape s → list_any (is_open_at h) s.nodes ≡ true → h.node < s.next_node
open_below s h tree is =
    any_gives (λ n. n.number < s.next_node) (is_open_at h) (h.node < s.next_node) s.nodes (nodes_below s tree) is
    (λ n lt passes. let lt : n.number < s.next_node = lt in let same : n.number ≡ h.node = eqb-true n.number h.node (and_true _ _ passes).0 in omega arith)

pub handles_small : (s : State) (hs : List HandleRow) → Shape s → AllByRecursion (IsHandle s.nodes s.next_fh) hs → AllByRecursion FitsHandle hs
handles_small s [] tree all = tt
handles_small s (h ∷ hs) tree all = (
  record { fh = omega (arith, all.0.below, tree.limits.next_fh); node = below s h.node tree (open_below s h tree all.0.node) },
  handles_small s hs tree all.1,
)

room_small : (s : State) (o : Option ℕ) → IfSome o (FitsCapacity s) → IfSome (option_map (room_with (used_of s)) o) FitsRoom
room_small s None is = tt
room_small s (Some c) is = record { capacity = is.bounded; used = omega (arith, is.used, is.bounded) }

pub small : (s : State) → Shape s → Small (rows_of_state s)
small s tree = record {
  nodes = nodes_small s s.nodes tree tree.nodes;
  few = counts_small s s.nodes tree.nodes;
  entries = entries_small s s.entries tree tree.entries (children_below s tree) (dirs_below s tree);
  handles = handles_small s s.handles tree tree.handles;
  counters = record {
    next_node = tree.limits.next_node;
    next_fh = tree.limits.next_fh;
    next_cookie = tree.limits.next_cookie;
    nodes = omega (arith, tree.limits.nodes, nodes_most (profile_of s));
    handles = tree.limits.handles;
    room = room_small s s.capacity tree.space;
  };
}

-- ---- what is found among them

pub row_small : (rows : Rows) (number : ℕ) (row : NodeRow) (o : Option Full) → Small rows → full_at rows number ≡ o → option_map (λ f. f.row) o ≡ Some row
    → FitsNode row × (row.node ≡ number)
row_small rows number row None all e is = absurd cc
row_small rows number row (Some f) all e is =
    let p = found (λ g. FitsNode g.row) (λ g. g.row.node == number) rows.nodes f all.nodes e in
    let same : f.row ≡ row = cc in
    let number_is : f.row.node ≡ number = eqb-true f.row.node number p.1 in
    subst (λ (r : NodeRow). FitsNode r × (r.node ≡ number)) same (p.0, number_is)

pub found_small : (rows : Rows) (number : ℕ) (row : NodeRow) → Small rows → row_at rows number ≡ Some row → FitsNode row × (row.node ≡ number)
found_small rows number row all e = row_small rows number row (full_at rows number) all refl e

pub found_few : (rows : Rows) (number : ℕ) (row : NodeRow) (o : Option Full) → Small rows → full_at rows number ≡ o → option_map (λ f. f.row) o ≡ Some row
    → how_many row.written ≤ block_limit
found_few rows number row None all e is = absurd cc
found_few rows number row (Some f) all e is =
    let p = found (λ g. how_many g.row.written ≤ block_limit) (λ g. g.row.node == number) rows.nodes f all.few e in
    let same : f.row ≡ row = cc in
    subst (λ (r : NodeRow). how_many r.written ≤ block_limit) same p.0

pub record FitsLink (link : Link) : Type 0 where
  pub cookie : link.cookie < 2 ^ 63
  pub child : FitsNode link.child

-- what is found leads to what fits
abbrev pub FitsFound : Option Link → Type 0
FitsFound None = Unit {0}
FitsFound (Some link) = FitsLink link

pub link_of_row : (rows : Rows) (e : EntryRow) (o : Option NodeRow) → Small rows → FitsEntry e → row_at rows e.child ≡ o
    → FitsFound (option_map (λ child. record { cookie = e.cookie; child = child }) o)
link_of_row rows e None all p is = tt
link_of_row rows e (Some row) all p is = record { cookie = p.cookie; child = (found_small rows e.child row all is).0 }

pub link_of_entry : (rows : Rows) (dir : ℕ) (name : List ℕ) (o : Option EntryRow) → Small rows → entry_at rows.entries dir name ≡ o → FitsFound (link_of rows o)
link_of_entry rows dir name None all is = tt
link_of_entry rows dir name (Some e) all is =
    link_of_row rows e (row_at rows e.child) all (found FitsEntry (is_entry dir name) rows.entries e all.entries is).0 refl

pub link_small : (rows : Rows) (dir : ℕ) (name : List ℕ) → Small rows → FitsFound (link_at rows dir name)
link_small rows dir name all = link_of_entry rows dir name (entry_at rows.entries dir name) all refl

-- a handle that is open has a number that fits
pub open_small : (rows : Rows) (fh node : ℕ) (o : Option HandleRow) → Small rows → handle_at rows.handles fh ≡ o → is_some (access_in node o) ≡ true
    → fh < 2 ^ 63
open_small rows fh node None all is there = absurd cc
open_small rows fh node (Some h) all is there =
    let p = found FitsHandle (λ x. x.fh == fh) rows.handles h all.handles is in
    let same : h.fh ≡ fh = eqb-true h.fh fh p.1 in
    omega (arith, p.0.fh)

-- ---- what a plan is

pub record Fit (p : Planned) : Type 0 where
  pub columns : FitColumns p.changes

pub nothing : (p : Planned) → p.changes ≡ [] → Fit p
nothing p none = record { columns = subst FitColumns (sym none) tt }

-- after a check that changes nothing
pub past : (b : Bool) (p q : Planned) → p.changes ≡ [] → (b ≡ false → Fit q) → Fit (cond b p q)
past true p q none so = nothing p none
past false p q none so = so refl

pub unless : (fault : Option Errno) (p : Planned) → (fault ≡ None → Fit p) → Fit (refused_for fault p)
unless None p so = so refl
unless (Some errno) p so = nothing _ refl

-- where no check applies
pub checked : (checks : List Check) (p : Planned) → Fit p → Fit (refused_by checks p)
checked checks p so = unless (first_error checks) p (λ _. so)

pub checked_then : (checks : List Check) (p : Planned) → Passed checks (Fit p) → Fit (refused_by checks p)
checked_then checks p so = unless (first_error checks) p (λ none. passed checks (Fit p) none so)

pub joined : (xs ys : List Change) → FitColumns xs → FitColumns ys → FitColumns (xs ++ ys)
joined [] ys all more = more
joined (x ∷ xs) ys all more = (all.0, joined xs ys all.1 more)

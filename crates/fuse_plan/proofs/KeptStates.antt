-- Which nodes are kept by the states of the operations.
use Rattle.std.proofs.Common.{◌≡◌, ◌≢◌, ◌<◌, ◌≤◌, ◌+◌, ◌||◌, ◌&&◌, ◌==◌, ℕ, Bool, true, false, not, cond, eqb, List, [], ◌∷◌, ◌++◌, Option, Some, None, refl, sym, subst, ◌∙◌, arith}
use Rattle.std.specs.List.{AllByRecursion}
use Rattle.std.proofs.lemmas.Bool.{eqb-true}
use Rattle.fuse_wire.specs.declared.moment.Moment.{Moment}
use Rattle.fuse_init.specs.Profile.{terms}
use Rattle.fuse_wire.specs.declared.access_mode.AccessMode.{AccessMode}
use Rattle.fuse_rows.specs.declared.rows.EntryRow.{EntryRow}
use Rattle.fuse_rows.specs.Rows.{profile_for}
use Rattle.fuse_tree.specs.State.{State, Node, Shape, IsNode, terms_of, node_at, is_kept, NodesAreKept}
use Rattle.fuse_tree.specs.Done.{touched, touch}
use Rattle.fuse_tree.specs.Changing.{changed_at, with_changed}
use Rattle.fuse_tree.specs.declared.new_node.NewNode.{NewNode}
use Rattle.fuse_tree.specs.Making.{new_node, new_entry, grow, with_new_node}
use Rattle.fuse_tree.specs.Symlinking.{with_target, with_link}
use Rattle.fuse_tree.specs.Opening.{new_handle, with_open_node, closed}
use Rattle.fuse_tree.specs.Removing.{marked, mark, without_entry, entry_gone}
use Rattle.fuse_tree.specs.Renaming.{Renaming, placed, renamed, exchanged}
use Rattle.fuse_plan.proofs.Lists.{all_more, all_kept, found}
use Rattle.fuse_plan.proofs.Heights.{dirs_given}
use Rattle.fuse_plan.proofs.Trees.{children_below}
use Rattle.fuse_plan.proofs.Ups.{up_new}
use Rattle.fuse_plan.proofs.EntryGone.{IsOnly, gone_only, up_less}
use Rattle.fuse_plan.proofs.KeptNodes.{KeptBut, up_named, kept_more, kept_mapped, kept_placed, kept_less, kept_opened, kept_closed, kept_grown}

-- all nodes are kept
abbrev pub AllKept : State → Type 0
AllKept s = KeptBut (λ k. false) s

-- ---- nodes changed in place

pub kept_touched : (free : ℕ → Bool) (s : State) (dir : ℕ) (now : Moment) → KeptBut free s → KeptBut free (touch dir now s)
kept_touched free s dir now all = kept_mapped free s (touched dir now) (λ n. refl) all

pub kept_marked : (free : ℕ → Bool) (s : State) (k : ℕ) (now : Moment) → KeptBut free s → KeptBut free (mark k now s)
kept_marked free s k now all = kept_mapped free s (marked k now) (λ n. refl) all

pub kept_changed : (s : State) (k : ℕ) (change : Node → Node) → ((n : Node) → (change n).number ≡ n.number) → AllKept s → AllKept (with_changed k change s)
kept_changed s k change numbers all = kept_mapped (λ j. false) s (changed_at k change) (λ n. each n (eqb n.number k)) all
  where
    each : (n : Node) (b : Bool) → (cond b (change n) n).number ≡ n.number
    each n true = numbers n
    each n false = refl

-- ---- entries

-- without the entry of this cookie
pub kept_without : (free : ℕ → Bool) (s : State) (e : EntryRow) → AllByRecursion (IsOnly e) s.entries → KeptBut free s
    → KeptBut (λ j. free j || (j == e.child)) (without_entry e.cookie s)
kept_without free s e only all =
    kept_less free s (λ x. not (x.cookie == e.cookie)) e.child
    (λ k other. up_less (λ x. not (x.cookie == e.cookie)) s.entries e.child k (gone_only e s.entries only) other) all

-- an entry gone: its child may be kept no more
pub kept_gone : (s : State) (e : EntryRow) (now : Moment) → AllByRecursion (IsOnly e) s.entries → AllKept s → KeptBut (λ j. j == e.child) (entry_gone e now s)
kept_gone s e now only all =
    kept_marked (λ j. j == e.child) (touch e.dir now (without_entry e.cookie s)) e.child now
    (kept_touched (λ j. j == e.child) (without_entry e.cookie s) e.dir now (kept_without (λ j. false) s e only all))

-- a node and its entry more
pub kept_made : (s : State) (n : Node) (e : EntryRow) → AllByRecursion (λ x. x.dir ≢ 0) s.entries → e.dir ≢ 0 → e.child ≡ n.number
    → AllByRecursion (λ x. x.child < n.number) s.entries → AllKept s → AllKept (grow n e s)
kept_made s n e dirs given child below all =
    let entered : KeptBut (λ k. false) (record s { entries = s.entries ++ e ∷ [] }) = kept_placed (λ k. false) s e dirs given all in
    let new : is_kept (record s { entries = s.entries ++ e ∷ [] }) n.number ≡ true =
    up_named (record s { entries = s.entries ++ e ∷ [] }) n.number (λ none. given (sym (up_new s.entries e n.number below child) ∙ none)) in
    kept_grown (record s { entries = s.entries ++ e ∷ [] }) n entered new

-- ---- fhs

pub kept_open : (s : State) (k : ℕ) (access : AccessMode) → AllKept s → AllKept (with_open_node s k access)
kept_open s k access all = kept_opened (λ j. false) s (new_handle s.next_fh k access) all

-- an fh gone: its node may be kept no more
pub kept_close : (s : State) (fh k : ℕ) → AllByRecursion (λ h. h.fh ≡ fh → h.node ≡ k) s.handles → AllKept s → KeptBut (λ j. j == k) (closed s fh)
kept_close s fh k of all =
    kept_closed (λ j. false) s (λ h. not (h.fh == fh)) k
    (all_more (λ h. h.fh ≡ fh → h.node ≡ k) (λ h. not (h.fh == fh) ≡ false → h.node ≡ k) s.handles
    (λ h p fails. p (eqb-true h.fh fh (not_false _ fails))) of) all
  where
    not_false : (b : Bool) → not b ≡ false → b ≡ true
    not_false true is = refl
    not_false false is = absurd cc

-- ---- entries that move

-- an entry of node c for the one that is gone
kept_moved : (free : ℕ → Bool) (s : State) (dir : ℕ) (name : List ℕ) (e : EntryRow) → AllByRecursion (λ x. x.dir ≢ 0) s.entries → dir ≢ 0
    → AllByRecursion (IsOnly e) s.entries → KeptBut free s → KeptBut free (placed dir name e.child (without_entry e.cookie s))
kept_moved free s dir name e dirs given only all =
    let gone = kept_without free s e only all in
    let there : AllByRecursion (λ x. x.dir ≢ 0) (without_entry e.cookie s).entries = all_kept (λ x. x.dir ≢ 0) (λ x. not (x.cookie == e.cookie)) s.entries dirs in
    let entry : EntryRow = record { dir = dir; name = name; child = e.child; cookie = s.next_cookie } in
    kept_more (λ j. (free j || (j == e.child)) && not (j == e.child)) free (placed dir name e.child (without_entry e.cookie s))
    (λ k is. fewer (free k) (k == e.child) is)
    (kept_placed (λ j. free j || (j == e.child)) (without_entry e.cookie s) entry there given gone)
  where
    fewer : (b c : Bool) → b ≡ false → ((b || c) && not c) ≡ false
    fewer true c is = absurd cc
    fewer false true is = refl
    fewer false false is = refl

-- where nothing stood at the new place
pub kept_renamed : (s : State) (r : Renaming) (dir : ℕ) (e : EntryRow) → AllByRecursion (λ x. x.dir ≢ 0) s.entries → r.new_dir ≢ 0
    → AllByRecursion (IsOnly e) s.entries → AllKept s → AllKept (renamed r dir e None s)
kept_renamed s r dir e dirs given only all =
    let moved = kept_moved (λ j. false) s r.new_dir r.new_name e dirs given only all in
    let base = placed r.new_dir r.new_name e.child (without_entry e.cookie s) in
    kept_touched (λ j. false) (touch dir r.now (mark e.child r.now base)) r.new_dir r.now
    (kept_touched (λ j. false) (mark e.child r.now base) dir r.now (kept_marked (λ j. false) base e.child r.now moved))

-- and where an entry did, whose child may be kept no more
pub kept_over : (s : State) (r : Renaming) (dir : ℕ) (e other : EntryRow) → AllByRecursion (λ x. x.dir ≢ 0) s.entries → r.new_dir ≢ 0
    → AllByRecursion (IsOnly e) s.entries → AllByRecursion (IsOnly other) s.entries → AllKept s
    → KeptBut (λ j. j == other.child) (renamed r dir e (Some other) s)
kept_over s r dir e other dirs given only only_other all =
    let free : ℕ → Bool = λ j. j == other.child in
    let less = entry_gone other r.now s in
    let gone : KeptBut (λ j. j == other.child) less = kept_gone s other r.now only_other all in
    let there : AllByRecursion (λ x. x.dir ≢ 0) less.entries = all_kept (λ x. x.dir ≢ 0) (λ x. not (x.cookie == other.cookie)) s.entries dirs in
    let still : AllByRecursion (IsOnly e) less.entries = all_kept (IsOnly e) (λ x. not (x.cookie == other.cookie)) s.entries only in
    let moved = kept_moved (λ j. j == other.child) less r.new_dir r.new_name e there given still gone in
    let base = placed r.new_dir r.new_name e.child (without_entry e.cookie less) in
    kept_touched (λ j. j == other.child) (touch dir r.now (mark e.child r.now base)) r.new_dir r.now
    (kept_touched (λ j. j == other.child) (mark e.child r.now base) dir r.now (kept_marked (λ j. j == other.child) base e.child r.now moved))

-- two children that change places
pub kept_exchanged : (s : State) (r : Renaming) (dir : ℕ) (e other : EntryRow) → AllByRecursion (λ x. x.dir ≢ 0) s.entries → r.new_dir ≢ 0 → dir ≢ 0
    → AllByRecursion (IsOnly e) s.entries → AllByRecursion (IsOnly other) s.entries → AllKept s → AllKept (exchanged r dir e other s)
kept_exchanged s r dir e other dirs given from only only_other all =
    let first = without_entry e.cookie s in
    let both = without_entry other.cookie first in
    let gone : KeptBut (λ j. j == e.child) first = kept_without (λ j. false) s e only all in
    let still : AllByRecursion (IsOnly other) first.entries = all_kept (IsOnly other) (λ x. not (x.cookie == e.cookie)) s.entries only_other in
    let none : KeptBut (λ j. (j == e.child) || (j == other.child)) both = kept_without (λ j. j == e.child) first other still gone in
    let there : AllByRecursion (λ x. x.dir ≢ 0) both.entries =
    all_kept (λ x. x.dir ≢ 0) (λ x. not (x.cookie == other.cookie)) first.entries (all_kept (λ x. x.dir ≢ 0) (λ x. not (x.cookie == e.cookie)) s.entries dirs) in
    let one : EntryRow = record { dir = dir; name = r.old_name; child = other.child; cookie = s.next_cookie } in
    let two : EntryRow = record { dir = r.new_dir; name = r.new_name; child = e.child; cookie = s.next_cookie + 1 } in
    let half = placed dir r.old_name other.child both in
    let base = placed r.new_dir r.new_name e.child half in
    let some = kept_placed (λ j. (j == e.child) || (j == other.child)) both one there from none in
    let stood : AllByRecursion (λ x. x.dir ≢ 0) half.entries = all_grown_dirs both.entries one there from in
    let last = kept_placed (λ j. ((j == e.child) || (j == other.child)) && not (j == other.child)) half two stood given some in
    let whole : AllKept base =
    kept_more (λ j. (((j == e.child) || (j == other.child)) && not (j == other.child)) && not (j == e.child)) (λ j. false) base
    (λ k is. neither (k == e.child) (k == other.child)) last in
    kept_touched (λ j. false) (touch dir r.now (mark e.child r.now (mark other.child r.now base))) r.new_dir r.now
    (kept_touched (λ j. false) (mark e.child r.now (mark other.child r.now base)) dir r.now
    (kept_marked (λ j. false) (mark other.child r.now base) e.child r.now (kept_marked (λ j. false) base other.child r.now whole)))
  where
    neither : (b c : Bool) → (((b || c) && not c) && not b) ≡ false
    neither true true = refl
    neither true false = refl
    neither false true = refl
    neither false false = refl

    all_grown_dirs : (es : List EntryRow) (x : EntryRow) → AllByRecursion (λ y. y.dir ≢ 0) es → x.dir ≢ 0 → AllByRecursion (λ y. y.dir ≢ 0) (es ++ x ∷ [])
    all_grown_dirs [] x dirs last = (last, tt)
    all_grown_dirs (y ∷ es) x dirs last = (dirs.0, all_grown_dirs es x dirs.1 last)

-- ---- where the profile removes nodes

all_of : (s : State) → AllByRecursion (λ n. is_kept s n.number ≡ true) s.nodes → AllKept s
all_of s each = all_more (λ n. is_kept s n.number ≡ true) (λ n. false ≡ false → is_kept s n.number ≡ true) s.nodes (λ n kept _. kept) each

each_of : (s : State) → AllKept s → AllByRecursion (λ n. is_kept s n.number ≡ true) s.nodes
each_of s all = all_more (λ n. false ≡ false → is_kept s n.number ≡ true) (λ n. is_kept s n.number ≡ true) s.nodes (λ n kept. kept refl) all

pub all_kept_in : (s : State) → NodesAreKept s → (terms_of s).removes ≡ true → AllKept s
all_kept_in s kept removes = all_of s (kept removes)

pub kept_by : (s t : State) → t.capacity ≡ s.capacity → (AllKept s → AllKept t) → NodesAreKept s → NodesAreKept t
kept_by s t same keeps kept removes =
    each_of t (keeps (all_kept_in s kept (subst (λ (c : Option ℕ). (terms (profile_for c)).removes ≡ true) same removes)))

pub kept_change : (s : State) (k : ℕ) (change : Node → Node) → ((n : Node) → (change n).number ≡ n.number) → NodesAreKept s
    → NodesAreKept (with_changed k change s)
kept_change s k change numbers = kept_by s (with_changed k change s) refl (kept_changed s k change numbers)

pub node_given : (s : State) (k : ℕ) (d : Node) → Shape s → node_at s k ≡ Some d → k ≢ 0
node_given s k d tree at =
    let p = found (IsNode (terms_of s) s.next_node) (λ n. n.number == k) s.nodes d tree.nodes at in
    let one : 1 ≤ d.number = p.0.from_one in
    let is : d.number ≡ k = eqb-true d.number k p.1 in
    omega arith

pub kept_link : (s : State) (fresh : NewNode) (content : List ℕ) (dir : ℕ) (name : List ℕ) → Shape s → dir ≢ 0 → NodesAreKept s
    → NodesAreKept (with_link s fresh content dir name)
kept_link s fresh content dir name tree given =
    kept_by s (with_link s fresh content dir name) refl (λ all.
    kept_made (touch dir fresh.made s) (with_target content (new_node s fresh)) (new_entry s dir name) (dirs_given s tree) given refl (children_below s tree)
    (kept_touched (λ k. false) s dir fresh.made all))

pub kept_make : (s : State) (fresh : NewNode) (dir : ℕ) (name : List ℕ) → Shape s → dir ≢ 0 → NodesAreKept s → NodesAreKept (with_new_node s fresh dir name)
kept_make s fresh dir name tree given =
    kept_by s (with_new_node s fresh dir name) refl (λ all.
    kept_made (touch dir fresh.made s) (new_node s fresh) (new_entry s dir name) (dirs_given s tree) given refl (children_below s tree)
    (kept_touched (λ k. false) s dir fresh.made all))

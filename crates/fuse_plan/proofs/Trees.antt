-- What keeps a tree a tree.
use Rattle.std.proofs.Common.{◌≡◌, ◌<◌, ◌≤◌, ◌+◌, ◌||◌, ℕ, Bool, true, false, not, eqb, List, [], ◌∷◌, ◌++◌, length, map, None, refl, sym, ap, ◌∙◌, arith}
use Rattle.std.specs.Prelude.{IfSome}
use Rattle.std.specs.List.{AllByRecursion, list_any}
use Rattle.std.proofs.lemmas.Bool.{eqb-true, eqb-false, eq-eqb}
use Rattle.std.proofs.lemmas.List.{length-append, length-map}
use Rattle.fuse_init.specs.Profile.{Terms}
use Rattle.fuse_rows.specs.Bounds.{number_end}
use Rattle.fuse_rows.specs.declared.rows.EntryRow.{EntryRow}
use Rattle.fuse_rows.specs.declared.rows.HandleRow.{HandleRow}
use Rattle.fuse_tree.specs.State.{State, terms_of, Node, Shape, HasMode, Carries, CountsBlocks, IsNode, IsEntry, IsHandle, AreApart, Reaches, type_of, is_dir_of, has_number, is_open_at, FitsCapacity, name_fault, up_of, is_named}
use Rattle.fuse_rows.specs.Rows.{is_entry, entry_at}
use Rattle.fuse_tree.specs.Making.{grow}
use Rattle.fuse_plan.proofs.Lists.{all_more, all_both, all_grown, all_mapped, apart_grown, apart_mapped, any_mapped, any_grown, any_last, any_gives, and_true, none_found}
use Rattle.fuse_plan.proofs.Ups.{reaches_more, named_reaches}

-- ---- numbers that are given out

number_below : (t : Terms) (ns : List Node) (k next : ℕ) → AllByRecursion (IsNode t next) ns → list_any (has_number k) ns ≡ true → k < next
number_below t ns k next all is =
    any_gives (IsNode t next) (has_number k) (k < next) ns all is
    (λ n p e. let i : n.number ≡ k = eqb-true n.number k e in let lt : n.number < next = p.below in omega arith)

dir_below : (t : Terms) (ns : List Node) (k next : ℕ) → AllByRecursion (IsNode t next) ns → list_any (is_dir_of k) ns ≡ true → k < next
dir_below t ns k next all is =
    any_gives (IsNode t next) (is_dir_of k) (k < next) ns all is
    (λ n p e. let i : n.number ≡ k = eqb-true n.number k (and_true _ _ e).0 in let lt : n.number < next = p.below in omega arith)

pub root_below : (s : State) → Shape s → 1 < s.next_node
root_below s tree = dir_below (terms_of s) s.nodes 1 s.next_node tree.nodes tree.root

pub nodes_below : (s : State) → Shape s → AllByRecursion (λ n. n.number < s.next_node) s.nodes
nodes_below s tree = all_more (IsNode (terms_of s) s.next_node) (λ n. n.number < s.next_node) s.nodes (λ n p. p.below) tree.nodes

pub children_below : (s : State) → Shape s → AllByRecursion (λ e. e.child < s.next_node) s.entries
children_below s tree =
    all_more (IsEntry s.nodes s.entries s.next_cookie) (λ e. e.child < s.next_node) s.entries
    (λ e p. number_below (terms_of s) s.nodes e.child s.next_node tree.nodes p.child) tree.entries

pub dirs_below : (s : State) → Shape s → AllByRecursion (λ e. e.dir < s.next_node) s.entries
dirs_below s tree =
    all_more (IsEntry s.nodes s.entries s.next_cookie) (λ e. e.dir < s.next_node) s.entries
    (λ e p. dir_below (terms_of s) s.nodes e.dir s.next_node tree.nodes p.dir) tree.entries

not_true : (b : Bool) → not b ≡ true → b ≡ false
not_true true e = absurd cc
not_true false e = refl

-- from a named node, going up reaches 1
pub named_climbs : (s : State) (k : ℕ) → Shape s → is_named s k ≡ true → Reaches s.entries k
named_climbs s k tree named =
    let all = all_more (IsEntry s.nodes s.entries s.next_cookie) (λ e. Reaches s.entries e.dir) s.entries (λ e p. p.reaches) tree.entries in
    let step : (b : Bool) → eqb k 1 ≡ b → (b || not (eqb (up_of s.entries k) 0)) ≡ true → Reaches s.entries k =
    elim [ true ↦ λ is e. (0, eqb-true k 1 is) | false ↦ λ is e. named_reaches s.entries k all (eqb-false (up_of s.entries k) 0 (not_true _ e)) ] in
    step (eqb k 1) refl named

-- ---- what a change owes for each row

pub entry_moved : (ns ms : List Node) (es fs : List EntryRow) (m n : ℕ) (e : EntryRow)
    → (list_any (is_dir_of e.dir) ns ≡ true → list_any (is_dir_of e.dir) ms ≡ true)
    → (list_any (has_number e.child) ns ≡ true → list_any (has_number e.child) ms ≡ true)
    → (Reaches es e.dir → Reaches fs e.dir) → m ≤ n → IsEntry ns es m e → IsEntry ms fs n e
entry_moved ns ms es fs m n e dirs children climbs up p =
    let lt : e.cookie < m = p.below in
    record {
      dir = dirs p.dir;
      child = children p.child;
      not_root = p.not_root;
      name = p.name;
      reaches = climbs p.reaches;
      from_three = p.from_three;
      below = omega arith;
    }

pub handle_moved : (ns ms : List Node) (m n : ℕ) (h : HandleRow) → (list_any (is_open_at h) ns ≡ true → list_any (is_open_at h) ms ≡ true) → m ≤ n
    → IsHandle ns m h → IsHandle ms n h
handle_moved ns ms m n h nodes up p = let lt : h.fh < m = p.below in record { node = nodes p.node; from_one = p.from_one; below = omega arith }

-- ---- nodes that change in their places

pub record SamePlace (n m : Node) : Type 0 where
  pub number : m.number ≡ n.number
  pub kind : type_of m.mode ≡ type_of n.mode

-- a tree stays one where nodes keep their numbers and kinds
pub tree_mapped : (s : State) (f : Node → Node) → ((n : Node) → SamePlace n (f n)) → AllByRecursion (λ n. IsNode (terms_of s) s.next_node (f n)) s.nodes
    → IfSome s.capacity (FitsCapacity (record s { nodes = map f s.nodes })) → Shape s → Shape (record s { nodes = map f s.nodes })
tree_mapped s f same ok space tree =
    let numbers : (k : ℕ) → list_any (has_number k) (map f s.nodes) ≡ list_any (has_number k) s.nodes =
    λ k. any_mapped (has_number k) f s.nodes (λ n. ap (λ (i : ℕ). eqb i k) (same n).number) in
    let dirs : (k : ℕ) → list_any (is_dir_of k) (map f s.nodes) ≡ list_any (is_dir_of k) s.nodes =
    λ k. any_mapped (is_dir_of k) f s.nodes (λ n. rw ((same n).number, (same n).kind) refl) in
    let opens : (h : HandleRow) → list_any (is_open_at h) (map f s.nodes) ≡ list_any (is_open_at h) s.nodes =
    λ h. any_mapped (is_open_at h) f s.nodes (λ n. rw ((same n).number, (same n).kind) refl) in
    record {
      root = dirs 1 ∙ tree.root;
      nodes = all_mapped (IsNode (terms_of s) s.next_node) f s.nodes ok;
      nodes_rise =
          apart_mapped (λ n m. n.number < m.number) f s.nodes (λ n m lt. let a = (same n).number in let b = (same m).number in omega arith) tree.nodes_rise;
      entries =
          all_more (IsEntry s.nodes s.entries s.next_cookie) (IsEntry (map f s.nodes) s.entries s.next_cookie) s.entries
          (λ e p. entry_moved s.nodes (map f s.nodes) s.entries s.entries s.next_cookie s.next_cookie e (λ is. dirs e.dir ∙ is) (λ is. numbers e.child ∙ is)
          (λ c. c) (omega arith) p) tree.entries;
      entries_apart = tree.entries_apart;
      handles =
          all_more (IsHandle s.nodes s.next_fh) (IsHandle (map f s.nodes) s.next_fh) s.handles
          (λ h p. handle_moved s.nodes (map f s.nodes) s.next_fh s.next_fh h (λ is. opens h ∙ is) (omega arith) p) tree.handles;
      handles_rise = tree.handles_rise;
      limits = record {
        nodes = omega (arith, tree.limits.nodes, length-map s.nodes f);
        handles = tree.limits.handles;
        next_node = tree.limits.next_node;
        next_fh = tree.limits.next_fh;
        next_cookie = tree.limits.next_cookie;
        fh_from_one = tree.limits.fh_from_one;
        cookie_from_three = tree.limits.cookie_from_three;
      };
      space = space;
    }

-- ---- a node and its entry more

pub record Fits (s : State) (n : Node) (e : EntryRow) : Type 0 where
  pub number : n.number ≡ s.next_node
  pub mode : HasMode n.mode n.rdev
  pub content : Carries (terms_of s) n.mode n.content
  pub size : length n.content ≤ (terms_of s).file_limit
  pub blocks : CountsBlocks (terms_of s) n.mode n.content n.blocks
  pub space : IfSome s.capacity (FitsCapacity (grow n e s))
  pub child : e.child ≡ s.next_node
  pub cookie : e.cookie ≡ s.next_cookie
  pub dir : list_any (is_dir_of e.dir) s.nodes ≡ true
  pub named : is_named s e.dir ≡ true
  pub name : name_fault e.name ≡ None
  pub free : entry_at s.entries e.dir e.name ≡ None
  pub few : length s.nodes < (terms_of s).node_limit
  pub node_left : s.next_node < number_end
  pub cookie_left : s.next_cookie < number_end

one_more : (a b : ℕ) → a < b → a + 1 ≤ b
one_more a b lt = omega arith

-- a tree stays one with a node and its entry more
pub tree_grown : (s : State) (n : Node) (e : EntryRow) → Fits s n e → Shape s → Shape (grow n e s)
tree_grown s n e fits tree =
    let root = root_below s tree in
    let dirs = dirs_below s tree in
    let dir_lt : e.dir < s.next_node = dir_below (terms_of s) s.nodes e.dir s.next_node tree.nodes fits.dir in
    let number : n.number ≡ s.next_node = fits.number in
    let child : e.child ≡ s.next_node = fits.child in
    let cookie : e.cookie ≡ s.next_cookie = fits.cookie in
    let pos : 0 < s.next_node = omega arith in
    let three : 3 ≤ s.next_cookie = tree.limits.cookie_from_three in
    let climbs : (k : ℕ) → k < s.next_node → Reaches s.entries k → Reaches (s.entries ++ e ∷ []) k = reaches_more s.entries e s.next_node dirs pos child in
    let old : (x : EntryRow) → IsEntry s.nodes s.entries s.next_cookie x → IsEntry (s.nodes ++ n ∷ []) (s.entries ++ e ∷ []) (s.next_cookie + 1) x =
    λ x p. entry_moved s.nodes (s.nodes ++ n ∷ []) s.entries (s.entries ++ e ∷ []) s.next_cookie (s.next_cookie + 1) x (any_grown (is_dir_of x.dir) s.nodes n)
    (any_grown (has_number x.child) s.nodes n) (climbs x.dir (dir_below (terms_of s) s.nodes x.dir s.next_node tree.nodes p.dir)) (omega arith) p in
    let new : IsEntry (s.nodes ++ n ∷ []) (s.entries ++ e ∷ []) (s.next_cookie + 1) e = record {
      dir = any_grown (is_dir_of e.dir) s.nodes n fits.dir;
      child = any_last (has_number e.child) s.nodes n (eq-eqb n.number e.child (number ∙ sym child));
      not_root = omega arith;
      name = fits.name;
      reaches = climbs e.dir dir_lt (named_climbs s e.dir tree fits.named);
      from_three = omega arith;
      below = omega arith;
    } in
    record {
      root = any_grown (is_dir_of 1) s.nodes n tree.root;
      nodes = all_grown (IsNode (terms_of s) (s.next_node + 1)) s.nodes n
          (all_more (IsNode (terms_of s) s.next_node) (IsNode (terms_of s) (s.next_node + 1)) s.nodes
          (λ m p. let lt : m.number < s.next_node = p.below in record {
            from_one = p.from_one;
            below = omega arith;
            mode = p.mode;
            content = p.content;
            size = p.size;
            blocks = p.blocks;
          }) tree.nodes)
          (record { from_one = omega arith; below = omega arith; mode = fits.mode; content = fits.content; size = fits.size; blocks = fits.blocks });
      nodes_rise =
          apart_grown (λ a b. a.number < b.number) s.nodes n tree.nodes_rise
          (all_more (IsNode (terms_of s) s.next_node) (λ m. m.number < n.number) s.nodes (λ m p. let lt : m.number < s.next_node = p.below in omega arith) tree.nodes);
      entries = all_grown (IsEntry (s.nodes ++ n ∷ []) (s.entries ++ e ∷ []) (s.next_cookie + 1)) s.entries e
          (all_more (IsEntry s.nodes s.entries s.next_cookie)
          (IsEntry (s.nodes ++ n ∷ []) (s.entries ++ e ∷ []) (s.next_cookie + 1)) s.entries old tree.entries) new;
      entries_apart = apart_grown AreApart s.entries e tree.entries_apart
          (all_both (IsEntry s.nodes s.entries s.next_cookie) (λ x. is_entry e.dir e.name x ≡ false) (λ x. AreApart x e) s.entries
          (λ x p free. let lt : x.cookie < s.next_cookie = p.below in let under : x.child < s.next_node = number_below (terms_of s) s.nodes x.child s.next_node tree.nodes
          p.child in record { cookie = omega arith; child = omega arith; place = free })
          tree.entries (none_found (is_entry e.dir e.name) s.entries fits.free));
      handles =
          all_more (IsHandle s.nodes s.next_fh) (IsHandle (s.nodes ++ n ∷ []) s.next_fh) s.handles
          (λ h p. handle_moved s.nodes (s.nodes ++ n ∷ []) s.next_fh s.next_fh h (any_grown (is_open_at h) s.nodes n) (omega arith) p) tree.handles;
      handles_rise = tree.handles_rise;
      limits = record {
        nodes = omega (arith, fits.few, length-append s.nodes (n ∷ []));
        handles = tree.limits.handles;
        next_node = one_more s.next_node _ fits.node_left;
        next_fh = tree.limits.next_fh;
        next_cookie = one_more s.next_cookie _ fits.cookie_left;
        fh_from_one = tree.limits.fh_from_one;
        cookie_from_three = omega arith;
      };
      space = fits.space;
    }

-- Values found in the tables are those of the rows of the tree.
use Rattle.std.proofs.Common.{◌≡◌, ◌<◌, inl, inr, ℕ, List, [], ◌∷◌, ◌++◌, ◌==◌, ◌&&◌, map, filter, find, fold, take, Bool, true, false, cond, Some, None}
use Rattle.std.proofs.Common.{Option, option_map, Less, refl, sym, ap, subst, arith, ◌∙◌, nat_lt}
use Rattle.std.specs.List.{AllByRecursion}
use Rattle.std.specs.Ordering.{is_eq, is_gt, nat_cmp, match_ordering}
use Rattle.std.proofs.lemmas.Bool.{cases_Bool}
use Rattle.std.proofs.lemmas.Bool.Decides.{nat_tests}
use Rattle.std.proofs.lemmas.Map.Text.{is_eq-slice_cmp}
use Rattle.sqlite_trees.specs.Tree.{IsAscending}
use Rattle.fuse_rows.specs.declared.rows.Full.{Full}
use Rattle.fuse_rows.specs.declared.rows.EntryRow.{EntryRow}
use Rattle.fuse_rows.specs.declared.rows.HandleRow.{HandleRow}
use Rattle.fuse_init.specs.Profile.{Terms, terms}
use Rattle.fuse_init.specs.declared.profile.Profile.{Profile}
use Rattle.fuse_init.specs.declared.profile.Profile.TheVariants.{Plain, Everyday}
use Rattle.fuse_rows.specs.Rows.{is_entry, full_at, content_of, bytes_at, Rows, row_at, entry_at, entries_after, handle_at, handles_of, is_after}
use Rattle.fuse_tree.specs.State.{State, Node, IsNode, Apart, AreApart, terms_of, profile_of}
use Rattle.std.proofs.Common.{◌≤◌, ◌+◌, ◌-◌, inl, inr, length, min, drop, IfSome}
use Rattle.fuse_rows.specs.Bounds.{file_limit}
use Rattle.fuse_store_tree.specs.Pieces.{byte_at, byte_in}
use Rattle.fuse_store_tree.specs.inner.Reading.{range_of, bytes_told, Describes}
use Rattle.fuse_store_tree.proofs.Ranges.{range_same, part_is, take_least, none_behind}
use Rattle.fuse_tree.specs.Rowed.{IsRowed, rowed, full_of}
use Rattle.fuse_store_tables.specs.Content.{Content, put_by, at_by, node_key, cookie_of, fh_of, has_name, stands_after, is_handle_of}
use Rattle.sqlite.specs.State.{State as Connected}
use Rattle.fuse_store_tables.specs.Moves.{Inside, InsideAs}
use Rattle.fuse_store_tree.specs.Store.{Store, Held, in_order}

-- ---- lists that rise

less : (a b : ℕ) → a < b → nat_cmp a b ≡ Less
less a b low = grind (arith, nat_tests)

no_more : {X : Type 0} (xs : List X) → xs ≡ xs ++ []
no_more [] = refl
no_more (x ∷ xs) = ap (λ more. x ∷ more) (no_more xs)

pub grouped : {X : Type 0} (xs ys zs : List X) → (xs ++ ys) ++ zs ≡ xs ++ (ys ++ zs)
grouped [] ys zs = refl
grouped (x ∷ xs) ys zs = ap (λ more. x ∷ more) (grouped xs ys zs)

module _ {X : Type 0} (key : X → ℕ) where
  abbrev pub Rises : List X → Type 0
  Rises = IsAscending (λ a b. key a < key b)

  abbrev Below : List X → X → Type 0
  Below xs x = AllByRecursion (λ a. key a < key x) xs

  pub put_last : (x : X) (xs : List X) → Below xs x → put_by key x xs ≡ xs ++ x ∷ []
  put_last x [] below = refl
  put_last x (y ∷ ys) below =
      ap (λ o. match_ordering o (y ∷ put_by key x ys) (x ∷ ys) (x ∷ y ∷ ys)) (less (key y) (key x) below.0) ∙ ap (λ more. y ∷ more) (put_last x ys below.1)

  below_more : (xs : List X) (x y : X) → Below xs y → key x < key y → Below (xs ++ x ∷ []) y
  below_more [] x y below low = (low, tt)
  below_more (z ∷ zs) x y below low = (below.0, below_more zs x y below.1 low)

  all_below : (xs ys : List X) (x : X) → AllByRecursion (Below xs) ys → AllByRecursion (λ y. key x < key y) ys → AllByRecursion (Below (xs ++ x ∷ [])) ys
  all_below xs [] x below above = tt
  all_below xs (y ∷ ys) x below above = (below_more xs x y below.0 above.0, all_below xs ys x below.1 above.1)

  put_behind : (done xs : List X) → AllByRecursion (Below done) xs → Rises xs → fold (λ all x. put_by key x all) done xs ≡ done ++ xs
  put_behind done [] below rises = no_more done
  put_behind done (x ∷ xs) below rises =
      ap (λ all. fold (λ l y. put_by key y l) all xs) (put_last x done below.0) ∙ put_behind (done ++ x ∷ []) xs (all_below done xs x below.1 rises.0) rises.1
      ∙ grouped done (x ∷ []) xs

  none_below : (xs : List X) → AllByRecursion (Below []) xs
  none_below [] = tt
  none_below (x ∷ xs) = (tt, none_below xs)

  -- a rising list is in order
  pub order_kept : (xs : List X) → Rises xs → in_order key xs ≡ xs
  order_kept xs rises = put_behind [] xs (none_below xs) rises

-- ---- the lists of a tree rise

all_above : (s : State) (n : Node) (ns : List Node) → AllByRecursion (λ later. n.number < later.number) ns → AllByRecursion (λ later. n.number < later.node)
    (map (λ f. f.row) (map (full_of s) ns))
all_above s n [] above = tt
all_above s n (m ∷ ns) above = (above.0, all_above s n ns above.1)

nodes_rise : (s : State) (ns : List Node) → Apart (λ n later. n.number < later.number) ns → Rises node_key (map (λ f. f.row) (map (full_of s) ns))
nodes_rise s [] apart = tt
nodes_rise s (n ∷ ns) apart = (all_above s n ns apart.0, nodes_rise s ns apart.1)

cookies_above : (e : EntryRow) (es : List EntryRow) → AllByRecursion (AreApart e) es → AllByRecursion (λ later. e.cookie < later.cookie) es
cookies_above e [] apart = tt
cookies_above e (x ∷ es) apart = (apart.0.cookie, cookies_above e es apart.1)

entries_rise : (es : List EntryRow) → Apart AreApart es → Rises cookie_of es
entries_rise [] apart = tt
entries_rise (e ∷ es) apart = (cookies_above e es apart.0, entries_rise es apart.1)

handles_rise : (hs : List HandleRow) → Apart (λ h later. h.fh < later.fh) hs → Rises fh_of hs
handles_rise [] apart = tt
handles_rise (h ∷ hs) apart = (apart.0, handles_rise hs apart.1)

pub rows_rise : (rows : Rows) → IsRowed rows → Rises node_key (map (λ f. f.row) rows.nodes) × Rises cookie_of rows.entries × Rises fh_of rows.handles
unfolding IsRowed rowed
rows_rise rows (s, tree, is) = subst (λ (r : Rows). Rises node_key (map (λ f. f.row) r.nodes) × Rises cookie_of r.entries × Rises fh_of r.handles) (sym is)
    (nodes_rise s s.nodes tree.shape.nodes_rise, entries_rise s.entries tree.shape.entries_apart, handles_rise s.handles tree.shape.handles_rise)

-- ---- tests

pub same_test : (a b : ℕ) → is_eq (nat_cmp a b) ≡ (a == b)
same_test a b = grind (arith, nat_tests)

above_test : (a b : ℕ) → is_gt (nat_cmp a b) ≡ nat_lt b a
above_test a b = grind (arith, nat_tests)

name_test : (dir : ℕ) (name : List ℕ) (e : EntryRow) → has_name dir name e ≡ is_entry dir name e
name_test dir name e = rw (same_test e.dir dir) (ap (λ b. (e.dir == dir) && b) (is_eq-slice_cmp e.name name))

after_test : (dir cookie : ℕ) (e : EntryRow) → stands_after dir cookie e ≡ is_after dir cookie e
after_test dir cookie e = rw (same_test e.dir dir, above_test e.cookie cookie) refl

module _ {X : Type 0} (p q : X → Bool) (same : (x : X) → p x ≡ q x) where
  pub find_same : (xs : List X) → find p xs ≡ find q xs
  find_same [] = refl
  find_same (x ∷ xs) = rw (same x) (ap (λ o. cond (q x) (Some x) o) (find_same xs))

  pub filter_same : (xs : List X) → filter p xs ≡ filter q xs
  filter_same [] = refl
  filter_same (x ∷ xs) = rw (same x) (ap (λ more. cond (q x) (x ∷ more) more) (filter_same xs))

find_row : (number : ℕ) (fs : List Full) → at_by node_key number (map (λ f. f.row) fs) ≡ option_map (λ f. f.row) (find (λ f. f.row.node == number) fs)
find_row number [] = refl
find_row number (f ∷ fs) = elim (cases_Bool (f.row.node == number)) [
  | inl here ↦ rw (same_test f.row.node number, here) refl
  | inr not_here ↦ rw (same_test f.row.node number, not_here) (find_row number fs)
]

-- ---- the values

module _ (x : Store) (file : List ℕ) (c : Content) (rowed : IsRowed x.rows) (at : Describes x file c) where
  pub row_told : (number : ℕ) → at_by node_key number c.nodes ≡ row_at x.rows number
  row_told number = ap (at_by node_key number) (at.nodes ∙ order_kept node_key _ (rows_rise x.rows rowed).0) ∙ find_row number x.rows.nodes

  pub entries_told : c.entries ≡ x.rows.entries
  entries_told = at.entries ∙ order_kept cookie_of _ (rows_rise x.rows rowed).1

  pub entry_told : (dir : ℕ) (name : List ℕ) → find (has_name dir name) c.entries ≡ entry_at x.rows.entries dir name
  entry_told dir name = ap (find (has_name dir name)) entries_told ∙ find_same _ _ (name_test dir name) x.rows.entries

  pub after_told : (dir cookie limit : ℕ) → take limit (filter (stands_after dir cookie) c.entries) ≡ entries_after x.rows dir cookie limit
  after_told dir cookie limit = ap (λ es. take limit (filter (stands_after dir cookie) es)) entries_told
      ∙ ap (take limit) (filter_same _ _ (after_test dir cookie) x.rows.entries)

  pub handles_are : c.handles ≡ x.rows.handles
  handles_are = at.handles ∙ order_kept fh_of _ (rows_rise x.rows rowed).2

  pub handle_told : (fh : ℕ) → at_by fh_of fh c.handles ≡ handle_at x.rows.handles fh
  handle_told fh = ap (at_by fh_of fh) handles_are ∙ find_same _ _ (λ h. same_test h.fh fh) x.rows.handles

  pub handles_told : (node limit : ℕ) → take limit (filter (is_handle_of node) c.handles) ≡ handles_of x.rows.handles node limit
  handles_told node limit = ap (λ hs. take limit (filter (is_handle_of node) hs)) handles_are
      ∙ ap (take limit) (filter_same _ _ (λ h. same_test h.node node) x.rows.handles)

pub inside_of : (file : List ℕ) (x : Store) (s : Connected) (at : InsideAs (Held file x) s) → Inside at.holds.0 s
inside_of file x s at = record { is_open = at.is_open; in_transaction = at.in_transaction; holds = at.holds.1 }

-- ---- bytes

abbrev pub IsFull : Full → Type 0
IsFull f = (f.row.size ≡ length f.content.bytes) × (f.row.size ≤ file_limit)

-- no profile has longer files
within_limit : (p : Profile) → (terms p).file_limit ≤ file_limit
within_limit Plain = omega arith
within_limit Everyday = omega arith

all_full : (s : State) (t : Terms) (next : ℕ) (ns : List Node) → t.file_limit ≤ file_limit → AllByRecursion (IsNode t next) ns
    → AllByRecursion IsFull (map (full_of s) ns)
all_full s t next [] within all = tt
all_full s t next (n ∷ ns) within all = ((refl, let size = all.0.size in omega (arith, size, within)), all_full s t next ns within all.1)

pub rows_full : (rows : Rows) → IsRowed rows → AllByRecursion IsFull rows.nodes
unfolding IsRowed rowed
rows_full rows (s, tree, is) = subst (λ (r : Rows). AllByRecursion IsFull r.nodes) (sym is) (all_full s (terms_of s) s.next_node s.nodes (within_limit (profile_of s)) tree.shape.nodes)

pub full_found : (p : Full → Bool) (fs : List Full) → AllByRecursion IsFull fs → IfSome (find p fs) IsFull
full_found p [] all = tt
full_found p (f ∷ fs) all = elim (cases_Bool (p f)) [
  | inl here ↦ rw here (all.0)
  | inr not_here ↦ rw not_here (full_found p fs all.1)
]

nothing_told : (n m : ℕ) → ◌≡◌ {A = List ℕ} [] (take n (drop m []))
nothing_told n m = sym (none_behind [] m n (omega arith))

bytes_of_full : (file : List ℕ) (c : Content) (node offset len : ℕ) (o : Option Full) → IfSome o IsFull
    → ((i : ℕ) → byte_in file c node i ≡ byte_at (content_of o) i)
    → bytes_told file (option_map (λ f. f.row) o) c node offset len ≡ take len (drop offset (content_of o))
bytes_of_full file c node offset len None full bytes = nothing_told len offset
bytes_of_full file c node offset len (Some f) full bytes = elim (cases_Bool (nat_lt offset f.row.size)) [
  | inl low ↦
      rw low (ap (λ k. range_of (byte_in file c node) offset (min len (k - offset))) full.0
      ∙ range_same (byte_in file c node) (byte_at f.content.bytes) offset offset (min len (length f.content.bytes - offset)) (λ j h. bytes (offset + j))
      ∙ sym (part_is f.content.bytes offset (min len (length f.content.bytes - offset)) (within offset len f.row.size (length f.content.bytes) full.0 low))
      ∙ take_least f.content.bytes offset len)
  | inr high ↦ rw high (sym (none_behind f.content.bytes offset len (behind offset f.row.size (length f.content.bytes) full.0 high)))
]
  where
    within : (a n k l : ℕ) → k ≡ l → nat_lt a k ≡ true → a + min n (l - a) ≤ l
    within a n k l same low = let h : a < k = grind (arith, nat_tests) in omega (arith, h, same)

    behind : (a k l : ℕ) → k ≡ l → nat_lt a k ≡ false → l ≤ a
    behind a k l same high = let h : k ≤ a = grind (arith, nat_tests) in omega (arith, h, same)

pub bytes_are : (x : Store) (file : List ℕ) (c : Content) → IsRowed x.rows → Describes x file c → (node offset len : ℕ)
    → bytes_told file (at_by node_key node c.nodes) c node offset len ≡ bytes_at x.rows node offset len
bytes_are x file c is_rowed at node offset len =
    ap (λ o. bytes_told file o c node offset len) (row_told x file c is_rowed at node)
    ∙ bytes_of_full file c node offset len (full_at x.rows node) (full_found _ x.rows.nodes (rows_full x.rows is_rowed)) (at.bytes node)

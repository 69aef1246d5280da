-- One database holds just one thing.
use Rattle.std.proofs.Common.{◌≡◌, ◌≤◌, ◌<◌, ℕ, zero, suc, ◌==◌, List, [], ◌∷◌, map, find, length, Bool, true, false, Option, Some, None, inl, inr}
use Rattle.std.proofs.Common.{refl, sym, ap, subst, arith, ◌∙◌}
use Rattle.std.specs.Prelude.{◌/◌, ◌%◌, unwrap_or, option_map, IfSome}
use Rattle.std.specs.Option.{is_some}
use Rattle.std.proofs.lemmas.Bool.{cases_lt}
use Rattle.std.specs.List.{AllByRecursion}
use Rattle.std.proofs.lemmas.Bool.{cases_Bool}
use Rattle.std.proofs.lemmas.Bool.Decides.{nat_tests}
use Rattle.sqlite.specs.Effect.{Database}
use Rattle.fuse_init.specs.declared.settings.Settings.{Settings}
use Rattle.fuse_rows.specs.declared.rows.Full.{Full}
use Rattle.fuse_rows.specs.declared.rows.Counters.{Counters as CountersRow}
use Rattle.fuse_rows.specs.declared.rows.Room.{Room}
use Rattle.fuse_tree.specs.State.{State, Tree}
use Rattle.fuse_rows.specs.Bounds.{file_limit}
use Rattle.fuse_tree.specs.Space.{room_of}
use Rattle.fuse_rows.specs.Bounds.{block_bytes}
use Rattle.fuse_rows.specs.Rows.{Rows, content_of, full_at}
use Rattle.fuse_tree.specs.RowsOfTrees.{CountsWritten, RowsOfTrees}
use Rattle.fuse_tree.specs.State.{Apart, AreWritten}
use Rattle.fuse_tree.specs.Rowed.{IsRowed, rowed}
use Rattle.fuse_tree.specs.Laws.{RowsTellState}
use Rattle.fuse_store_tables.specs.declared.version.Layout.{Layout}
use Rattle.fuse_store_tables.specs.declared.version.Layout.TheVariants.{Second, Third}
use Rattle.fuse_store_tables.specs.Blocks.{block_at}
use Rattle.fuse_store_tables.specs.Content.{Content, node_key, cookie_of, fh_of, node_row}
use Rattle.fuse_store_tree.specs.Fits.{KeepsNode}
use Rattle.fuse_store_tree.specs.Pieces.{byte_at, stored_block, block_found, piece_at, is_written_in}
use Rattle.fuse_store_tree.specs.Store.{meta_rows_of, is_among, blocks_counted, rows_written, IsWrittenAs, layout_for}
use Rattle.fuse_store_tree.specs.inner.Knowing.{meta_in}
use Rattle.fuse_store_tree.specs.inner.Reading.{counted_in, room_of_counters, agreed_in, value_of}
use Rattle.fuse_store_tree.specs.Knowing.{meta_of}
use Rattle.fuse_store_tree.proofs.Described.{Rises, IsFull, order_kept, rows_rise, rows_full}
use Rattle.fuse_store_tree.proofs.RowChanges.{same_number}
use Rattle.fuse_store_tree.proofs.Tabled.{counters_stored, nodes_stored, entries_stored, blocks_stored, pieces_stored, handles_stored, lots_stored, kept_stored}
use Rattle.fuse_store_tree.specs.Holding.{Holding, HeldFor, TreesAreInOrder}
use Rattle.fuse_store_tree.proofs.Decoding.{same_counters, same_nodes, same_entries, same_handles, same_pieces, same_lots, same_kept}
use Rattle.fuse_store_tree.proofs.Decoding.{same_blocks as same_block_rows}

-- ---- contents

same_bytes : (xs ys : List ℕ) → length xs ≡ length ys → ((i : ℕ) → byte_at xs i ≡ byte_at ys i) → xs ≡ ys
same_bytes [] [] long each = refl
same_bytes [] (y ∷ ys) long each = absurd (omega (arith, long))
same_bytes (x ∷ xs) [] long each = absurd (omega (arith, long))
same_bytes (x ∷ xs) (y ∷ ys) long each =
    ap (λ z. z ∷ xs) (each zero) ∙ ap (λ l. y ∷ l) (same_bytes xs ys (omega (arith, long)) (λ i. each (suc i)))

-- numbers that rise are known by which there are
none_below : (x : ℕ) (ys : List ℕ) → AllByRecursion (λ y. x < y) ys → is_among ys x ≡ false
none_below x [] above = refl
none_below x (y ∷ ys) above = rw (let e : (y == x) ≡ false = by x y above.0 in e) (none_below x ys above.1)
  where
    by : (a b : ℕ) → a < b → (b == a) ≡ false
    by a b low = grind (arith, nat_tests)

higher : (x y : ℕ) (ys : List ℕ) → x < y → AllByRecursion (λ z. y < z) ys → AllByRecursion (λ z. x < z) ys
higher x y [] low above = tt
higher x y (z ∷ ys) low above = (omega (arith, low, above.0), higher x y ys low above.1)

same_self : (a : ℕ) → (a == a) ≡ true
same_self a = grind (arith, nat_tests)

-- the least of both is the same
not_lower : (x y : ℕ) (xs ys : List ℕ) → AllByRecursion (λ z. y < z) ys → is_among (x ∷ xs) x ≡ is_among (y ∷ ys) x → x < y → ⊥
not_lower x y xs ys above same low =
    let there : is_among (x ∷ xs) x ≡ true = rw (same_self x) refl in
    let none = none_below x (y ∷ ys) (low, higher x y ys low above) in
    absurd (let e = sym there ∙ same ∙ none in cc)

same_rising : (xs ys : List ℕ) → Apart (λ b later. b < later) xs → Apart (λ b later. b < later) ys → ((k : ℕ) → is_among xs k ≡ is_among ys k) → xs ≡ ys
same_rising [] [] rise rises same = refl
same_rising [] (y ∷ ys) rise rises same = absurd (let e = same y in let f : is_among (y ∷ ys) y ≡ true = rw (same_self y) refl in let g = e ∙ f in cc)
same_rising (x ∷ xs) [] rise rises same = absurd (let e = same x in let f : is_among (x ∷ xs) x ≡ true = rw (same_self x) refl in let g = sym f ∙ e in cc)
same_rising (x ∷ xs) (y ∷ ys) rise rises same = elim (cases_lt x y) [
  | inl low ↦ absurd (not_lower x y xs ys rises.0 (same x) low)
  | inr high ↦ elim (cases_lt y x) [
    | inl low ↦ absurd (not_lower y x ys xs rise.0 (sym (same y)) low)
    | inr least ↦
        let e : x ≡ y = omega (arith, high, least) in
        ap (λ z. z ∷ xs) e ∙ ap (λ l. y ∷ l) (same_rising xs ys rise.1 rises.1 (λ k. later e k (same k)))
  ]
]
  where
    later : x ≡ y → (k : ℕ) → is_among (x ∷ xs) k ≡ is_among (y ∷ ys) k → is_among xs k ≡ is_among ys k
    later e k told = elim (cases_Bool (x == k)) [
      | inl here ↦
          let m : x ≡ k = same_number x k here in
          subst (λ z. is_among xs z ≡ is_among ys z) m
          (none_below x xs rise.0 ∙ sym (none_below x ys (subst (λ z. AllByRecursion (λ l. z < l) ys) (sym e) rises.0)))
      | inr other ↦ rw (other, subst (λ z. (z == k) ≡ false) e other) at told
    ]

-- a content that is counted as its row says
abbrev IsRead : Full → Type 0
IsRead f = (f.row.size ≡ length f.content.bytes) × CountsWritten f

same_blocks : (w v : Option ℕ) (bytes others : List ℕ) (bs cs : Option (List ℕ)) → w ≡ v → w ≡ option_map length bs → v ≡ option_map length cs
    → IfSome bs (AreWritten bytes) → IfSome cs (AreWritten others)
    → ((k : ℕ) → (told : Bool) × IsWrittenAs told (option_map is_among bs) k × IsWrittenAs told (option_map is_among cs) k) → bs ≡ cs
same_blocks w v bytes others None None is one two first second told = refl
same_blocks w v bytes others None (Some cs) is one two first second told = absurd (let e = sym one ∙ is ∙ two in cc)
same_blocks w v bytes others (Some bs) None is one two first second told = absurd (let e = sym one ∙ is ∙ two in cc)
same_blocks w v bytes others (Some bs) (Some cs) is one two first second told =
    ap Some (same_rising bs cs first.rise second.rise (λ k. sym (told k).1 ∙ (told k).2))

abbrev has_number : ℕ → Full → Bool
has_number n f = f.row.node == n

apart : (a b : ℕ) → a < b → (b == a) ≡ false
apart a b low = grind (arith, nat_tests)

itself : (a : ℕ) → (a == a) ≡ true
itself a = grind (arith, nat_tests)

none_there : (n : ℕ) (fs : List Full) → AllByRecursion (λ r. n < node_key r) (map (λ f. f.row) fs) → find (has_number n) fs ≡ None
none_there n [] above = refl
none_there n (f ∷ fs) above = rw (apart n f.row.node above.0) (none_there n fs above.1)

number_is : (a b : ℕ) → (a == b) ≡ true → a ≡ b
number_is a b is = grind (arith, nat_tests)

-- nodes with the same rows and the same bytes
-- what the tables say of two nodes
record Alike (o p : Option Full) : Type 0 where
  bytes : (i : ℕ) → byte_at (content_of o) i ≡ byte_at (content_of p) i
  blocks : (k : ℕ) → (told : Bool) × IsWrittenAs told (option_map is_among (blocks_counted o)) k × IsWrittenAs told (option_map is_among (blocks_counted p)) k

none_alike : Alike None None
none_alike = record { bytes = λ i. refl; blocks = λ k. (true, tt, tt) }

same_full : (fs gs : List Full) → Rises node_key (map (λ f. f.row) fs) → AllByRecursion IsRead fs → AllByRecursion IsRead gs
    → map (λ f. f.row) fs ≡ map (λ f. f.row) gs → ((n : ℕ) → Alike (find (has_number n) fs) (find (has_number n) gs)) → fs ≡ gs
same_full [] [] rises sized fit same each = refl
same_full [] (g ∷ gs) rises sized fit same each = absurd cc
same_full (f ∷ fs) [] rises sized fit same each = absurd cc
same_full (f ∷ fs) (g ∷ gs) rises sized fit same each =
    let row : f.row ≡ g.row = cc in
    let rest : map (λ x. x.row) fs ≡ map (λ x. x.row) gs = cc in
    let there : (g.row.node == f.row.node) ≡ true = ap (λ r. r.node == f.row.node) (sym row) ∙ itself f.row.node in
    let here : Alike (Some f) (Some g) = rw (itself f.row.node, there) at (each f.row.node) in
    let bytes = same_bytes f.content.bytes g.content.bytes (sym sized.0.0 ∙ ap (λ r. r.size) row ∙ fit.0.0) here.bytes in
    let blocks = same_blocks f.row.written g.row.written f.content.bytes g.content.bytes f.content.blocks g.content.blocks (ap (λ r. r.written) row)
    sized.0.1.told fit.0.1.told sized.0.1.written fit.0.1.written here.blocks in
    ap (λ r. record { row = r; content = f.content } ∷ fs) row
    ∙ ap (λ l. record { row = g.row; content = record { bytes = l; blocks = f.content.blocks } } ∷ fs) bytes
    ∙ ap (λ l. record { row = g.row; content = record { bytes = g.content.bytes; blocks = l } } ∷ fs) blocks
    ∙ ap (λ l. g ∷ l) (same_full fs gs rises.1 sized.1 fit.1 rest (λ n. elim (cases_Bool (f.row.node == n)) [
      | inl is ↦
          let m = number_is f.row.node n is in
          subst (λ o. Alike o (find (has_number n) gs)) (sym (subst (λ k. find (has_number k) fs ≡ None) m (none_there f.row.node fs rises.0)))
          (subst (λ o. Alike None o) (sym (subst (λ k. find (has_number k) gs ≡ None) m
          (none_there f.row.node gs (subst (AllByRecursion (λ r. f.row.node < node_key r)) rest rises.0)))) none_alike)
      | inr off ↦ rw (off, ap (λ r. r.node == n) (sym row) ∙ off) at (each n)
    ]))

-- ---- settings

pub agreed_back : (c : CountersRow) (s : Option Settings) (lot number : ℕ) → agreed_in (meta_rows_of c s lot number) ≡ s
agreed_back c None lot number = refl
agreed_back c (Some s) lot number = refl

room_back : (c : CountersRow) (s : Option Settings) (lot number : ℕ) → room_of_counters (meta_rows_of c s lot number) ≡ c.room
room_back c s lot number = by c.room
  where
    by : (o : Option Room) → room_of_counters (meta_rows_of (record c { room = o }) s lot number) ≡ o
    by None = refl
    by (Some r) = refl

pub counted_back : (c : CountersRow) (s : Option Settings) (lot number : ℕ) → counted_in (meta_rows_of c s lot number) ≡ c
counted_back c s lot number = ap (λ o. record c { room = o }) (room_back c s lot number)

pub room_told : (s : State) (lot number : ℕ) → room_of_counters (meta_rows_of (rowed s).counters (rowed s).settings lot number) ≡ room_of s
unfolding rowed
room_told s lot number = room_back (rowed s).counters (rowed s).settings lot number

pub meta_back : (rows : Rows) (lot number : ℕ) → meta_in (meta_rows_of rows.counters rows.settings lot number) ≡ meta_of rows
meta_back rows lot number =
    ap (λ n. record { counters = n; settings = agreed_in (meta_rows_of rows.counters rows.settings lot number) })
    (counted_back rows.counters rows.settings lot number)
    ∙ ap (λ o. record { counters = rows.counters; settings = o }) (agreed_back rows.counters rows.settings lot number)

-- ---- rows

same_rows : (a b : Rows) → a.nodes ≡ b.nodes → a.entries ≡ b.entries → a.handles ≡ b.handles → a.counters ≡ b.counters → a.settings ≡ b.settings → a ≡ b
same_rows a b nodes entries handles counters settings =
    ap (λ l. record a { nodes = l }) nodes ∙ ap (λ l. record a { nodes = b.nodes; entries = l }) entries
    ∙ ap (λ l. record a { nodes = b.nodes; entries = b.entries; handles = l }) handles
    ∙ ap (λ l. record b { counters = l; settings = a.settings }) counters ∙ ap (λ l. record b { settings = l }) settings

is_rowed : (s : State) → Tree s → IsRowed (rowed s)
unfolding IsRowed
is_rowed s tree = (s, tree, refl)

-- the rows of a tree stand in order already
pub tree_order : TreesAreInOrder
tree_order s tree =
    let rise = rows_rise (rowed s) (is_rowed s tree) in
    record { nodes = order_kept node_key _ rise.0; entries = order_kept cookie_of _ rise.1; handles = order_kept fh_of _ rise.2 }

all_read : (fs : List Full) → AllByRecursion IsFull fs → AllByRecursion CountsWritten fs → AllByRecursion IsRead fs
all_read [] all counts = tt
all_read (f ∷ fs) all counts = ((all.0.0, counts.0), all_read fs all.1 counts.1)

-- ---- what two contents of one database have in common

module _ (file : List ℕ) (x y : Holding) (d : Database) (one : HeldFor file x d) (two : HeldFor file y d) where
  abbrev c : Content
  c = one.held.0

  abbrev k : Content
  k = two.held.0

  counters_same : c.counters ≡ k.counters
  counters_same = same_counters c.counters k.counters (sym (counters_stored c d one.held.1) ∙ counters_stored k d two.held.1)

  all_counters : meta_rows_of (rowed x.tree).counters (rowed x.tree).settings x.next_lot one.held.2.number
      ≡ meta_rows_of (rowed y.tree).counters (rowed y.tree).settings y.next_lot two.held.2.number
  all_counters = sym one.held.2.counters ∙ counters_same ∙ two.held.2.counters

  counters_are : (rowed x.tree).counters ≡ (rowed y.tree).counters
  counters_are =
      sym (counted_back (rowed x.tree).counters (rowed x.tree).settings x.next_lot one.held.2.number) ∙ ap counted_in all_counters
      ∙ counted_back (rowed y.tree).counters (rowed y.tree).settings y.next_lot two.held.2.number

  layout_same : c.layout ≡ k.layout
  layout_same = one.held.2.layout ∙ ap (λ (n : CountersRow). layout_for n.room) counters_are ∙ sym two.held.2.layout

  nodes_same : c.nodes ≡ k.nodes
  nodes_same =
      same_nodes c.layout c.nodes k.nodes one.held.2.fits.nodes
      (subst (λ l. AllByRecursion (KeepsNode l) k.nodes) (sym layout_same) two.held.2.fits.nodes)
      (sym (nodes_stored c d one.held.1) ∙ subst (λ l. d.trees 1 ≡ map (node_row l) k.nodes) (sym layout_same) (nodes_stored k d two.held.1))

  entries_same : c.entries ≡ k.entries
  entries_same = same_entries c.entries k.entries (sym (entries_stored c d one.held.1) ∙ entries_stored k d two.held.1)

  blocks_same : c.blocks ≡ k.blocks
  blocks_same = same_block_rows c.blocks k.blocks (sym (blocks_stored c d one.held.1).0 ∙ (blocks_stored k d two.held.1).0)

  -- version 2 has no pieces
  pieces_same : c.pieces ≡ k.pieces
  pieces_same = by c.layout refl
    where
      by : (l : Layout) → c.layout ≡ l → c.pieces ≡ k.pieces
      by Second is = one.held.2.fits.no_pieces is ∙ sym (two.held.2.fits.no_pieces (sym layout_same ∙ is))
      by Third is = same_pieces c.pieces k.pieces one.held.2.fits.pieces two.held.2.fits.pieces
          (sym (pieces_stored c d one.held.1 is).0 ∙ (pieces_stored k d two.held.1 (sym layout_same ∙ is)).0)

  stored_same : (n j : ℕ) → stored_block file c n j ≡ stored_block file k n j
  stored_same n j =
      ap (λ bs. block_found file j (block_at n j bs) (piece_at n j c.pieces)) blocks_same
      ∙ ap (λ ps. block_found file j (block_at n j k.blocks) (piece_at n j ps)) pieces_same

  handles_same : c.handles ≡ k.handles
  handles_same = same_handles c.handles k.handles (sym (handles_stored c d one.held.1) ∙ handles_stored k d two.held.1)

  lots_same : x.lots ≡ y.lots
  lots_same = sym one.held.2.lots ∙ same_lots c.lots k.lots (sym (lots_stored c d one.held.1) ∙ lots_stored k d two.held.1) ∙ two.held.2.lots

  kept_same : x.kept ≡ y.kept
  kept_same = sym one.held.2.kept ∙ same_kept c.kept k.kept (sym (kept_stored c d one.held.1) ∙ kept_stored k d two.held.1) ∙ two.held.2.kept

  abbrev left : IsRowed (rowed x.tree)
  left = is_rowed x.tree one.tree

  abbrev right : IsRowed (rowed y.tree)
  right = is_rowed y.tree two.tree

  alike : (n : ℕ) → Alike (full_at (rowed x.tree) n) (full_at (rowed y.tree) n)
  alike n = record {
    bytes = λ i.
        sym (one.held.2.bytes n i) ∙ ap (λ o. byte_at (unwrap_or o []) (i % block_bytes)) (stored_same n (i / block_bytes)) ∙ two.held.2.bytes n i;
    blocks = λ j. (
      is_written_in file c n j,
      one.held.2.written n j,
      subst (λ o. IsWrittenAs (is_some o) (rows_written (rowed y.tree) n) j) (sym (stored_same n j)) (two.held.2.written n j),
    );
  }

  full_same : RowsOfTrees → (rowed x.tree).nodes ≡ (rowed y.tree).nodes
  full_same of_trees =
      let rows : map (λ f. f.row) (rowed x.tree).nodes ≡ map (λ f. f.row) (rowed y.tree).nodes =
      sym (order_kept node_key _ (rows_rise (rowed x.tree) left).0) ∙ sym one.held.2.nodes ∙ nodes_same ∙ two.held.2.nodes
      ∙ order_kept node_key _ (rows_rise (rowed y.tree) right).0 in
      same_full (rowed x.tree).nodes (rowed y.tree).nodes (rows_rise (rowed x.tree) left).0 (all_read (rowed x.tree).nodes (rows_full (rowed x.tree) left) (of_trees (rowed x.tree) left).counts)
      (all_read (rowed y.tree).nodes (rows_full (rowed y.tree) right) (of_trees (rowed y.tree) right).counts) rows alike

  rows_same : RowsOfTrees → rowed x.tree ≡ rowed y.tree
  rows_same of_trees = same_rows (rowed x.tree) (rowed y.tree) (full_same of_trees)
      (sym (order_kept cookie_of _ (rows_rise (rowed x.tree) left).1) ∙ sym one.held.2.entries ∙ entries_same ∙ two.held.2.entries
      ∙ order_kept cookie_of _ (rows_rise (rowed y.tree) right).1)
      (sym (order_kept fh_of _ (rows_rise (rowed x.tree) left).2) ∙ sym one.held.2.handles ∙ handles_same ∙ two.held.2.handles
      ∙ order_kept fh_of _ (rows_rise (rowed y.tree) right).2)
      counters_are
      (sym (agreed_back (rowed x.tree).counters (rowed x.tree).settings x.next_lot one.held.2.number) ∙ ap agreed_in all_counters
      ∙ agreed_back (rowed y.tree).counters (rowed y.tree).settings y.next_lot two.held.2.number)

  -- one database holds just one thing
  pub one_holding : RowsOfTrees → RowsTellState → x ≡ y
  one_holding of_trees rows_tell =
      ap (λ s. record x { tree = s }) (rows_tell x.tree y.tree (rows_same of_trees)) ∙ ap (λ l. record x { tree = y.tree; kept = l }) kept_same
      ∙ ap (λ l. record y { lots = l; next_lot = x.next_lot }) lots_same ∙ ap (λ cs. record y { next_lot = value_of cs 10 }) all_counters

-- An everyday store of version 2 is one of version 3, once its written blocks are counted.
use Rattle.std.proofs.Common.{◌≡◌, ◌≤◌, ◌<◌, ◌^◌, ◌+◌, ◌/◌, ◌%◌, ◌==◌, ℕ, List, [], ◌∷◌, map, find, length, Bool, true, false, cond, Option, Some, None, option_map}
use Rattle.std.proofs.Common.{refl, sym, ap, subst, arith, ◌∙◌}
use Rattle.std.specs.Prelude.{IsSome, IfSome, unwrap_or}
use Rattle.std.specs.List.{AllByRecursion, sum_by}
use Rattle.std.specs.Option.{is_some}
use Rattle.std.proofs.lemmas.Bool.Decides.{nat_tests}
use Rattle.std.proofs.lemmas.List.Sums.{sum_by-cons}
use Rattle.fuse_init.specs.declared.profile.Profile.TheVariants.{Plain, Everyday}
use Rattle.fuse_init.specs.Profile.{Terms, terms}
use Rattle.fuse_rows.specs.Bounds.{block_bytes}
use Rattle.fuse_rows.specs.Blocks.{blocks_for, listed_blocks}
use Rattle.fuse_rows.specs.Rows.{full_at, profile_for}
use Rattle.fuse_rows.specs.declared.rows.Full.{Full}
use Rattle.fuse_rows.specs.declared.rows.NodeRow.{NodeRow}
use Rattle.fuse_tree.specs.State.{State, Node, Tree, IsNode, Apart, AreWritten, FitsCapacity, block_count_of, terms_of, used_of}
use Rattle.fuse_tree.specs.Rowed.{rowed, full_of, row_of}
use Rattle.fuse_store_tables.specs.Blocks.{Block, block_at}
use Rattle.fuse_store_tables.specs.Content.{Content, Counter, node_key, with_counter, set_counter}
use Rattle.fuse_store_tables.specs.Migrating.{all_written, as_version_3, counting_written, with_written, written_of}
use Rattle.fuse_store_tables.specs.declared.version.Layout.TheVariants as layouts
use Rattle.fuse_store_tables.specs.Pieces.{Piece}
use Rattle.fuse_store_tree.specs.Fits.{KeepsNode}
use Rattle.fuse_store_tree.specs.Pieces.{block_found, byte_at, is_written_in, piece_at, stored_block}
use Rattle.fuse_store_tree.specs.Store.{HasNumber, IsWrittenAs, bodies_of, blocks_counted, is_among, layout_for, meta_rows_of, rows_written}
use Rattle.fuse_store_tree.specs.Holding.{Holding, TreesAreInOrder, store_of}
use Rattle.fuse_store.specs.SecondVersion.{DescribesSecond, second_meta_rows, uncounted}
use Rattle.fuse_store.proofs.Fitting.{Told, counters_with, room_with}
use Rattle.fuse_store.proofs.PlainFiles.{no_pieces_are}
use Rattle.fuse_store.proofs.Uncounted.{rows_of, uncounted_rows}
use Rattle.fuse_store.proofs.WrittenBlocks.{NoneTwice, counted_as, few_of}

-- its tables describe this
abbrev pub ToldSecond : Holding → Content → Type 0
ToldSecond y = DescribesSecond (store_of y) (bodies_of (rowed y.tree))

-- ---- the blocks that are found

found_alone : (file : List ℕ) (block : ℕ) (o : Option Block) → block_found file block o None ≡ block_found [] block o None
found_alone file block None = refl
found_alone file block (Some b) = refl

-- by rows alone
found_in : (c : Content) → c.pieces ≡ [] → (file : List ℕ) (node block : ℕ) → block_found file block (block_at node block c.blocks) None ≡ stored_block [] c node block
found_in c none file node block =
    found_alone file block (block_at node block c.blocks)
    ∙ sym (ap (λ (ps : List Piece). block_found [] block (block_at node block c.blocks) (piece_at node block ps)) none)

there_is : (block : ℕ) (o : Option Block) → is_some (block_found [] block o None) ≡ is_some o
there_is block None = refl
there_is block (Some b) = refl

written_at : (c : Content) → c.pieces ≡ [] → (node block : ℕ) → is_some (block_at node block c.blocks) ≡ is_written_in [] c node block
written_at c none node block = sym (there_is block (block_at node block c.blocks)) ∙ ap is_some (found_in c none [] node block)

-- ---- each node of a tree is found by its number

other_number : (m n : ℕ) → m < n → (m == n) ≡ false
other_number m n low = grind (arith, nat_tests)

same_number : (n : ℕ) → (n == n) ≡ true
same_number n = grind (arith, nat_tests)

abbrev IsFound : State → List Node → Node → Type 0
IsFound s ns n = find (λ (f : Full). f.row.node == n.number) (map (full_of s) ns) ≡ Some (full_of s n)

later_found : (s : State) (x : Node) (ns later : List Node) → AllByRecursion (λ n. x.number < n.number) later → AllByRecursion (IsFound s ns) later
    → AllByRecursion (IsFound s (x ∷ ns)) later
later_found s x ns [] above found = tt
later_found s x ns (n ∷ later) above found = (
  ap (λ b. cond b (Some (full_of s x)) (find (λ (f : Full). f.row.node == n.number) (map (full_of s) ns))) (other_number x.number n.number above.0) ∙ found.0,
  later_found s x ns later above.1 found.1,
)

all_found : (s : State) (ns : List Node) → Apart (λ n later. n.number < later.number) ns → AllByRecursion (IsFound s ns) ns
all_found s [] rise = tt
all_found s (x ∷ ns) rise = (
  ap (λ b. cond b (Some (full_of s x)) (find (λ (f : Full). f.row.node == x.number) (map (full_of s) ns))) (same_number x.number),
  later_found s x ns ns rise.0 (all_found s ns rise.1),
)

-- ---- the count of each

module _ (c : Content) (apart : NoneTwice c.blocks) where
  abbrev IsCounted : State → Node → Type 0
  IsCounted s n = Some (written_of c.blocks (row_of s n)) ≡ option_map length n.blocks

  is_few : (size most : ℕ) → size ≤ most → most ≤ 2 ^ 40 → blocks_for size ≤ 9223372036854775807
  is_few size most low top = omega (arith, low, top)

  none_there : (o : Option (List ℕ)) → is_some o ≡ true → o ≡ None → ⊥
  none_there None some is = absurd cc
  none_there (Some ks) some is = absurd cc

  count_one : (t : Terms) (next : ℕ) (s : State) (n : Node) → t.counts_written ≡ true → t.file_limit ≤ 2 ^ 40 → IsNode t next n
      → ((block : ℕ) → IsWrittenAs (is_some (block_at n.number block c.blocks)) (option_map is_among n.blocks) block) → IsCounted s n
  count_one t next s n counts limit is told = by n.blocks refl
    where
      by : (o : Option (List ℕ)) → n.blocks ≡ o → Some (written_of c.blocks (row_of s n)) ≡ option_map length o
      by None none = absurd (none_there n.blocks (is.blocks.counted ∙ counts) none)
      by (Some ks) some =
          let written : AreWritten n.content ks = subst (λ o. IfSome o (AreWritten n.content)) some is.blocks.written in
          let same = subst (λ o. (block : ℕ) → IsWrittenAs (is_some (block_at n.number block c.blocks)) (option_map is_among o) block) some told in
          let few = few_of ks (blocks_for (length n.content)) written.rise written.within in
          let low = is_few (length n.content) t.file_limit is.size limit in
          ap Some (counted_as n.number c.blocks ks apart written.rise same (omega (arith, few, low)))

  -- the rows with their counts
  counted_rows : (s : State) (ns : List Node) → AllByRecursion (IsCounted s) ns → map (with_written c.blocks) (map uncounted (rows_of s ns)) ≡ rows_of s ns
  counted_rows s [] all = refl
  counted_rows s (n ∷ ns) all =
      ap (λ w. record (row_of s n) { written = w } ∷ map (with_written c.blocks) (map uncounted (rows_of s ns))) all.0
      ∙ ap (λ l. row_of s n ∷ l) (counted_rows s ns all.1)

  of_some : (o : Option (List ℕ)) (w : ℕ) → Some w ≡ option_map length o → w ≡ length (listed_blocks o)
  of_some None w is = absurd cc
  of_some (Some ks) w is = cc

  counted_sum : (s : State) (ns : List Node) → AllByRecursion (IsCounted s) ns → sum_by (written_of c.blocks) (map uncounted (rows_of s ns)) ≡ sum_by block_count_of ns
  counted_sum s [] all = refl
  counted_sum s (n ∷ ns) all =
      sum_by-cons (written_of c.blocks) (uncounted (row_of s n)) (map uncounted (rows_of s ns))
      ∙ ap (λ w. w + sum_by (written_of c.blocks) (map uncounted (rows_of s ns))) (of_some n.blocks (written_of c.blocks (row_of s n)) all.0)
      ∙ ap (λ w. block_count_of n + w) (counted_sum s ns all.1) ∙ sym (sum_by-cons block_count_of n ns)

-- ---- all of a tree

module _ (y : Holding) (c : Content) (tree : Tree y.tree) (everyday : IsSome y.tree.capacity) (told : ToldSecond y c) (apart : NoneTwice c.blocks) where
  no_pieces : c.pieces ≡ []
  no_pieces = told.fits.no_pieces told.layout

  is_everyday : (o : Option ℕ) → IsSome o → profile_for o ≡ Everyday
  is_everyday None none = absurd (let e : false ≡ true = none in cc)
  is_everyday (Some k) some = refl

  counts : (terms_of y.tree).counts_written ≡ true
  counts = ap (λ p. (terms p).counts_written) (is_everyday y.tree.capacity everyday)

  limit : (terms_of y.tree).file_limit ≤ 2 ^ 40
  limit = subst (λ p. (terms p).file_limit ≤ 2 ^ 40) (sym (is_everyday y.tree.capacity everyday)) (omega arith)

  -- what is said of a node by its number
  of_node : (n : Node) → IsFound y.tree y.tree.nodes n → (block : ℕ)
      → IsWrittenAs (is_some (block_at n.number block c.blocks)) (option_map is_among n.blocks) block
  unfolding rowed
  of_node n found block =
      subst (λ (o : Option Full). IsWrittenAs (is_some (block_at n.number block c.blocks)) (option_map is_among (blocks_counted o)) block) found
      (subst (λ b. IsWrittenAs b (rows_written (rowed y.tree) n.number) block) (sym (written_at c no_pieces n.number block)) (told.written n.number block))

  each : (ns : List Node) → AllByRecursion (IsNode (terms_of y.tree) y.tree.next_node) ns → AllByRecursion (IsFound y.tree y.tree.nodes) ns
      → AllByRecursion (IsCounted c apart y.tree) ns
  each [] nodes found = tt
  each (n ∷ ns) nodes found = (
    count_one c apart (terms_of y.tree) y.tree.next_node y.tree n counts limit nodes.0 (of_node n found.0),
    each ns nodes.1 found.1,
  )

  all_counted : AllByRecursion (IsCounted c apart y.tree) y.tree.nodes
  all_counted = each y.tree.nodes tree.shape.nodes (all_found y.tree y.tree.nodes tree.shape.nodes_rise)

  module _ (ordered : TreesAreInOrder) where
    pub nodes_are : c.nodes ≡ map uncounted (rows_of y.tree y.tree.nodes)
    unfolding rowed
    nodes_are = told.nodes ∙ uncounted_rows y.tree y.tree.nodes (ordered y.tree tree).nodes

    rows_now : map (with_written c.blocks) c.nodes ≡ rows_of y.tree y.tree.nodes
    rows_now = ap (map (with_written c.blocks)) nodes_are ∙ counted_rows c apart y.tree y.tree.nodes all_counted

    pub used_now : all_written c ≡ used_of y.tree
    used_now = ap (sum_by (written_of c.blocks)) nodes_are ∙ counted_sum c apart y.tree y.tree.nodes all_counted

    -- the rows of `meta`
    abbrev raised : ℕ → ℕ → List Counter → List Counter
    raised number w cs = (with_counter 15 number (set_counter 14 w (set_counter 1 3 (record c { counters = cs })))).counters

    rows_of_meta : (s : State) (k used w number : ℕ)
        → raised number w (second_meta_rows (record (rowed s).counters { room = room_with (Some k) s }) (rowed s).settings y.next_lot k used)
        ≡ meta_rows_of (record (rowed s).counters { room = Some (record { capacity = k; used = w }) }) (rowed s).settings y.next_lot number
    unfolding rowed
    rows_of_meta s k used w number = refl

    counters_now : (number : ℕ) → (as_version_3 number c).counters ≡ counters_with y.tree.capacity y.tree y.next_lot number
    unfolding rowed
    counters_now number = by y.tree.capacity everyday told.counters
      where
        by : (o : Option ℕ) → IsSome o → IfSome (room_with o y.tree) (λ r. (c.counters ≡ second_meta_rows (record (rowed y.tree).counters { room = room_with o y.tree }) (rowed y.tree).settings y.next_lot r.capacity told.used) × (told.used ≤ r.capacity))
            → (as_version_3 number c).counters ≡ counters_with o y.tree y.next_lot number
        by None none at = absurd (let e : false ≡ true = none in cc)
        by (Some k) some at =
            ap (raised number (all_written c)) at.0 ∙ rows_of_meta y.tree k told.used (all_written c) number
            ∙ ap (λ w. meta_rows_of (record (rowed y.tree).counters { room = Some (record { capacity = k; used = w }) }) (rowed y.tree).settings y.next_lot number) used_now

    keeps_counts : (ns : List NodeRow) → AllByRecursion (KeepsNode c.layout) ns → AllByRecursion (KeepsNode layouts.Third) (map (with_written c.blocks) ns)
    keeps_counts [] all = tt
    keeps_counts (n ∷ ns) all = (
      record {
        node = all.0.node;
        widths = record {
          mode = all.0.widths.mode;
          uid = all.0.widths.uid;
          gid = all.0.widths.gid;
          rdev = all.0.widths.rdev;
          atime = all.0.widths.atime;
          mtime = all.0.widths.mtime;
          ctime = all.0.widths.ctime;
          subdirs = all.0.widths.subdirs;
        };
        count = refl;
      },
      keeps_counts ns all.1,
    )

    third_there : (o : Option ℕ) → IsSome o → layouts.Third ≡ layout_for (room_with o y.tree)
    third_there None none = absurd (let e : false ≡ true = none in cc)
    third_there (Some k) some = refl

    pub describes_counted : (number : ℕ) (file : List ℕ) → HasNumber number file → Told y file (counting_written number c)
    unfolding rowed
    describes_counted number file has = record {
      number = number;
      layout = third_there y.tree.capacity everyday;
      counters = counters_now number;
      nodes = rows_now ∙ sym (ordered y.tree tree).nodes;
      entries = told.entries;
      handles = told.handles;
      answers = refl;
      lots = told.lots;
      kept = told.kept;
      attributes = refl;
      bytes = λ node i. ap (λ o. byte_at (unwrap_or o []) (i % block_bytes)) (found_in c no_pieces file node (i / block_bytes)) ∙ told.bytes node i;
      within = told.within;
      written = λ node block.
          subst (λ o. IsWrittenAs (is_some o) (rows_written (rowed y.tree) node) block) (sym (found_in c no_pieces file node block)) (told.written node block);
      pieces_within = tt;
      pieces = no_pieces_are file;
      owned = tt;
      header = λ some. has;
      settings = told.settings;
      fits = record {
        nodes = keeps_counts c.nodes told.fits.nodes;
        entries = told.fits.entries;
        handles = told.fits.handles;
        blocks = told.fits.blocks;
        kept = told.fits.kept;
        pieces = tt;
        no_pieces = λ second. absurd cc;
      };
    }

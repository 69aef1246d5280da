-- The tables after the begin of a mount describe what is left.
use Rattle.std.proofs.Common.{◌≡◌, ◌≤◌, ◌/◌, ◌%◌, ℕ, [], map, filter, length, not, cond, min, List, Bool, false, Option, Some, None, option_map, Ok, Err, Result, OnOk}
use Rattle.std.proofs.Common.{refl, sym, ap, subst, arith, ◌∙◌}
use Rattle.std.specs.Prelude.{IsSome, unwrap_or}
use Rattle.std.specs.Option.{is_some}
use Rattle.std.specs.List.{AllByRecursion}
use Rattle.std.proofs.lemmas.List.{length-map}
use Rattle.sqlite.specs.Effect.{Database}
use Rattle.sqlite.specs.State.{State as TablesState, HasCleanDisk}
use Rattle.fuse_data.specs.declared.gaps.Gap.{Gap}
use Rattle.fuse_data.specs.Space.{InUse, AllInUse}
use Rattle.fuse_rows.specs.Bounds.{block_bytes}
use Rattle.fuse_init.specs.declared.profile.Profile.{Profile}
use Rattle.fuse_init.specs.declared.profile.Profile.TheVariants.{Plain, Everyday}
use Rattle.fuse_init.specs.Profile.{terms}
use Rattle.fuse_rows.specs.declared.rows.Room.{Room}
use Rattle.fuse_tree.specs.State.{State, Tree, terms_of, profile_of}
use Rattle.fuse_rows.specs.Rows.{Rows, full_at, content_of}
use Rattle.fuse_tree.specs.Rowed.{rowed, full_of}
use Rattle.fuse_tree.specs.Clearing as trees
use Rattle.fuse_store_tables.specs.declared.version.Layout.{Layout}
use Rattle.fuse_store_tables.specs.declared.version.Layout.TheVariants.{Second, Third}
use Rattle.fuse_store_tables.specs.Layout.{schema_for}
use Rattle.fuse_store_tables.specs.Content.{Content, Counter, Holds, node_key, is_unnamed, set_counter}
use Rattle.fuse_store_tables.specs.Moves.{RestsAs, Serves}
use Rattle.fuse_store_tables.specs.Clearing.{cleared, lowered, unnamed_blocks, named, has_unnamed, counted_to, without_settings}
use Rattle.fuse_store_tree.specs.Fits.{Fits, KeepsNode, KeepsPiece, IsWhole}
use Rattle.fuse_store_tree.specs.Leaving.{ListsInUse}
use Rattle.fuse_store_tree.specs.Pieces.{byte_at, byte_in, stored_block, is_written_in, extents_of}
use Rattle.fuse_store_tree.specs.Store.{IsWrittenAs, blocks_counted, is_among, layout_for, meta_rows_of, in_order, rows_bytes, rows_ends, rows_written}
use Rattle.fuse_store_tree.specs.inner.Reading.{Describes}
use Rattle.fuse_store_tree.specs.inner.Relisting.{TakenOut}
use Rattle.fuse_store_tree.specs.Holding.{Holding, HeldFor, TreesAreInOrder}
use Rattle.fuse_store.specs.Mounting.{cleared_for}
use Rattle.fuse_store.proofs.Fitting.{Told, filter_length, all_filter}
use Rattle.fuse_store.proofs.PiecesLeft.{all_left, taken_left, same_pieces, pieces_stored}
use Rattle.fuse_store.proofs.Clearing.{named_rows, freed_blocks, found_left, piece_goes, stored_left, bytes_left, written_left, blocks_within, pieces_within, owned_left}
use Rattle.fuse_store.proofs.Retelling.{Retold}

small_count : (n m k : ℕ) → n ≤ m → m ≤ k → k ≤ 1048576 → min n 9223372036854775807 ≡ n
small_count n m k less few low = omega (arith, less, few, low)

few_nodes : (p : Profile) → (terms p).node_limit ≤ 1048576
few_nodes Plain = omega arith
few_nodes Everyday = omega arith

module _ (clearing : trees.Clearing) (ordered : TreesAreInOrder) (file : List ℕ) (y : Holding) (c : Content) (tree : Tree y.tree) (told : Told y file c) where
  -- the rows of the nodes, as the tables have them
  nodes_are : c.nodes ≡ map (λ f. f.row) (rowed y.tree).nodes
  nodes_are = told.nodes ∙ (ordered y.tree tree).nodes

  named_are : named c.nodes ≡ map (λ f. f.row) (filter trees.is_named_row (rowed y.tree).nodes)
  unfolding rowed
  named_are = ap named nodes_are ∙ named_rows y.tree y.tree.next_node y.tree.nodes tree.shape.nodes

  left_in_order : in_order node_key (map (λ f. f.row) (filter trees.is_named_row (rowed y.tree).nodes))
      ≡ map (λ f. f.row) (filter trees.is_named_row (rowed y.tree).nodes)
  left_in_order =
      let law = clearing y.tree tree in
      subst (λ (r : Rows). in_order node_key (map (λ f. f.row) r.nodes) ≡ map (λ f. f.row) r.nodes) law.1 (ordered (trees.cleared_tree y.tree) law.0).nodes

  count_is : counted_to (named c.nodes) ≡ length (filter trees.is_named_row (rowed y.tree).nodes)
  unfolding rowed
  count_is =
      let short = length-map (filter trees.is_named_row (rowed y.tree).nodes) (λ f. f.row) in
      ap (λ n. min n 9223372036854775807) (ap length named_are ∙ short)
      ∙ small_count (length (filter trees.is_named_row (rowed y.tree).nodes)) (length y.tree.nodes) (terms_of y.tree).node_limit (fewer y.tree) tree.shape.limits.nodes
      (few_nodes (profile_of y.tree))
    where
      fewer : (s : State) → length (filter trees.is_named_row (map (full_of s) s.nodes)) ≤ length s.nodes
      fewer s = subst (λ n. length (filter trees.is_named_row (map (full_of s) s.nodes)) ≤ n) (length-map s.nodes (full_of s))
          (filter_length trees.is_named_row (map (full_of s) s.nodes))

  freed_is : unnamed_blocks Third c.nodes ≡ trees.blocks_freed (rowed y.tree).nodes
  unfolding rowed
  freed_is = ap (unnamed_blocks Third) nodes_are ∙ freed_blocks y.tree y.tree.next_node y.tree.nodes tree.shape.nodes

  -- the counters where so many nodes are left, and so many blocks are freed
  abbrev counters_left : ℕ → ℕ → Option Room → List Counter
  counters_left n k room =
      meta_rows_of (record (rowed y.tree).counters { nodes = n; handles = 0; room = option_map (trees.room_less k) room }) None y.next_lot told.number

  by_room : (room : Option Room)
      → (set_counter 5 (counted_to (named c.nodes)) (without_settings (set_counter 6 0 (lowered
      (record c { layout = layout_for room; counters = meta_rows_of (record (rowed y.tree).counters { room = room }) (rowed y.tree).settings y.next_lot told.number }))))).counters
      ≡ counters_left (counted_to (named c.nodes)) (unnamed_blocks Third c.nodes) room
  by_room None = refl
  by_room (Some r) = refl

  counters_are : (cleared c).counters ≡ meta_rows_of (trees.cleared_rows (rowed y.tree)).counters None y.next_lot told.number
  counters_are =
      ap (λ l. (set_counter 5 (counted_to (named c.nodes)) (without_settings (set_counter 6 0 (lowered (record c { layout = l }))))).counters) told.layout
      ∙ ap (λ cs. (set_counter 5 (counted_to (named c.nodes)) (without_settings (set_counter 6 0
      (lowered (record c { layout = layout_for (rowed y.tree).counters.room; counters = cs }))))).counters) told.counters
      ∙ by_room (rowed y.tree).counters.room
      ∙ ap (λ n. counters_left n (unnamed_blocks Third c.nodes) (rowed y.tree).counters.room) count_is
      ∙ ap (λ k. counters_left (length (filter trees.is_named_row (rowed y.tree).nodes)) k (rowed y.tree).counters.room) freed_is

  layout_is : c.layout ≡ layout_for (trees.cleared_rows (rowed y.tree)).counters.room
  layout_is = told.layout ∙ by (rowed y.tree).counters.room
    where
      by : (room : Option Room) → layout_for room ≡ layout_for (option_map (trees.room_less (trees.blocks_freed (rowed y.tree).nodes)) room)
      by None = refl
      by (Some r) = refl

  -- its pieces are those of the nodes that are left
  pieces_are : TakenOut file (λ n k. has_unnamed c.nodes n) c (record c { pieces = filter (λ p. not (has_unnamed c.nodes p.node)) c.pieces })
  pieces_are = taken_left (λ p. has_unnamed c.nodes p.node) file (λ n k. has_unnamed c.nodes n) c (piece_goes (has_unnamed c.nodes) c.pieces)
      (told.fits, told.pieces)

  stored_are : (node k : ℕ) → stored_block file (cleared c) node k ≡ cond (has_unnamed c.nodes node) None (stored_block file c node k)
  stored_are node k = stored_left file (has_unnamed c.nodes) node k c.blocks c.pieces (filter (λ p. not (has_unnamed c.nodes p.node)) c.pieces)
      (pieces_are.blocks node k)

  -- what is found of a node after it
  full_is : (node : ℕ) → full_at (trees.cleared_rows (rowed y.tree)) node ≡ cond (has_unnamed c.nodes node) None (full_at (rowed y.tree) node)
  unfolding rowed
  full_is node = found_left y.tree node y.tree.next_node y.tree.nodes tree.shape.nodes tree.shape.nodes_rise
      ∙ ap (λ ns. cond (has_unnamed ns node) None (full_at (rowed y.tree) node)) (sym nodes_are)

  bytes_are : (node i : ℕ) → byte_in file (cleared c) node i ≡ rows_bytes (trees.cleared_rows (rowed y.tree)) node i
  bytes_are node i =
      ap (λ o. byte_at (unwrap_or o []) (i % block_bytes)) (stored_are node (i / block_bytes))
      ∙ bytes_left (has_unnamed c.nodes node) (stored_block file c node (i / block_bytes)) (full_at (rowed y.tree) node) (i % block_bytes) i (told.bytes node i)
      ∙ sym (ap (λ f. byte_at (content_of f) i) (full_is node))

  written_are : (node k : ℕ) → IsWrittenAs (is_written_in file (cleared c) node k) (rows_written (trees.cleared_rows (rowed y.tree)) node) k
  written_are node k =
      subst (λ o. IsWrittenAs (is_some o) (rows_written (trees.cleared_rows (rowed y.tree)) node) k) (sym (stored_are node k))
      (subst (λ f. IsWrittenAs (is_some (cond (has_unnamed c.nodes node) None (stored_block file c node k))) (option_map is_among (blocks_counted f)) k) (sym (full_is node))
      (written_left (has_unnamed c.nodes node) (stored_block file c node k) (full_at (rowed y.tree) node) k (told.written node k)))

  -- the end of a node that is left
  ends_are : (node : ℕ) → has_unnamed c.nodes node ≡ false → rows_ends (rowed y.tree) node ≡ rows_ends (trees.cleared_rows (rowed y.tree)) node
  ends_are node stays =
      sym (ap (λ f. length (content_of f)) (full_is node ∙ ap (λ t. cond t None (full_at (rowed y.tree) node)) stays))

  pub describes_cleared : Told (cleared_for y) file (cleared c)
  describes_cleared =
      subst (λ (r : Rows). Describes (record { rows = r; kept = []; lots = []; next_lot = y.next_lot }) file (cleared c)) (sym (clearing y.tree tree).1)
      (record {
        number = told.number;
        layout = layout_is;
        counters = counters_are;
        nodes = named_are ∙ sym left_in_order;
        entries = told.entries;
        handles = refl;
        answers = told.answers;
        lots = refl;
        kept = refl;
        attributes = told.attributes;
        bytes = bytes_are;
        within = blocks_within (has_unnamed c.nodes) (rows_ends (rowed y.tree)) (rows_ends (trees.cleared_rows (rowed y.tree))) ends_are c.blocks told.within;
        written = written_are;
        pieces_within = pieces_within (has_unnamed c.nodes) (rows_ends (rowed y.tree)) (rows_ends (trees.cleared_rows (rowed y.tree))) ends_are c.pieces
            told.pieces_within;
        pieces = pieces_are.sound.1;
        owned = owned_left c.nodes c.pieces told.owned;
        header = λ some. told.header (has_room (rowed y.tree).counters.room some);
        settings = record { minor = omega arith; readahead = omega arith; flags = omega arith };
        fits = record {
          nodes = all_filter (KeepsNode c.layout) (λ n. not (is_unnamed n)) c.nodes told.fits.nodes;
          entries = told.fits.entries;
          handles = tt;
          blocks = all_filter IsWhole (λ b. not (has_unnamed c.nodes b.node)) c.blocks told.fits.blocks;
          kept = tt;
          pieces = pieces_are.sound.0.pieces;
          no_pieces = pieces_are.sound.0.no_pieces;
        };
      })
    where
      has_room : (room : Option Room) → IsSome (option_map (trees.room_less (trees.blocks_freed (rowed y.tree).nodes)) room) → IsSome room
      has_room None none = none
      has_room (Some r) some = refl

pub mounted : trees.Clearing → TreesAreInOrder → (file : List ℕ) (y : Holding) (d : Database) → HeldFor file y d
    → Retold Holds (λ c. Holds (cleared c)) (HeldFor file) (λ y. HeldFor file (cleared_for y)) y d
mounted clearing ordered file y d at = record {
  content = at.held.0;
  holds = at.held.1;
  same = λ e k. record { tree = at.tree; below = at.below; next = at.next; held = (at.held.0, k, at.held.2) };
  made = λ e k. record {
    tree = (clearing y.tree at.tree).0;
    below = tt;
    next = at.next;
    held = (cleared at.held.0, k, describes_cleared clearing ordered file y at.held.0 at.tree at.held.2);
  };
}

-- ---- the pieces that are left were listed before

-- one database has the pieces of one content
pub pieces_once : (x k : Content) (d : Database) → Holds x d → Holds k d → AllByRecursion KeepsPiece x.pieces → AllByRecursion KeepsPiece k.pieces
    → (x.layout ≡ Second → x.pieces ≡ []) → (k.layout ≡ Second → k.pieces ≡ []) → x.pieces ≡ k.pieces
pieces_once x k d at held fits keeps none empty = by x.layout k.layout refl refl
  where
    nine : (r s : Layout) → x.layout ≡ r → k.layout ≡ s → length (schema_for r).tables ≡ length (schema_for s).tables
    nine r s is are =
        let same : schema_for x.layout ≡ schema_for k.layout = sym at.schema ∙ held.schema in
        sym (ap (λ l. length (schema_for l).tables) is) ∙ ap (λ t. length t.tables) same ∙ ap (λ l. length (schema_for l).tables) are

    by : (r s : Layout) → x.layout ≡ r → k.layout ≡ s → x.pieces ≡ k.pieces
    by Second Second is are = none is ∙ sym (empty are)
    by Second Third is are = absurd (let e = nine Second Third is are in omega (arith, e))
    by Third Second is are = absurd (let e = nine Third Second is are in omega (arith, e))
    by Third Third is are = same_pieces x.pieces k.pieces fits keeps (sym (pieces_stored x d at is).0 ∙ (pieces_stored k d held are).0)

pub lists_cleared : (gaps : List Gap) (a b : Database) (c : Content) → Holds c a → Fits c → ListsInUse gaps a → Holds (cleared c) b → ListsInUse gaps b
lists_cleared gaps a b c at fits lists now = λ k held keeps.
    let same : filter (λ p. not (has_unnamed c.nodes p.node)) c.pieces ≡ k.pieces =
    pieces_once (cleared c) k b now held (all_filter KeepsPiece (λ p. not (has_unnamed c.nodes p.node)) c.pieces fits.pieces) keeps.pieces
    (λ is. ap (filter (λ p. not (has_unnamed c.nodes p.node))) (fits.no_pieces is)) keeps.no_pieces in
    subst (λ ps. AllInUse gaps (extents_of ps)) same (all_left (λ p. has_unnamed c.nodes p.node) (InUse gaps) c.pieces (lists c at fits))

pub lists_left : {X E : Type 0} (a b : TablesState) (r : Result X E) → Serves cleared a b r → HasCleanDisk b → (file : List ℕ) (y : Holding) (gaps : List Gap)
    → RestsAs (HeldFor file y) a → ListsInUse gaps a.now → OnOk r (ListsInUse gaps b.now)
lists_left a b (Ok x) serves clean file y gaps at lists =
    let c = at.holds.held.0 in
    let rests : RestsAs (Holds c) a =
    record { is_open = at.is_open; autocommit = at.autocommit; holds = at.holds.held.1; committed = at.committed } in
    lists_cleared gaps a.now b.now c at.holds.held.1 at.holds.held.2.fits lists (serves.done clean c rests).holds
lists_left a b (Err e) serves clean file y gaps at lists = tt

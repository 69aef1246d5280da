-- A plain store has no data file, so it holds the same whatever lies beside it.
use Rattle.std.proofs.Common.{◌≡◌, ◌==◌, ◌/◌, ◌%◌, ℕ, Bool, true, false, cond, List, [], ◌∷◌, map, find, Option, Some, None, option_map, refl, sym, ap, subst, arith, ◌∙◌}
use Rattle.std.specs.Prelude.{IsSome, unwrap_or}
use Rattle.std.specs.List.{AllByRecursion, AllPairs}
use Rattle.std.proofs.lemmas.List.Elements.{All-nil}
use Rattle.std.specs.Option.{is_some}
use Rattle.sqlite.specs.Effect.{Database}
use Rattle.fuse_data.specs.Extents.{IsWhole, AreDisjoint}
use Rattle.fuse_init.specs.declared.profile.Profile.TheVariants.{Plain}
use Rattle.fuse_rows.specs.Bounds.{block_bytes}
use Rattle.fuse_init.specs.Profile.{Terms, terms}
use Rattle.fuse_rows.specs.Rows.{profile_for}
use Rattle.fuse_rows.specs.declared.rows.Full.{Full}
use Rattle.fuse_rows.specs.declared.rows.Room.{Room}
use Rattle.fuse_tree.specs.State.{State, Node, Tree, IsNode, profile_of, terms_of, used_of}
use Rattle.fuse_tree.specs.Rowed.{rowed, full_of}
use Rattle.fuse_store_tables.specs.Blocks.{Block, block_at}
use Rattle.fuse_store_tables.specs.Content.{Content}
use Rattle.fuse_store_tables.specs.Pieces.{Piece}
use Rattle.fuse_store_tables.specs.declared.version.Layout.TheVariants.{Second}
use Rattle.fuse_store_tree.specs.Pieces.{ArePieces, OwnApart, byte_at, piece_at, block_found, stored_block}
use Rattle.fuse_store_tree.specs.Store.{DescribesAs, IsWrittenAs, bodies_of, blocks_counted, is_among, layout_for, rows_written}
use Rattle.fuse_store_tree.specs.Holding.{Holding, HeldFor, store_of}

found_alone : (f g : List ℕ) (block : ℕ) (o : Option Block) → block_found g block o None ≡ block_found f block o None
found_alone f g block None = refl
found_alone f g block (Some b) = refl

-- without pieces the blocks are those of the tables
pub same_stored : (f g : List ℕ) (c : Content) → c.pieces ≡ [] → (node block : ℕ) → stored_block g c node block ≡ stored_block f c node block
same_stored f g c none node block =
    ap (λ (ps : List Piece). block_found g block (block_at node block c.blocks) (piece_at node block ps)) none
    ∙ found_alone f g block (block_at node block c.blocks)
    ∙ sym (ap (λ (ps : List Piece). block_found f block (block_at node block c.blocks) (piece_at node block ps)) none)

no_pairs : {X : Type 0} (R : X → X → Type 0) → AllPairs R []
no_pairs R = λ i j d low high. absurd (omega (arith, high))

pub no_pieces_are : (file : List ℕ) → ArePieces file []
no_pieces_are file = record { some = tt; whole = All-nil (IsWhole file); apart = no_pairs AreDisjoint; own = no_pairs OwnApart }

pub no_room : (s : State) → profile_of s ≡ Plain → (rowed s).counters.room ≡ None
unfolding rowed
no_room s plain = by s.capacity plain
  where
    by : (o : Option ℕ) → profile_for o ≡ Plain → option_map {U = Room} (λ c. record { capacity = c; used = used_of s }) o ≡ None
    by None is = refl
    by (Some k) is = absurd cc

pub plain_described : (f g : List ℕ) (y : Holding) (c : Content) → profile_of y.tree ≡ Plain → DescribesAs (store_of y) (bodies_of (rowed y.tree)) f c
    → DescribesAs (store_of y) (bodies_of (rowed y.tree)) g c
plain_described f g y c plain told =
    let room = no_room y.tree plain in
    let none : c.pieces ≡ [] = told.fits.no_pieces (told.layout ∙ ap layout_for room) in
    record {
      number = told.number;
      layout = told.layout;
      counters = told.counters;
      nodes = told.nodes;
      entries = told.entries;
      handles = told.handles;
      answers = told.answers;
      lots = told.lots;
      kept = told.kept;
      attributes = told.attributes;
      bytes = λ node i.
          ap (λ o. byte_at (unwrap_or o []) (i % block_bytes)) (same_stored f g c none node (i / block_bytes)) ∙ told.bytes node i;
      within = told.within;
      written = λ node block.
          subst (λ o. IsWrittenAs (is_some o) ((bodies_of (rowed y.tree)).written node) block) (sym (same_stored f g c none node block)) (told.written node block);
      pieces_within = told.pieces_within;
      pieces = subst (λ ps. ArePieces g ps) (sym none) (no_pieces_are g);
      owned = told.owned;
      header = λ some. absurd (let e = subst IsSome room some in cc);
      settings = told.settings;
      fits = told.fits;
    }

pub plain_held : (f g : List ℕ) (y : Holding) (d : Database) → profile_of y.tree ≡ Plain → HeldFor f y d → HeldFor g y d
plain_held f g y d plain at = record {
  tree = at.tree;
  below = at.below;
  next = at.next;
  held = (at.held.0, at.held.1, plain_described f g y at.held.0 plain at.held.2);
}

-- ---- a plain tree counts no written block

is_none : {X : Type 0} (o : Option X) → is_some o ≡ false → o ≡ None
is_none None off = refl
is_none (Some x) off = absurd cc

none_counted : (s : State) (t : Terms) (next : ℕ) (ns : List Node) → t.counts_written ≡ false → AllByRecursion (IsNode t next) ns → (node : ℕ)
    → blocks_counted (find (λ (f : Full). f.row.node == node) (map (full_of s) ns)) ≡ None
none_counted s t next [] off all node = refl
none_counted s t next (n ∷ ns) off all node = by (n.number == node) (none_counted s t next ns off all.1 node)
  where
    none : n.blocks ≡ None
    none = is_none n.blocks (all.0.blocks.counted ∙ off)

    by : (b : Bool) → blocks_counted (find (λ (f : Full). f.row.node == node) (map (full_of s) ns)) ≡ None
        → blocks_counted (cond b (Some (full_of s n)) (find (λ (f : Full). f.row.node == node) (map (full_of s) ns))) ≡ None
    by true more = none
    by false more = more

pub uncounted_written : (s : State) → Tree s → s.capacity ≡ None → (told : Bool) (node block : ℕ) → IsWrittenAs told (rows_written (rowed s) node) block
unfolding rowed
uncounted_written s tree plain told node block =
    let off : (terms_of s).counts_written ≡ false = ap (λ (o : Option ℕ). (terms (profile_for o)).counts_written) plain in
    subst (λ o. IsWrittenAs told (option_map is_among o) block) (sym (none_counted s (terms_of s) s.next_node s.nodes off tree.shape.nodes node)) tt

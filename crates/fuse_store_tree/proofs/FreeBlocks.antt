-- What reads pieces stays where the data file changes in free blocks alone.
use Rattle.std.proofs.Common.{◌≡◌, ℕ, List, [], ◌∷◌, ◌/◌, ◌%◌, ◌&&◌, Bool, true, false, cond, not, filter, map, find, Option, Some, None, IsSome, inl, inr, refl, sym, ap, subst, ◌∙◌}
use Rattle.std.specs.Prelude.{take, drop, ◌-◌, ◌*◌, unwrap_or}
use Rattle.std.specs.Option.{is_some}
use Rattle.std.specs.List.{All}
use Rattle.std.proofs.lemmas.Bool.{cases_Bool}
use Rattle.std.proofs.lemmas.List.Elements.{All-nil, All-cons, All-head, All-tail}
use Rattle.sqlite.specs.Effect.{Database}
use Rattle.fuse_rows.specs.Bounds.{block_bytes}
use Rattle.fuse_data.specs.declared.extent.Extent.{Extent}
use Rattle.fuse_data.specs.declared.gaps.Gap.{Gap}
use Rattle.fuse_data.specs.Extents.{IsWhole, bytes_of}
use Rattle.fuse_data.specs.Space.{InUse}
use Rattle.fuse_data.specs.Leaving.{KeepsInUse}
use Rattle.fuse_store_tables.specs.Blocks.{Block, block_at}
use Rattle.fuse_store_tables.specs.Pieces.{Piece}
use Rattle.fuse_store_tables.specs.Content.{Content}
use Rattle.fuse_store_tree.specs.Pieces.{is_zeros, extent_of, extents_of, has_block, piece_at, piece_bytes, block_found, stored_block, is_written_in, byte_at, byte_in, ArePieces}
use Rattle.fuse_store_tree.specs.Store.{Store, Bodies, DescribesAs, IsWrittenAs, bodies_of}
use Rattle.fuse_store_tree.specs.Holding.{Holding, HeldFor, store_of}
use Rattle.fuse_store_tree.specs.Leaving.{FreeBlocksHoldNothing, ListsInUse}

module _ (gaps : List Gap) (old new : List ℕ) (keeps : KeepsInUse gaps old new) where
  -- an extent in use has its bytes
  same_extent : (e : Extent) → InUse gaps e → IsWhole old e → bytes_of new e ≡ bytes_of old e
  same_extent e in_use whole = (keeps.extents e in_use whole).same

  pub all_whole : (es : List Extent) → All (InUse gaps) es → All (IsWhole old) es → All (IsWhole new) es
  all_whole [] in_use whole = All-nil (IsWhole new)
  all_whole (e ∷ es) in_use whole =
      All-cons (IsWhole new) e es (keeps.extents e (All-head (InUse gaps) e es in_use) (All-head (IsWhole old) e es whole)).whole
      (all_whole es (All-tail (InUse gaps) e es in_use) (All-tail (IsWhole old) e es whole))

  -- the first of the pieces, if it has blocks of the data file, and the others
  placed : (p : Piece) (ps : List Piece) → is_zeros p ≡ false → extents_of (p ∷ ps) ≡ extent_of p ∷ extents_of ps
  placed p ps is = rw is refl

  without_place : (p : Piece) (ps : List Piece) → is_zeros p ≡ true → extents_of (p ∷ ps) ≡ extents_of ps
  without_place p ps is = rw is refl

  head_of : (P : Extent → Type 0) (p : Piece) (ps : List Piece) → is_zeros p ≡ false → All P (extents_of (p ∷ ps)) → P (extent_of p)
  head_of P p ps is all = All-head P (extent_of p) (extents_of ps) (subst (All P) (placed p ps is) all)

  rest_of : (P : Extent → Type 0) (p : Piece) (ps : List Piece) → All P (extents_of (p ∷ ps)) → All P (extents_of ps)
  rest_of P p ps all = elim (cases_Bool (is_zeros p)) [
    | inl zeros ↦ subst (All P) (without_place p ps zeros) all
    | inr bytes ↦ All-tail P (extent_of p) (extents_of ps) (subst (All P) (placed p ps bytes) all)
  ]

  same_piece : (p : Piece) (ps : List Piece) → All (InUse gaps) (extents_of (p ∷ ps)) → All (IsWhole old) (extents_of (p ∷ ps))
      → piece_bytes new p ≡ piece_bytes old p
  same_piece p ps in_use whole = elim (cases_Bool (is_zeros p)) [
    | inl zeros ↦ rw zeros refl
    | inr bytes ↦ rw bytes (same_extent (extent_of p) (head_of (InUse gaps) p ps bytes in_use) (head_of (IsWhole old) p ps bytes whole))
  ]

  same_found : (node block : ℕ) (b : Option Block) (ps : List Piece) → All (InUse gaps) (extents_of ps) → All (IsWhole old) (extents_of ps)
      → block_found new block b (piece_at node block ps) ≡ block_found old block b (piece_at node block ps)
  same_found node block (Some b) ps in_use whole = refl
  same_found node block None [] in_use whole = refl
  same_found node block None (p ∷ ps) in_use whole = elim (cases_Bool (has_block node block p)) [
    | inl here ↦ rw here (ap (λ bytes. Some (take block_bytes (drop ((block - p.first) * block_bytes) bytes))) (same_piece p ps in_use whole))
    | inr not_here ↦ rw not_here (same_found node block None ps (rest_of (InUse gaps) p ps in_use) (rest_of (IsWhole old) p ps whole))
  ]

  pub same_block : (c : Content) → All (InUse gaps) (extents_of c.pieces) → ArePieces old c.pieces → (node block : ℕ)
      → stored_block new c node block ≡ stored_block old c node block
  same_block c in_use pieces node block = same_found node block (block_at node block c.blocks) c.pieces in_use pieces.whole

  pub described : (x : Store) (bodies : Bodies) (c : Content) → All (InUse gaps) (extents_of c.pieces) → DescribesAs x bodies old c → DescribesAs x bodies new c
  described x bodies c in_use told = record {
    number = told.number;
    layout = told.layout;
    counters = told.counters;
    nodes = told.nodes;
    entries = told.entries;
    handles = told.handles;
    answers = told.answers;
    lots = told.lots;
    kept = told.kept;
    attributes = told.attributes;
    bytes = λ node i. ap (λ b. byte_at (unwrap_or b []) (i % block_bytes)) (same_block c in_use told.pieces node (i / block_bytes)) ∙ told.bytes node i;
    within = told.within;
    written = λ node block. subst (λ o. IsWrittenAs (is_some o) (bodies.written node) block) (sym (same_block c in_use told.pieces node block)) (told.written node block);
    pieces_within = told.pieces_within;
    pieces = record {
      some = told.pieces.some;
      whole = all_whole (extents_of c.pieces) in_use told.pieces.whole;
      apart = told.pieces.apart;
      own = told.pieces.own;
    };
    owned = told.owned;
    header = λ some. (keeps.header told.number (told.header some).0, (told.header some).1);
    settings = told.settings;
    fits = told.fits;
  }

-- what is held stays
pub holds_nothing : FreeBlocksHoldNothing
holds_nothing gaps old new y d keeps listed held =
    let c = held.held.0 in
    record {
      tree = held.tree;
      below = held.below;
      next = held.next;
      held = (
        c,
        held.held.1,
        described gaps old new keeps (store_of y) (bodies_of (store_of y).rows) c (listed c held.held.1 held.held.2.fits) held.held.2,
      );
    }

use Rattle.std.proofs.Common.{◌≡◌, ◌<◌, ◌^◌, ◌++◌, List, map, take}
use Rattle.std.specs.List.{AllByRecursion}
use Rattle.fuse_store_tables.specs.Pieces.{Piece}
use Rattle.fuse_store_tables.specs.Slices.{shown_extent}
use Rattle.fuse_store_tree.specs.Listings.{last_slot}
use Rattle.fuse_store_tree.specs.Pieces.{extent_of}
use Rattle.fuse_store_tree.proofs.listing.add_rows.Given as goal

abbrev pub invariant-loop-row : goal.invariant-loop-row
invariant-loop-row l = record {
  items : (ps : List Piece) → AllByRecursion (λ p. p.sum < 2 ^ 64) ps → l.rows ≡ map shown_extent ps
      → l.extents.items ≡ l.fn.extents.items ++ map extent_of (take l.row-index ps);
  last : (ps : List Piece) → AllByRecursion (λ p. p.sum < 2 ^ 64) ps → l.rows ≡ map shown_extent ps → l.last ≡ last_slot l.fn.slot (take l.row-index ps);
  small : l.last < 2 ^ 63;
}

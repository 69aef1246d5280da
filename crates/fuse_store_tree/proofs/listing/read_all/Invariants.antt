use Rattle.std.proofs.Common.{◌-◌, ◌≡◌, ◌≤◌, ◌^◌, ◌++◌, ℕ, Ok}
use Rattle.sqlite.specs.State.{HasCleanDisk}
use Rattle.sqlite.specs.Held.{state}
use Rattle.fuse_keeper.specs.declared.fault.StoreFault.{StoreFault}
use Rattle.fuse_store_tables.specs.declared.version.Layout.TheVariants.{Third}
use Rattle.fuse_store_tables.specs.Content.{Content, HoldsIn}
use Rattle.fuse_store_tables.specs.Moves.{OnlyReads, RestsAs, ServesAs, StaysOpen}
use Rattle.fuse_store_tree.specs.Fits.{Fits}
use Rattle.fuse_store_tree.specs.Listings.{extents_above}
use Rattle.fuse_store_tree.proofs.listing.read_all.Given as goal

abbrev pub invariant-slices : goal.invariant-slices
invariant-slices g l = record {
  low : l.slot ≤ 2 ^ 63;
  rests : ServesAs {X = ℕ} {E = StoreFault} (HoldsIn Third) (HoldsIn Third) (state g.S.Store l.fn.conn) (state g.S.Store l.conn) (Ok 0);
  stays : StaysOpen {X = ℕ} {E = StoreFault} (state g.S.Store l.fn.conn) (state g.S.Store l.conn) (Ok 0);
  reads : OnlyReads {X = ℕ} {E = StoreFault} (state g.S.Store l.fn.conn) (state g.S.Store l.conn) (Ok 0);
  extents : HasCleanDisk (state g.S.Store l.conn) → (c : Content) → RestsAs (HoldsIn Third c) (state g.S.Store l.fn.conn) → Fits c
      → l.extents.items ++ extents_above l.slot c.pieces ≡ extents_above 0 c.pieces;
}

abbrev pub decreases-slices : goal.decreases-slices
decreases-slices g l = 2 ^ 63 - l.slot

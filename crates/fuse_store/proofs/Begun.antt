-- An opening and the begin of a mount, in one transaction.
use Rattle.std.proofs.Common.{◌≡◌, ◌≤◌, ◌^◌, ℕ, List, [], Option, filter, not, ap}
use Rattle.sqlite.specs.Effect.{Database}
use Rattle.fuse_tree.specs.State.{Tree}
use Rattle.fuse_tree.specs.Clearing as trees
use Rattle.fuse_store_tables.specs.Content.{Content, Holds}
use Rattle.fuse_store_tables.specs.Clearing.{IsBegun, cleared, has_unnamed}
use Rattle.fuse_store_tables.specs.Pieces.{Piece}
use Rattle.fuse_store_tables.specs.Opening.{IsSound, IsStored, opened}
use Rattle.fuse_store_tables.specs.ToCount.{BlocksAreApart}
use Rattle.fuse_store_tree.specs.Holding.{Holding, HeldFor, TreesAreInOrder}
use Rattle.fuse_store.specs.Mounting.{cleared_for}
use Rattle.fuse_store.specs.Opening.{Stored, ReadyFor, opened_for}
use Rattle.fuse_store.specs.Starting.{BegunFor}
use Rattle.fuse_store.proofs.Fitting.{Told}
use Rattle.fuse_store.proofs.Mounted.{describes_cleared}
use Rattle.fuse_store.proofs.Reopening.{stored_as}
use Rattle.fuse_store.proofs.Retelling.{Reread}

-- of no pieces none is left
pub no_pieces_cleared : (c : Content) → c.pieces ≡ [] → (cleared c).pieces ≡ []
no_pieces_cleared c none = ap (λ (ps : List Piece). filter (λ p. not (has_unnamed c.nodes p.node)) ps) none

module _ (clearing : trees.Clearing) (ordered : TreesAreInOrder) (apart : BlocksAreApart) (number : Option ℕ) (file : List ℕ) where
  -- what the begin of a mount makes of what is held
  held_cleared : (y : Holding) (c : Content) (e : Database) → Tree y.tree → y.next_lot ≤ 2 ^ 62 → Told y file c → Holds (cleared c) e
      → HeldFor file (cleared_for y) e
  held_cleared y c e tree next told k = record {
    tree = (clearing y.tree tree).0;
    below = tt;
    next = next;
    held = (cleared c, k, describes_cleared clearing ordered file y c tree told);
  }

  pub begun_read : (z : Stored) (d : Database) → ReadyFor number file z d → Reread IsStored (IsBegun number) (ReadyFor number file) (BegunFor file) z d
  begun_read z d at =
      let r = stored_as ordered apart number file z d at.0 in
      record {
        content = r.content;
        holds = r.holds.stored;
        made = λ e k. held_cleared (opened_for z) (opened number r.content) e r.tree r.next (r.told at.1) k.holds;
      }

  -- a fault says nothing of a store whose blocks have room
  pub sound_read : (z : Stored) (d : Database) → ReadyFor number file z d → Reread IsSound (IsBegun number) (ReadyFor number file) (BegunFor file) z d
  sound_read z d at =
      let r = stored_as ordered apart number file z d at.0 in
      record {
        content = r.content;
        holds = r.holds;
        made = λ e k. held_cleared (opened_for z) (opened number r.content) e r.tree r.next (r.told at.1) k.holds;
      }

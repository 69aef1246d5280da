-- Steps over a data file of which more may be listed after them (defined by this project).
use Rattle.std.specs.Prelude.{ℕ, IsTrue, List, Option}
use Rattle.sqlite.specs.State.{State}
use Rattle.fuse_store_tables.specs.Moves.{Stays, StaysInside, TurnsTo}
use Rattle.fuse_store_tree.specs.declared.meta.Meta.{Meta}
use Rattle.fuse_store_tree.specs.Pieces.{File}
use Rattle.fuse_store_tree.specs.Store.{Store, Held, HeldAs}
use Rattle.fuse_store_tree.specs.inner.Knowing.{HeldKnown}
use Rattle.fuse_store_tree.specs.inner.Writing.{overlay_in}
use Rattle.fuse_store_tree.specs.Holding.{Holding}
use Rattle.fuse_store_tree.specs.Knowing.{HeldForKnown}

-- some bytes of a node are written over
pub record OverlaidOver (f g : File) (node at : ℕ) (part : List ℕ) (old new : State) : Type 0 where
  pub stays : Stays old new
  pub within : StaysInside old new
  pub turns : IsTrue g.is_clean → TurnsTo (HeldAs f.bytes) (λ p. HeldAs g.bytes (p.0, overlay_in node at part p.1)) old new

-- a change of a store
pub record ChangedOver (f g : File) (made : Store → Store) (old new : State) : Type 0 where
  pub stays : Stays old new
  pub within : StaysInside old new
  pub turns : IsTrue g.is_clean → TurnsTo (Held f.bytes) (λ x. Held g.bytes (made x)) old new

-- the same, where what was known was right, and what is known then is right
pub record ChangedKnownOver (f g : File) (was is : Option Meta) (made : Store → Store) (old new : State) : Type 0 where
  pub stays : Stays old new
  pub within : StaysInside old new
  pub turns : IsTrue g.is_clean → TurnsTo (HeldKnown f.bytes was) (λ x. HeldKnown g.bytes is (made x)) old new

-- a step on what is held, where what was known of it was right, and what is known then is right
pub record TurnedOver (f g : File) (was is : Option Meta) (made : Holding → Holding) (old new : State) : Type 0 where
  pub stays : Stays old new
  pub within : StaysInside old new
  pub turns : IsTrue g.is_clean → TurnsTo (HeldForKnown f.bytes was) (λ y. HeldForKnown g.bytes is (made y)) old new

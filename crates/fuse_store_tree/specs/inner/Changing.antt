-- The effect of a step within a transaction on the content of the tables and of the data file (defined by this project).
use Rattle.std.specs.Prelude.{ℕ, IsTrue, List, Option, Result, IfErr}
use Rattle.sqlite.specs.State.{State, HasCleanDisk}
use Rattle.fuse_tree.specs.Rowed.{IsRowed}
use Rattle.fuse_store_tables.specs.Moves.{Stays, StaysInside, TurnsTo, InsideAs, IsReady}
use Rattle.fuse_keeper.specs.declared.fault.StoreFault.{StoreFault}
use Rattle.fuse_store_tables.specs.Faults.{IsOutside}
use Rattle.fuse_store_tree.specs.Pieces.{File}
use Rattle.fuse_store_tree.specs.Store.{Store, Held, HeldAs}
use Rattle.fuse_store_tree.specs.Holding.{HeldFor, Holding}
use Rattle.fuse_store_tree.specs.Group.{HasLotLeft}
use Rattle.fuse_store_tree.specs.inner.Writing.{overlay_in, zeros_in, cut_in}

pub record Changed (f : File) (g : Store → Store) (old new : State) : Type 0 where
  pub stays : Stays old new
  pub within : StaysInside old new
  pub turns : IsTrue f.is_clean → TurnsTo (Held f.bytes) (λ x. Held f.bytes (g x)) old new

-- a step that reads no piece, over any data file
pub record ChangedIn (file : List ℕ) (g : Store → Store) (old new : State) : Type 0 where
  pub stays : Stays old new
  pub within : StaysInside old new
  pub turns : TurnsTo (Held file) (λ x. Held file (g x)) old new

-- a store whose rows are those of a tree is as it was
pub record LeavesTrees (f : File) (old new : State) : Type 0 where
  pub stays : Stays old new
  pub within : StaysInside old new
  pub held : HasCleanDisk new → IsTrue f.is_clean → IsReady (Held f.bytes) old → IsReady (Held f.bytes) new
  pub same : HasCleanDisk new → IsTrue f.is_clean → (x : Store) → IsRowed x.rows → InsideAs (Held f.bytes x) old → InsideAs (Held f.bytes x) new

-- some bytes of a node are written over, and nothing else
pub record Overlaid (f : File) (node at : ℕ) (part : List ℕ) (old new : State) : Type 0 where
  pub stays : Stays old new
  pub within : StaysInside old new
  pub turns : IsTrue f.is_clean → TurnsTo (HeldAs f.bytes) (λ p. HeldAs f.bytes (p.0, overlay_in node at part p.1)) old new

-- zeros are written over some bytes of a node, and no block is made
pub record Zeroed (f : File) (node at : ℕ) (zeros : List ℕ) (old new : State) : Type 0 where
  pub stays : Stays old new
  pub within : StaysInside old new
  pub turns : IsTrue f.is_clean → TurnsTo (HeldAs f.bytes) (λ p. HeldAs f.bytes (p.0, zeros_in node at zeros p.1)) old new

-- the bytes of a node from a place on are 0, in no written block that begins there, and nothing else changes
pub record Cut (f : File) (node at : ℕ) (old new : State) : Type 0 where
  pub stays : Stays old new
  pub within : StaysInside old new
  pub turns : IsTrue f.is_clean → TurnsTo (HeldAs f.bytes) (λ p. HeldAs f.bytes (p.0, cut_in node at p.1)) old new

-- the same of a step that reads no piece, over any data file
pub record CutIn (file : List ℕ) (node at : ℕ) (old new : State) : Type 0 where
  pub stays : Stays old new
  pub within : StaysInside old new
  pub turns : TurnsTo (HeldAs file) (λ p. HeldAs file (p.0, cut_in node at p.1)) old new

-- a transaction is open, whose tables hold this over this data file
abbrev pub InsideFor : List ℕ → Holding → State → Type 0
InsideFor file y = InsideAs (HeldFor file y)

-- within a transaction, the holding was changed so
pub record Turned (file : List ℕ) (f : Holding → Holding) (old new : State) : Type 0 where
  pub stays : Stays old new
  pub within : StaysInside old new
  pub turns : TurnsTo (HeldFor file) (λ y. HeldFor file (f y)) old new

-- within a transaction: a fault says nothing of the store, unless no lot number is left
abbrev pub IsSureFor : {X : Type 0} → List ℕ → Option ℕ → State → State → Result X StoreFault → Type 0
IsSureFor file lot old new r = HasCleanDisk new → IfErr r (λ f. (y : Holding) → InsideFor file y old → HasLotLeft lot y → IsOutside f)

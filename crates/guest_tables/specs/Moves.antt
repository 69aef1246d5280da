-- The effect of a call on a guest's store, by the state of the connection before and after it (defined by this project). What is here
-- of any family of databases is that of `fuse_store_tables`.
use Rattle.std.specs.Prelude.{Result}
use Rattle.sqlite.specs.State.{State}
use Rattle.fuse_store_tables.specs.Moves.{RestsAs, InsideAs, TurnsTo, Takes, ServesAs, Stays, StaysInside}
use Rattle.guest_tables.specs.Content.{GuestContent, Holds}

-- no transaction is open
abbrev pub Rests : GuestContent → State → Type 0
Rests c = RestsAs (Holds c)

-- one is open
abbrev pub Inside : GuestContent → State → Type 0
Inside c = InsideAs (Holds c)

abbrev pub Turns : (GuestContent → GuestContent) → State → State → Type 0
Turns f = TurnsTo Holds (λ c. Holds (f c))

-- a step within a transaction
abbrev pub Makes : {X E : Type 0} → (GuestContent → GuestContent) → State → State → Result X E → Type 0
Makes f = Takes Holds (λ c. Holds (f c))

-- a whole transaction that leaves the store as it was where it fails
abbrev pub Serves : {X E : Type 0} → (GuestContent → GuestContent) → State → State → Result X E → Type 0
Serves f = ServesAs Holds (λ c. Holds (f c))

-- only reads that succeeded lie between the two states
pub record LookedInside (old new : State) : Type 0 where
  pub stays : Stays old new
  pub within : StaysInside old new
  pub same : Turns (λ c. c) old new

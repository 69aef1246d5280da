-- A call that looks: the disk was clean before it if it is after it.
use Rattle.std.proofs.Common.{Ok, Err, Result, OnOk, OnErr}
use Rattle.sqlite.specs.State.{State, HasCleanDisk}
use Rattle.fuse_store_tables.specs.Moves.{LookedInside, Stays}
use Rattle.fuse_store_tables.specs.inner.Following.{earlier}

pub clean_before : {X F : Type 0} (a b : State) (r : Result X F) → OnOk r (LookedInside a b) → OnErr r (Stays a b) → HasCleanDisk b → HasCleanDisk a
clean_before a b (Ok x) looks fails clean = earlier a b _ looks.stays.survives clean
clean_before a b (Err f) looks fails clean = earlier a b _ fails.survives clean

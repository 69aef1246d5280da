-- The records that a map stands for (defined by this project).
use Rattle.std.specs.Prelude.{ℕ, nat_eq}
use Rattle.std.specs.HashMap.{HashMap, get}
use Rattle.fuse_answer.specs.Said.{Said}
use Rattle.fuse_keeper.specs.Stands.{Records}

-- the records of a map
abbrev pub mapped : {S : Type 0} → HashMap ℕ Said S → Records
mapped m i = get nat_eq m i

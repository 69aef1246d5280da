-- What a store of a file system holds after the begin of a mount (defined by this project).
use Rattle.std.specs.Prelude.{[]}
use Rattle.fuse_keeper.specs.Model.{Model}
use Rattle.guest_store.specs.Holding.{Holding}

-- without records and lots, and without the state of the last mount
abbrev pub begun : {M : Model} → Holding M → Holding M
begun {M} y = record { state = M.cleared y.state; kept = []; lots = []; next_lot = y.next_lot }

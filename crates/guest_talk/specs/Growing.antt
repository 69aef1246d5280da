-- The law of records (defined by this project).
use Rattle.std.specs.Prelude.{List, ◌++◌}
use Rattle.fuse_guest.specs.Talk.{Guest}
use Rattle.guest_talk.specs.Events.{Event, AgreesWithAll}

abbrev pub RecordsGrow : Type 0
RecordsGrow = (G : Guest) (events more : List Event) → AgreesWithAll G (events ++ more) → AgreesWithAll G events

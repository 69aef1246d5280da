-- The layout, spelled out.
use Rattle.std.proofs.Common.{◌≡◌, [], refl}
use Rattle.sqlite_tied.specs.Compute.{everything}
use Rattle.guest_tables.specs.Layout.{guest_schema}
use Rattle.guest_tables.specs.inner.Shapes.{guest_tables, guest_indexes}

pub guest_is : guest_schema ≡ record { tables = guest_tables; indexes = guest_indexes; views = [] }
unfolding everything
guest_is = refl

-- Where a new store comes from (defined by this project).
use Rattle.fuse_wire.specs.declared.moment.Moment.{Moment}
use Rattle.fuse_rows.specs.declared.origin.Owner.{Owner}
use Rattle.fuse_rows.specs.declared.origin.Origin.{Origin}

-- the owner of a new store where none is named, and a store that is made at this moment then
abbrev pub superuser : Owner
superuser = record { uid = 0; gid = 0 }

abbrev pub made_at : Moment → Origin
made_at now = record { owner = superuser; made = now }

-- The plan of INIT (defined by this project): it reads nothing off the rows.
-- Not part of what is trusted: neither `done` nor the public clauses of `plan` speak of it.
use Rattle.std.specs.Prelude.{[], ◌∷◌}
use Rattle.fuse_answer.specs.Bodies.{init_bytes}
use Rattle.fuse_init.specs.declared.negotiation.Negotiated.{Negotiated}
use Rattle.fuse_init.specs.declared.negotiation.Negotiated.TheVariants.{Agreed, Again, Refused}
use Rattle.fuse_rows.specs.declared.rows.Change.TheVariants as changes
use Rattle.fuse_plan.specs.declared.planned.Planned.{Planned}
use Rattle.fuse_plan.specs.inner.Reading.{refused, told}

abbrev pub plan_init : Negotiated → Planned
plan_init (Agreed out settings) = record (told (init_bytes out)) { changes = changes.Settings settings ∷ [] }
plan_init (Again out) = told (init_bytes out)
plan_init (Refused errno) = refused errno

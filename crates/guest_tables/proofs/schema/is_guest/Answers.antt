-- The schema, spelled out.
use Rattle.std.proofs.Common.{◌≡◌, Decides, sym, subst}
use Rattle.sqlite.specs.Schema.{Schema}
use Rattle.guest_tables.proofs.Spelled.{guest_is}
use Rattle.guest_tables.proofs.schema.is_guest.Goals as goal

pub returns : goal.returns
returns c = subst (λ (s : Schema). Decides c.spells_guest.result (c.args.schema.now ≡ s)) (sym guest_is) c.spells_guest.ensures

-- The schema, spelled out.
use Rattle.std.proofs.Common.{◌≡◌, Decides, sym, subst}
use Rattle.sqlite.specs.Schema.{Schema}
use Rattle.fuse_store_tables.proofs.Spelled.{third_is}
use Rattle.fuse_store_tables.proofs.schema.is_third.Goals as goal

pub returns : goal.returns
returns c = subst (λ (s : Schema). Decides c.spells_third.result (c.args.schema.now ≡ s)) (sym third_is) c.spells_third.ensures

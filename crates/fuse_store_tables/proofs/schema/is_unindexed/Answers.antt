-- The schema, spelled out.
use Rattle.std.proofs.Common.{◌≡◌, Decides, sym, subst}
use Rattle.sqlite.specs.Schema.{Schema}
use Rattle.fuse_store_tables.proofs.Spelled.{unindexed_is}
use Rattle.fuse_store_tables.proofs.schema.is_unindexed.Goals as goal

pub returns : goal.returns
returns c = subst (λ (s : Schema). Decides c.spells_unindexed.result (c.args.schema.now ≡ s)) (sym unindexed_is) c.spells_unindexed.ensures

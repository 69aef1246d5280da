use Rattle.std.proofs.Common.{refl, ◌∙◌}
use Rattle.sqlite.specs.Held.{state}
use Rattle.fuse_store_tables.specs.declared.copied.Copied.TheVariants.{Counters}
use Rattle.fuse_store_tables.specs.declared.version.Layout.TheVariants.{Third}
use Rattle.fuse_store_tables.specs.inner.Copies.{no_rows}
use Rattle.fuse_store_tables.proofs.Filling.{fills}
use Rattle.fuse_store_tables.proofs.everyday.copy_counters.Goals as goal

pub returns : goal.returns
returns g c =
    fills Counters c.args.copies.now c.as_slice.result.now (λ _. no_rows Third) (λ k is. c.as_slice.ensures.value ∙ is.counters) (λ k. refl)
    (state g.S.Store c.args.conn.now) (state g.S.Store c.insert_all.new.conn) c.insert_all.result c.insert_all.ensures

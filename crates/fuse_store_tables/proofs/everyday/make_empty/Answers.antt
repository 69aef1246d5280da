use Rattle.sqlite.specs.Held.{state}
use Rattle.fuse_store_tables.specs.Layout.{no_schema, with_meta, third_schema}
use Rattle.fuse_store_tables.specs.Making.{IsBare}
use Rattle.fuse_store_tables.specs.declared.version.Layout.TheVariants.{Third}
use Rattle.fuse_store_tables.specs.inner.Copies.{no_rows}
use Rattle.fuse_store_tables.specs.inner.Steps.{HoldsIn}
use Rattle.fuse_store_tables.proofs.Either.{narrowed_if}
use Rattle.fuse_store_tables.proofs.Filling.{bare_third}
use Rattle.fuse_store_tables.proofs.Joining.{then_as}
use Rattle.fuse_store_tables.proofs.everyday.make_empty.Goals as goal

pub returns : goal.returns
returns g c =
    let a = state g.S.Store c.args.conn.now in
    let d = state g.S.Store c.add_xattrs.new.conn in
    narrowed_if (IsBare no_schema) (IsBare third_schema) (λ _. HoldsIn Third (no_rows Third)) a d c.add_xattrs.result
    (then_as (IsBare no_schema) (IsBare with_meta) (IsBare third_schema) a (state g.S.Store c.make_meta.new.conn) d _ c.add_xattrs.result
    c.in_ok-make_meta.ensures.made c.add_xattrs.ensures.made)
    (λ clean k at on. record { is_open = on.is_open; in_transaction = on.in_transaction; holds = bare_third k d.now on.holds })

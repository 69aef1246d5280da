use Rattle.std.proofs.Common.{◌<◌, refl, length, slice_index_or, ap, subst, arith, ◌∙◌}
use Rattle.std.proofs.lemmas.List.{length-map}
use Rattle.fuse_store_tables.specs.inner.Columns.{shown_meta}
use Rattle.fuse_store_tables.proofs.MetaLemmas.{meta_length, row_at, starts_more}
use Rattle.fuse_store_tables.proofs.meta.check_rows.Goals as goal

pub returns-then-rows-count-clause-fault : goal.returns-then-rows-count-clause-fault
returns-then-rows-count-clause-fault c = λ cs same meta. c.if-rows-count.true (ap length same ∙ length-map cs shown_meta ∙ meta_length c.args.profile 1 c.args.count cs meta)

pub returns-in-Err-clause-fault : goal.returns-in-Err-clause-fault
returns-in-Err-clause-fault c = λ cs same meta.
    let row = row_at c.args.profile 1 c.args.count cs c.rows.at c.index-rows-at.result meta (subst (λ rows. c.rows.at < length rows) same c.rows-test.true) in
    c.in-Err.ensures.fault row.0 (c.index-rows-at.is ∙ ap (λ rows. slice_index_or rows c.rows.at c.index-rows-at.result) same
    ∙ row.1.0) (omega (arith, row.1.1)) row.1.2

pub rows-preserved : goal.rows-preserved
rows-preserved c = (
  refl,
  refl,
  refl,
  omega (arith, c.rows-test.true),
  starts_more c.args.profile c.args.rows.now c.rows.at c.index-rows-at.result c.rows-test.true c.index-rows-at.is c.in-Ok.ensures.whole c.rows.invariant.4,
)

use Rattle.std.proofs.Common.{◌<◌, refl, length, slice_index_or, ap, subst, arith, ◌∙◌}
use Rattle.std.proofs.lemmas.List.{length-map}
use Rattle.guest_tables.specs.Opening.{greatest_value}
use Rattle.guest_tables.specs.inner.Columns.{shown_meta}
use Rattle.guest_tables.proofs.MetaLemmas.{meta_length, row_at, small_by, greatest_small, starts_more}
use Rattle.guest_tables.proofs.meta.check_rows.Goals as goal

pub returns-then-rows-keys-clause-fault : goal.returns-then-rows-keys-clause-fault
returns-then-rows-keys-clause-fault c = λ cs same meta.
    c.if-rows-keys.true (ap length same ∙ length-map cs shown_meta ∙ meta_length c.args.keys.now cs meta)

pub returns-in-Err-clause-fault : goal.returns-in-Err-clause-fault
returns-in-Err-clause-fault c = λ cs same meta.
    let row = row_at c.args.keys.now cs c.rows.at 0 c.index-rows-at.result meta (subst (λ rows. c.rows.at < length rows) same c.rows-test.true) in
    let key = slice_index_or c.args.keys.now c.rows.at 0 in
    c.in-Err.ensures.fault row.0 (c.index-rows-at.is ∙ ap (λ rows. slice_index_or rows c.rows.at c.index-rows-at.result) same
    ∙ row.1.0) (small_by row.0.value (greatest_value key) row.1.2 (greatest_small key)) row.1.1 row.1.2

pub rows-preserved : goal.rows-preserved
rows-preserved c = (
  refl,
  refl,
  c.rows.invariant.2,
  omega (arith, c.rows-test.true),
  starts_more c.args.keys.now c.args.rows.now c.rows.at c.index-rows-at.result _ 0 c.rows-test.true
      (subst (λ n. c.rows.at < n) c.rows.invariant.2 c.rows-test.true) c.index-rows-at.is refl c.in-Ok.ensures.whole c.rows.invariant.4,
)

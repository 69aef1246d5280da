use Rattle.std.proofs.Common.{◌≡◌, ◌<◌, ◌-◌, refl, sym, ap, subst, arith, length, slice_index_or, take_all, ◌∙◌}
use Rattle.sqlite.specs.Order.{column}
use Rattle.fuse_store_tables.specs.Clearing.{blocks_in}
use Rattle.fuse_store_tables.specs.inner.Columns.{number_in, number_of_row, shown_number}
use Rattle.fuse_store_tables.specs.inner.Steps.{read_blocks}
use Rattle.fuse_store_tables.proofs.ContentsOf.{shown_at}
use Rattle.fuse_store_tables.proofs.Lowering.{left_more, left_low}
use Rattle.fuse_store_tables.proofs.used.left_of.Goals as goal

pub returns-in-Err-clause-fault : goal.returns-in-Err-clause-fault
returns-in-Err-clause-fault c ns same =
    let n = slice_index_or ns c.extents.at 0 in
    let row : c.index-extents-at.result ≡ shown_number n =
    c.index-extents-at.is ∙ subst (λ rows. c.extents.at < length rows → slice_index_or rows c.extents.at c.index-extents-at.result ≡ shown_number n) (sym same)
    (shown_at ns c.extents.at c.index-extents-at.result) c.extents-test.true in
    c.in-Err.ensures.fault n (subst (λ r. 0 < length r) (sym row) (omega arith)) (ap (λ r. column r 0) row)

pub returns-clause-value : goal.returns-clause-value
returns-clause-value c = c.extents.invariant.3 ∙ ap (λ l. c.args.used - read_blocks c.args.layout l) (take_all c.extents.at c.args.extents.now c.extents-test.false)

pub returns-clause-small : goal.returns-clause-small
returns-clause-small c = left_low c.args.used _ c.extents.left c.extents.invariant.3

pub extents-preserved : goal.extents-preserved
extents-preserved c =
    let size = ap (blocks_in c.args.layout) (sym (ap number_in c.in-Ok.ensures.value) ∙ ap number_of_row c.index-extents-at.is) in (
      refl,
      refl,
      omega (arith, c.extents-test.true),
      c.saturating_sub-left.ensures ∙ ap (λ n. c.extents.left - n) (c.blocks_in.ensures ∙ size)
          ∙ left_more c.args.layout c.args.extents.now c.extents.at c.index-extents-at.result c.args.used c.extents.left c.extents-test.true c.extents.invariant.3,
    )

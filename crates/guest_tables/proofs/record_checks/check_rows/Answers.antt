use Rattle.std.proofs.Common.{slice_index_or, length, ◌<◌, refl, arith}
use Rattle.guest_tables.proofs.RecordChecks.{row_there, record_there, starts_more, all_well, no_kept}
use Rattle.guest_tables.proofs.record_checks.check_rows.Goals as goal

pub returns-in-Err-clause-fault : goal.returns-in-Err-clause-fault
returns-in-Err-clause-fault c = λ ks same are.
    c.in-Err.ensures.fault (slice_index_or ks c.rows.at no_kept)
    (row_there c.args.rows.now c.rows.at c.index-rows-at.result c.rows-test.true c.index-rows-at.is ks same)
    (record_there c.args.rows.now c.rows.at c.index-rows-at.result c.rows-test.true c.index-rows-at.is ks same are)

pub rows-preserved : goal.rows-preserved
rows-preserved c = (
  refl,
  omega (arith, c.rows-test.true),
  starts_more c.args.rows.now c.rows.at c.index-rows-at.result c.rows-test.true c.index-rows-at.is c.in-Ok.ensures.whole c.rows.invariant.2,
)

pub returns-clause-whole : goal.returns-clause-whole
returns-clause-whole c = λ ks same. all_well c.args.rows.now c.rows.at (omega (arith, c.rows-test.false)) c.rows.invariant.2 ks same

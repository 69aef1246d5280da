use Rattle.std.proofs.Common.{◌<◌, length, arith}
use Rattle.guest_tables.proofs.RecordChecks.{three, first_shows, second_shows, third_shows, record_read, errno_fits, body_fits, refusal_fits, fault_back}
use Rattle.guest_tables.proofs.record_checks.check_record.Goals as goal

pub returns-in_err-_id-clause-fault : goal.returns-in_err-_id-clause-fault
returns-in_err-_id-clause-fault c =
    fault_back c.args.row.now _ c.from_residual.result c.from_residual.ensures.1 (λ k is.
    let long = three c.args.row.now k is in
    c.in_err-_id.ensures.fault k.id (omega (arith, long)) (first_shows c.args.row.now k is))

pub returns-in_err-errno-clause-fault : goal.returns-in_err-errno-clause-fault
returns-in_err-errno-clause-fault c =
    fault_back c.args.row.now _ c.from_residual-in_err-errno.result c.from_residual-in_err-errno.ensures.1 (λ k is.
    let long = three c.args.row.now k is in
    c.in_err-errno.ensures.fault k.said.errno (omega (arith, long)) (second_shows c.args.row.now k is))

pub returns-in_err-len-clause-fault : goal.returns-in_err-len-clause-fault
returns-in_err-len-clause-fault c =
    fault_back c.args.row.now _ c.from_residual-in_err-len.result c.from_residual-in_err-len.ensures.1 (λ k is.
    let long = three c.args.row.now k is in
    c.in_err-len.ensures.fault (length k.said.body) (omega (arith, long)) (third_shows c.args.row.now k is))

pub returns-then-errno-gt-GREATEST-clause-fault : goal.returns-then-errno-gt-GREATEST-clause-fault
returns-then-errno-gt-GREATEST-clause-fault c k is fits =
    absurd (errno_fits c.args.row.now k is c.in_ok-_id._id c.in_ok-errno.errno c.in_ok-len.len c.in_ok-_id.ensures.value c.in_ok-errno.ensures.value
    c.in_ok-len.ensures.value fits c.if-errno-gt-GREATEST.true)

pub returns-then-len-gt-LONGEST-clause-fault : goal.returns-then-len-gt-LONGEST-clause-fault
returns-then-len-gt-LONGEST-clause-fault c k is fits =
    absurd (body_fits c.args.row.now k is c.in_ok-_id._id c.in_ok-errno.errno c.in_ok-len.len c.in_ok-_id.ensures.value c.in_ok-errno.ensures.value
    c.in_ok-len.ensures.value fits c.if-len-gt-LONGEST.true)

pub returns-then-errno-eq0-clause-whole : goal.returns-then-errno-eq0-clause-whole
returns-then-errno-eq0-clause-whole c k is =
    record_read c.args.row.now k is c.in_ok-_id._id c.in_ok-errno.errno c.in_ok-len.len c.in_ok-_id.ensures.value c.in_ok-errno.ensures.value
    c.in_ok-len.ensures.value c.in_ok-_id.ensures.small (omega (arith, c.if-errno-gt-GREATEST.false)) (omega (arith, c.if-len-gt-LONGEST.false))
    (λ some. absurd (some c.if-errno-eq0.true))

pub returns-then-len-ne0-clause-fault : goal.returns-then-len-ne0-clause-fault
returns-then-len-ne0-clause-fault c k is fits =
    absurd (c.if-len-ne0.true (refusal_fits c.args.row.now k is c.in_ok-_id._id c.in_ok-errno.errno c.in_ok-len.len c.in_ok-_id.ensures.value c.in_ok-errno.ensures.value
    c.in_ok-len.ensures.value fits c.if-errno-eq0.false))

pub returns-clause-whole : goal.returns-clause-whole
returns-clause-whole c k is =
    record_read c.args.row.now k is c.in_ok-_id._id c.in_ok-errno.errno c.in_ok-len.len c.in_ok-_id.ensures.value c.in_ok-errno.ensures.value
    c.in_ok-len.ensures.value c.in_ok-_id.ensures.small (omega (arith, c.if-errno-gt-GREATEST.false)) (omega (arith, c.if-len-gt-LONGEST.false))
    (λ some. c.if-len-ne0.false)

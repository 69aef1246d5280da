use Rattle.std.proofs.Common.{◌<◌, length, arith}
use Rattle.guest_tables.proofs.FoundValues.{are_agreed, none_agreed, some_agreed, fault_back}
use Rattle.guest_tables.proofs.found.read_settings.Goals as goal

pub returns-then-agreed-eq0-clause-value : goal.returns-then-agreed-eq0-clause-value
returns-then-agreed-eq0-clause-value c k meta same =
    none_agreed k meta c.in_ok-agreed.agreed (c.in_ok-agreed.ensures.value k.counters same (are_agreed k meta).agreed_bits) c.if-agreed-eq0.true

pub returns-clause-value : goal.returns-clause-value
returns-clause-value c k meta same =
    let p = are_agreed k meta in
    some_agreed k meta c.in_ok-agreed.agreed (c.in_ok-agreed.ensures.value k.counters same p.agreed_bits) c.in_ok-minor.minor
    c.in_ok-max_readahead.max_readahead c.in_ok-flags.flags c.if-agreed-eq0.false (c.in_ok-minor.ensures.value k.counters same p.minor_bits)
    (c.in_ok-max_readahead.ensures.value k.counters same p.readahead_bits) (c.in_ok-flags.ensures.value k.counters same p.flags_bits)

pub returns-in_err-agreed-clause-fault : goal.returns-in_err-agreed-clause-fault
returns-in_err-agreed-clause-fault c =
    fault_back c.args.rows.now _ c.from_residual.result c.from_residual.ensures.1 (λ k meta same.
    let p = are_agreed k meta in
    let long = p.long in
    c.in_err-agreed.ensures.fault k.counters same (omega (arith, long)))

pub returns-in_err-minor-clause-fault : goal.returns-in_err-minor-clause-fault
returns-in_err-minor-clause-fault c =
    fault_back c.args.rows.now _ c.from_residual-in_err-minor.result c.from_residual-in_err-minor.ensures.1 (λ k meta same.
    let p = are_agreed k meta in
    let long = p.long in
    c.in_err-minor.ensures.fault k.counters same (omega (arith, long)) p.minor_bits)

pub returns-in_err-max_readahead-clause-fault : goal.returns-in_err-max_readahead-clause-fault
returns-in_err-max_readahead-clause-fault c =
    fault_back c.args.rows.now _ c.from_residual-in_err-max_readahead.result c.from_residual-in_err-max_readahead.ensures.1 (λ k meta same.
    let p = are_agreed k meta in
    let long = p.long in
    c.in_err-max_readahead.ensures.fault k.counters same (omega (arith, long)) p.readahead_bits)

pub returns-in_err-flags-clause-fault : goal.returns-in_err-flags-clause-fault
returns-in_err-flags-clause-fault c =
    fault_back c.args.rows.now _ c.from_residual-in_err-flags.result c.from_residual-in_err-flags.ensures.1 (λ k meta same.
    let p = are_agreed k meta in
    let long = p.long in
    c.in_err-flags.ensures.fault k.counters same (omega (arith, long)))

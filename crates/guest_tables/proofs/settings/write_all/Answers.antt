use Rattle.guest_tables.specs.Content.{Holds, set_counter}
use Rattle.guest_tables.specs.inner.Steps.{agreement_set, settings_set}
use Rattle.guest_tables.proofs.any_schema.Joining.{fails_next}
use Rattle.guest_tables.proofs.any_schema.Within.{within_then, within_fails, within_failed}
use Rattle.guest_tables.proofs.Joining.{makes_then, made_from}
use Rattle.guest_tables.proofs.settings.write_all.Goals as goal

pub returns-in_err-write_counter-clause-made : goal.returns-in_err-write_counter-clause-made
returns-in_err-write_counter-clause-made g c =
    let agreement = agreement_set c.args.agreed c.args.minor c.args.max_readahead in
    fails_next Holds (λ k. Holds (agreement k)) (λ k. Holds (set_counter 10 c.args.flags (agreement k)))
    (λ k. Holds (settings_set c.args.agreed c.args.minor c.args.max_readahead c.args.flags c.args.pledged k)) _ _ _ _ _ _ c.in_ok-write_agreed.ensures.made
    (made_from agreement (set_counter 10 c.args.flags) _ _ _ c.in_err-write_counter.ensures.made) c.from_residual-in_err-write_counter.ensures.0

pub returns-clause-made : goal.returns-clause-made
returns-clause-made g c =
    let agreement = agreement_set c.args.agreed c.args.minor c.args.max_readahead in
    makes_then (λ k. set_counter 10 c.args.flags (agreement k)) (set_counter 17 c.args.pledged) _ _ _ _ _
    (makes_then agreement (set_counter 10 c.args.flags) _ _ _ _ _ c.in_ok-write_agreed.ensures.made c.in_ok-write_counter.ensures.made)
    c.write_counter-2.ensures.made

pub returns-in_err-write_agreed-clause-within : goal.returns-in_err-write_agreed-clause-within
returns-in_err-write_agreed-clause-within g c = within_failed _ _ _ _ c.in_err-write_agreed.ensures.within c.from_residual.ensures.0

pub returns-in_err-write_counter-clause-within : goal.returns-in_err-write_counter-clause-within
returns-in_err-write_counter-clause-within g c =
    within_fails _ _ _ _ _ _ c.in_ok-write_agreed.ensures.within c.in_err-write_counter.ensures.within c.from_residual-in_err-write_counter.ensures.0

pub returns-clause-within : goal.returns-clause-within
returns-clause-within g c =
    within_then _ _ _ _ _ (within_then _ _ _ _ _ c.in_ok-write_agreed.ensures.within c.in_ok-write_counter.ensures.within) c.write_counter-2.ensures.within

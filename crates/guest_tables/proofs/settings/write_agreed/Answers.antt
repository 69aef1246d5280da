use Rattle.guest_tables.specs.Content.{Holds, set_counter}
use Rattle.guest_tables.specs.inner.Steps.{agreement_set}
use Rattle.guest_tables.proofs.any_schema.Joining.{fails_next}
use Rattle.guest_tables.proofs.any_schema.Within.{within_then, within_fails, within_failed}
use Rattle.guest_tables.proofs.Joining.{makes_then, made_from}
use Rattle.guest_tables.proofs.settings.write_agreed.Goals as goal

pub returns-in_err-write_counter-2-clause-made : goal.returns-in_err-write_counter-2-clause-made
returns-in_err-write_counter-2-clause-made g c =
    fails_next Holds (λ k. Holds (set_counter 7 c.args.agreed k)) (λ k. Holds (set_counter 8 c.args.minor (set_counter 7 c.args.agreed k)))
    (λ k. Holds (agreement_set c.args.agreed c.args.minor c.args.max_readahead k)) _ _ _ _ _ _ c.in_ok-write_counter.ensures.made
    (made_from (set_counter 7 c.args.agreed) (set_counter 8 c.args.minor) _ _ _ c.in_err-write_counter-2.ensures.made) c.from_residual-in_err-write_counter-2.ensures.0

pub returns-clause-made : goal.returns-clause-made
returns-clause-made g c =
    makes_then (λ k. set_counter 8 c.args.minor (set_counter 7 c.args.agreed k)) (set_counter 9 c.args.max_readahead) _ _ _ _ _
    (makes_then (set_counter 7 c.args.agreed) (set_counter 8 c.args.minor) _ _ _ _ _ c.in_ok-write_counter.ensures.made c.in_ok-write_counter-2.ensures.made)
    c.write_counter-3.ensures.made

pub returns-in_err-write_counter-clause-within : goal.returns-in_err-write_counter-clause-within
returns-in_err-write_counter-clause-within g c = within_failed _ _ _ _ c.in_err-write_counter.ensures.within c.from_residual.ensures.0

pub returns-in_err-write_counter-2-clause-within : goal.returns-in_err-write_counter-2-clause-within
returns-in_err-write_counter-2-clause-within g c =
    within_fails _ _ _ _ _ _ c.in_ok-write_counter.ensures.within c.in_err-write_counter-2.ensures.within c.from_residual-in_err-write_counter-2.ensures.0

pub returns-clause-within : goal.returns-clause-within
returns-clause-within g c =
    within_then _ _ _ _ _ (within_then _ _ _ _ _ c.in_ok-write_counter.ensures.within c.in_ok-write_counter-2.ensures.within) c.write_counter-3.ensures.within

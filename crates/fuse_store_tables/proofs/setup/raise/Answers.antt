use Rattle.std.proofs.Common.{sym, ◌∙◌}
use Rattle.sqlite.specs.Held.{state}
use Rattle.fuse_store_tables.specs.Opening.{IsOpened}
use Rattle.fuse_store_tables.specs.inner.Steps.{IsSecondOf}
use Rattle.fuse_store_tables.proofs.Nothing.{nothing_within}
use Rattle.fuse_store_tables.proofs.Raising.{stays_plain, raises, sure_raised, stays_not, reads_none, within_not, ok_any}
use Rattle.fuse_store_tables.proofs.setup.raise.Goals as goal

pub returns-in-Plain-clause-made : goal.returns-in-Plain-clause-made
returns-in-Plain-clause-made g c = stays_plain c.args.profile c.args.number (state g.S.Store c.args.conn.now) c.in-Plain.is

pub returns-in-Some-clause-made : goal.returns-in-Some-clause-made
returns-in-Some-clause-made g c =
    raises c.args.profile c.args.number c.in-Some.number (state g.S.Store c.args.conn.now) (state g.S.Store c.to_third.new.conn) c.to_third.result
    c.in-Some.is c.in-Everyday.is c.to_third.ensures.made

pub returns-in-Some-clause-fault : goal.returns-in-Some-clause-fault
returns-in-Some-clause-fault g c =
    sure_raised c.args.profile (state g.S.Store c.args.conn.now) (state g.S.Store c.to_third.new.conn) c.to_third.result c.in-Everyday.is c.to_third.ensures.fault

pub returns-in-None-clause-made : goal.returns-in-None-clause-made
returns-in-None-clause-made g c = stays_not (IsSecondOf c.args.profile) (IsOpened c.args.number) (state g.S.Store c.args.conn.now) _

pub returns-in-Plain-clause-reads : goal.returns-in-Plain-clause-reads
returns-in-Plain-clause-reads g c = λ plain. reads_none (state g.S.Store c.args.conn.now)

pub returns-in-Some-clause-reads : goal.returns-in-Some-clause-reads
returns-in-Some-clause-reads g c = λ plain. absurd (let clash = sym c.in-Everyday.is ∙ plain in cc)

pub returns-in-None-clause-reads : goal.returns-in-None-clause-reads
returns-in-None-clause-reads g c = λ plain. absurd (let clash = sym c.in-Everyday.is ∙ plain in cc)

pub returns-in-Plain-clause-within : goal.returns-in-Plain-clause-within
returns-in-Plain-clause-within g c = nothing_within (state g.S.Store c.args.conn.now)

pub returns-in-None-clause-within : goal.returns-in-None-clause-within
returns-in-None-clause-within g c = within_not (state g.S.Store c.args.conn.now) _

pub returns-in-Some-clause-numbered : goal.returns-in-Some-clause-numbered
returns-in-Some-clause-numbered g c =
    ok_any c.to_third.result (λ none. absurd (let clash = sym c.in-Some.is ∙ none in cc))

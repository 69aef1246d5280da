use Rattle.sqlite.specs.Held.{state}
use Rattle.fuse_store_tables.specs.Making.{IsBare}
use Rattle.guest_tables.proofs.any_schema.Either.{narrowed_if}
use Rattle.guest_tables.specs.Layout.{guest_schema}
use Rattle.guest_tables.specs.Content.{Holds}
use Rattle.guest_tables.specs.Making.{IsNew, new_content}
use Rattle.guest_tables.proofs.Fitting.{fit_new}
use Rattle.guest_tables.proofs.MakingLemmas.{fill}
use Rattle.guest_tables.proofs.creation.fill.Goals as goal

pub returns : goal.returns
returns g c =
    let a = state g.S.Store c.args.conn.now in
    let b = state g.S.Store c.run.new.conn in
    narrowed_if (IsBare guest_schema) (λ _. Holds (new_content c.args.number)) (IsNew c.args.number) a b c.run.result
    (fill c.args.number a b c.run.result (rw c.bits-values.ensures at c.run.ensures.runs) (rw c.bits-values.ensures at c.run.ensures.survives))
    (λ clean k at on. record {
      is_open = on.is_open;
      in_transaction = on.in_transaction;
      holds = record { holds = on.holds; fit = fit_new c.args.number c.requires };
    })

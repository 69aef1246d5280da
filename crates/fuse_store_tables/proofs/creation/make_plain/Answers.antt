use Rattle.std.specs.Prelude.{None}
use Rattle.std.proofs.Common.{subst}
use Rattle.sqlite.specs.Held.{state}
use Rattle.fuse_store_tables.specs.Layout.{no_schema}
use Rattle.fuse_store_tables.specs.Content.{with_node}
use Rattle.fuse_store_tables.specs.Moves.{Makes}
use Rattle.fuse_store_tables.specs.declared.version.Layout.TheVariants.{Second}
use Rattle.fuse_store_tables.specs.Making.{IsBare, IsNew, root}
use Rattle.fuse_store_tables.specs.inner.Steps.{HasCounters, HasRoot}
use Rattle.fuse_store_tables.proofs.Joining.{then_as}
use Rattle.fuse_store_tables.proofs.Either.{narrowed_if}
use Rattle.fuse_store_tables.proofs.Fitting.{fit_new}
use Rattle.fuse_store_tables.proofs.Volumes.{roots}
use Rattle.fuse_store_tables.proofs.Within.{within_then, within_failed}
use Rattle.fuse_store_tables.specs.Refusing.{IsNameTaken}
use Rattle.fuse_store_tables.specs.inner.Following.{earlier}
use Rattle.fuse_store_tables.proofs.Taken.{passed_on}
use Rattle.fuse_store_tables.proofs.creation.make_plain.Goals as goal

pub returns-clause-made : goal.returns-clause-made
returns-clause-made g c =
    let a = state g.S.Store c.args.conn.now in
    let b = state g.S.Store c.make_tables.new.conn in
    let d = state g.S.Store c.write_node.new.conn in
    let made : Makes (with_node (root Second c.args.from)) b d c.write_node.result =
    subst (λ n. Makes (with_node n) b d c.write_node.result) c.root_row-root.ensures.value c.write_node.ensures.made in
    let all =
    then_as (IsBare no_schema) (HasCounters Second) (HasRoot Second c.args.from) a b d _ c.write_node.result c.in_ok-make_tables.ensures.made
    (roots Second c.args.from b d c.write_node.result made) in
    narrowed_if (IsBare no_schema) (HasRoot Second c.args.from) (IsNew None c.args.from) a d c.write_node.result all
    (λ clean k at on. record {
      is_open = on.is_open;
      in_transaction = on.in_transaction;
      holds = record { holds = on.holds; fit = fit_new None c.args.from tt };
    })

pub returns-in_err-make_tables-clause-within : goal.returns-in_err-make_tables-clause-within
returns-in_err-make_tables-clause-within g c = within_failed _ _ _ _ c.in_err-make_tables.ensures.within c.from_residual.ensures.0

pub returns-clause-within : goal.returns-clause-within
returns-clause-within g c = within_then _ _ _ _ _ c.in_ok-make_tables.ensures.within c.write_node.ensures.within

pub returns-in_err-make_tables-clause-taken : goal.returns-in_err-make_tables-clause-taken
returns-in_err-make_tables-clause-taken g c = λ clean has.
    passed_on _ c.from_residual.result IsNameTaken c.from_residual.ensures.1 (c.in_err-make_tables.ensures.taken clean has)

pub returns-clause-taken : goal.returns-clause-taken
returns-clause-taken g c = λ clean has.
    absurd (c.in_ok-make_tables.ensures.taken (earlier (state g.S.Store c.make_tables.new.conn) (state g.S.Store c.write_node.new.conn) _
    c.write_node.ensures.within.survives clean) has)

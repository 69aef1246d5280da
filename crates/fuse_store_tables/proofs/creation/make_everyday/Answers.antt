use Rattle.std.specs.Prelude.{Some}
use Rattle.std.proofs.Common.{Ok, Err}
use Rattle.sqlite.specs.Held.{state}
use Rattle.fuse_store_tables.specs.Layout.{no_schema}
use Rattle.fuse_store_tables.specs.declared.version.Layout.TheVariants.{Third}
use Rattle.fuse_store_tables.specs.Making.{IsBare, IsNew}
use Rattle.fuse_store_tables.specs.inner.Steps.{HasCounters, HasRoot}
use Rattle.fuse_store_tables.proofs.Joining.{then_as, fails_next, fails_alone}
use Rattle.fuse_store_tables.proofs.Volumes.{roots, volumes}
use Rattle.fuse_store_tables.proofs.Within.{within_then, within_fails, within_failed}
use Rattle.fuse_store_tables.proofs.creation.make_everyday.Goals as goal

pub returns-in_err-make_third-clause-made : goal.returns-in_err-make_third-clause-made
returns-in_err-make_third-clause-made g c =
    fails_alone (IsBare no_schema) (HasCounters Third) (IsNew (Some c.args.volume) c.args.from) _ _ _ c.from_residual.result c.in_err-make_third.ensures.made
    c.from_residual.ensures.0

pub returns-in_err-write_node-clause-made : goal.returns-in_err-write_node-clause-made
returns-in_err-write_node-clause-made g c =
    let b = state g.S.Store c.make_third.new.conn in
    let d = state g.S.Store c.write_node.new.conn in
    fails_next (IsBare no_schema) (HasCounters Third) (HasRoot Third c.args.from) (IsNew (Some c.args.volume) c.args.from) (state g.S.Store c.args.conn.now) b d _ _
    c.from_residual-in_err-write_node.result c.in_ok-make_third.ensures.made
    (roots Third c.args.from b d (Err _) (rw c.root_row-root.ensures.value at c.in_err-write_node.ensures.made))
    c.from_residual-in_err-write_node.ensures.0

pub returns-clause-made : goal.returns-clause-made
returns-clause-made g c =
    let a = state g.S.Store c.args.conn.now in
    let b = state g.S.Store c.make_third.new.conn in
    let d = state g.S.Store c.write_node.new.conn in
    let e = state g.S.Store c.add_volume.new.conn in
    let node = roots Third c.args.from b d (Ok _) (rw c.root_row-root.ensures.value at c.in_ok-write_node.ensures.made) in
    let first = then_as (IsBare no_schema) (HasCounters Third) (HasRoot Third c.args.from) a b d _ (Ok _) c.in_ok-make_third.ensures.made node in
    then_as (IsBare no_schema) (HasRoot Third c.args.from) (IsNew (Some c.args.volume) c.args.from) a d e _ c.add_volume.result first
    (volumes c.args.volume c.args.from (record { capacity = c.requires.capacity; number = c.requires.number }) d e c.add_volume.result c.add_volume.ensures.made)

pub returns-in_err-make_third-clause-within : goal.returns-in_err-make_third-clause-within
returns-in_err-make_third-clause-within g c = within_failed _ _ _ _ c.in_err-make_third.ensures.within c.from_residual.ensures.0

pub returns-in_err-write_node-clause-within : goal.returns-in_err-write_node-clause-within
returns-in_err-write_node-clause-within g c =
    within_fails _ _ _ _ _ _ c.in_ok-make_third.ensures.within c.in_err-write_node.ensures.within c.from_residual-in_err-write_node.ensures.0

pub returns-clause-within : goal.returns-clause-within
returns-clause-within g c =
    within_then _ _ _ _ _ (within_then _ _ _ _ _ c.in_ok-make_third.ensures.within c.in_ok-write_node.ensures.within) c.add_volume.ensures.within

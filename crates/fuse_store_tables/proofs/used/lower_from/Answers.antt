use Rattle.std.proofs.Common.{Ok, ◌∙◌}
use Rattle.sqlite.specs.Held.{state}
use Rattle.fuse_store_tables.specs.Content.{Holds, set_counter}
use Rattle.fuse_store_tables.specs.inner.Steps.{lowered_from, unnamed_extents}
use Rattle.fuse_store_tables.proofs.Joining.{makes_as_too, fails_looked, outside_back, sure_here, fails_next}
use Rattle.fuse_store_tables.proofs.Lowering.{left_is}
use Rattle.fuse_store_tables.proofs.Laid.{known_looks, known_inside}
use Rattle.fuse_store_tables.proofs.Within.{within_then, within_fails, within_failed, within_told}
use Rattle.fuse_store_tables.proofs.used.lower_from.Goals as goal

pub returns-in_err-left-clause-made : goal.returns-in_err-left-clause-made
returns-in_err-left-clause-made g c =
    fails_looked (lowered_from c.args.used) _ _ _ c.from_residual-in_err-left.result (known_looks c.layout_of-layout.result (state g.S.Store c.args.conn.now) (state g.S.Store c.select_unnamed_extents.new.conn) (Ok c.in_ok-extents.extents)
    c.layout_of-layout.ensures.value c.in_ok-extents.ensures.made) c.from_residual-in_err-left.ensures.0

pub returns-in_err-write_counter-clause-made : goal.returns-in_err-write_counter-clause-made
returns-in_err-write_counter-clause-made g c =
    fails_next Holds Holds (λ k. Holds (set_counter 14 c.in_ok-left.left k)) (λ k. Holds (lowered_from c.args.used k)) _ _ _ _ _ _
    (known_looks c.layout_of-layout.result (state g.S.Store c.args.conn.now) (state g.S.Store c.select_unnamed_extents.new.conn) (Ok c.in_ok-extents.extents)
    c.layout_of-layout.ensures.value c.in_ok-extents.ensures.made) c.in_err-write_counter.ensures.made c.from_residual-in_err-write_counter.ensures.0

pub returns-clause-made : goal.returns-clause-made
returns-clause-made g c =
    let all =
    makes_as_too (set_counter 14 c.in_ok-left.left) (lowered_from c.args.used) (state g.S.Store c.args.conn.now)
    (state g.S.Store c.select_unnamed_extents.new.conn) (state g.S.Store c.write_counter.new.conn) _ (Ok _) (known_looks c.layout_of-layout.result (state g.S.Store c.args.conn.now) (state g.S.Store c.select_unnamed_extents.new.conn) (Ok c.in_ok-extents.extents)
    c.layout_of-layout.ensures.value c.in_ok-extents.ensures.made)
    (λ k clean at. left_is c.layout_of-layout.result c.as_slice.result.now k c.args.used c.in_ok-left.left (c.layout_of-layout.ensures.value k at.holds)
    (c.as_slice.ensures.value
    ∙ c.in_ok-extents.ensures.found clean k (known_inside c.layout_of-layout.result (state g.S.Store c.args.conn.now) c.layout_of-layout.ensures.value k at))
    c.in_ok-left.ensures.value) c.in_ok-write_counter.ensures.made in
    record { stays = all.stays; within = all.within; turns = all.turns }

pub returns-in_err-left-clause-fault : goal.returns-in_err-left-clause-fault
returns-in_err-left-clause-fault g c =
    sure_here Holds (state g.S.Store c.args.conn.now) (state g.S.Store c.select_unnamed_extents.new.conn) c.from_residual-in_err-left.result
    (λ clean k at. outside_back _ c.from_residual-in_err-left.result c.from_residual-in_err-left.ensures.1
    (c.in_err-left.ensures.fault (unnamed_extents c.layout_of-layout.result k.nodes) (c.as_slice.ensures.value ∙ c.in_ok-extents.ensures.found clean k
    (known_inside c.layout_of-layout.result (state g.S.Store c.args.conn.now) c.layout_of-layout.ensures.value k at))))

pub returns-in_err-extents-clause-within : goal.returns-in_err-extents-clause-within
returns-in_err-extents-clause-within g c = within_failed _ _ _ _ c.in_err-extents.ensures.within c.from_residual.ensures.0

pub returns-in_err-left-clause-within : goal.returns-in_err-left-clause-within
returns-in_err-left-clause-within g c = within_told _ _ _ _ c.in_ok-extents.ensures.within

pub returns-in_err-write_counter-clause-within : goal.returns-in_err-write_counter-clause-within
returns-in_err-write_counter-clause-within g c =
    within_fails _ _ _ _ _ _ c.in_ok-extents.ensures.within c.in_err-write_counter.ensures.within c.from_residual-in_err-write_counter.ensures.0

pub returns-clause-within : goal.returns-clause-within
returns-clause-within g c = within_told _ _ _ _ (within_then _ _ _ _ (Ok _) c.in_ok-extents.ensures.within c.in_ok-write_counter.ensures.within)

use Rattle.std.proofs.Common.{Ok, ap}
use Rattle.sqlite.specs.Held.{state}
use Rattle.fuse_store_tables.specs.Content.{set_counter}
use Rattle.fuse_store_tables.specs.inner.Steps.{with_nodes_counted}
use Rattle.fuse_store_tables.proofs.Joining.{makes_as_too}
use Rattle.fuse_store_tables.proofs.Within.{within_then, within_fails, within_failed, within_told}
use Rattle.fuse_store_tables.proofs.mount.recount.Goals as goal

pub returns-clause-counted : goal.returns-clause-counted
returns-clause-counted g c =
    let all =
    makes_as_too (set_counter 5 c.in_ok-count.count) with_nodes_counted (state g.S.Store c.args.conn.now) (state g.S.Store c.count_nodes.new.conn)
    (state g.S.Store c.write_counter.new.conn) _ (Ok _) c.in_ok-count.ensures.made
    (λ k clean at. ap (λ n. set_counter 5 n k) (c.in_ok-count.ensures.value clean k at)) c.in_ok-write_counter.ensures.made in
    record { stays = all.stays; within = all.within; turns = all.turns }

pub returns-in_err-count-clause-within : goal.returns-in_err-count-clause-within
returns-in_err-count-clause-within g c = within_failed _ _ _ _ c.in_err-count.ensures.within c.from_residual.ensures.0

pub returns-in_err-write_counter-clause-within : goal.returns-in_err-write_counter-clause-within
returns-in_err-write_counter-clause-within g c =
    within_fails _ _ _ _ _ _ c.in_ok-count.ensures.within c.in_err-write_counter.ensures.within c.from_residual-in_err-write_counter.ensures.0

pub returns-clause-within : goal.returns-clause-within
returns-clause-within g c =
    within_told _ _ _ _ (within_then _ _ _ _ (Ok _) c.in_ok-count.ensures.within c.in_ok-write_counter.ensures.within)

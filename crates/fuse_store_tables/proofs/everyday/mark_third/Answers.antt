use Rattle.sqlite.specs.Held.{state}
use Rattle.fuse_store_tables.specs.Content.{set_counter, with_counter}
use Rattle.fuse_store_tables.proofs.Joining.{makes_then}
use Rattle.fuse_store_tables.proofs.everyday.mark_third.Goals as goal

pub returns : goal.returns
returns g c =
    let a = state g.S.Store c.args.conn.now in
    let b = state g.S.Store c.write_counter.new.conn in
    let d = state g.S.Store c.write_counter-2.new.conn in
    let e = state g.S.Store c.insert_counter.new.conn in
    makes_then (λ k. set_counter 14 c.args.used (set_counter 1 3 k)) (with_counter 15 c.args.number) a d e _ c.insert_counter.result
    (makes_then (set_counter 1 3) (set_counter 14 c.args.used) a b d _ _ c.in_ok-write_counter.ensures.made c.in_ok-write_counter-2.ensures.made)
    c.insert_counter.ensures.made

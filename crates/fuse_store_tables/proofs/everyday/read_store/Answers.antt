use Rattle.std.proofs.Common.{◌≡◌, List, map, Ok, Err}
use Rattle.std.specs.Prelude.{⊤}
use Rattle.sqlite.specs.Held.{state}
use Rattle.fuse_store_tables.specs.inner.Copies.{IsCopyOf}
use Rattle.fuse_store_tables.proofs.SecondReads.{looks_then, looks_told, looks_fail}
use Rattle.fuse_store_tables.proofs.everyday.read_store.Goals as goal

pub returns-in_err-counters : goal.returns-in_err-counters
returns-in_err-counters g c =
    looks_fail (λ _. ⊤) _ (λ k s. IsCopyOf s k) (state g.S.Store c.args.conn.now) (state g.S.Store c.read_two.new.conn) _ c.from_residual.result
    c.from_residual.ensures.1 c.in_err-counters.ensures

pub returns-in_err-blocks : goal.returns-in_err-blocks
returns-in_err-blocks g c =
    looks_fail (λ _. ⊤) _ (λ k s. IsCopyOf s k) (state g.S.Store c.args.conn.now) (state g.S.Store c.read_two-2.new.conn) _ c.from_residual-in_err-blocks.result
    c.from_residual-in_err-blocks.ensures.1
    (looks_then (λ _. ⊤) (λ _. ⊤) _ _ (state g.S.Store c.args.conn.now) (state g.S.Store c.read_two.new.conn) (state g.S.Store c.read_two-2.new.conn) _ (Err _)
    c.in_ok-counters.ensures (λ k known found. tt) c.in_err-blocks.ensures)

pub returns-in_err-lots : goal.returns-in_err-lots
returns-in_err-lots g c =
    let two = looks_then (λ _. ⊤) (λ _. ⊤) _ _ (state g.S.Store c.args.conn.now) (state g.S.Store c.read_two.new.conn) (state g.S.Store c.read_two-2.new.conn) _ (Ok _)
    c.in_ok-counters.ensures (λ k known found. tt) c.in_ok-blocks.ensures in
    looks_fail (λ _. ⊤) _ (λ k s. IsCopyOf s k) (state g.S.Store c.args.conn.now) (state g.S.Store c.read_two-3.new.conn) _ c.from_residual-in_err-lots.result
    c.from_residual-in_err-lots.ensures.1
    (looks_then (λ _. ⊤) (λ _. ⊤) _ _ (state g.S.Store c.args.conn.now) (state g.S.Store c.read_two-2.new.conn) (state g.S.Store c.read_two-3.new.conn) _ (Err _)
    two (λ k known found. tt) c.in_err-lots.ensures)

pub returns-in_err-nodes : goal.returns-in_err-nodes
returns-in_err-nodes g c =
    let two = looks_then (λ _. ⊤) (λ _. ⊤) _ _ (state g.S.Store c.args.conn.now) (state g.S.Store c.read_two.new.conn) (state g.S.Store c.read_two-2.new.conn) _ (Ok _)
    c.in_ok-counters.ensures (λ k known found. tt) c.in_ok-blocks.ensures in
    let three = looks_then (λ _. ⊤) (λ _. ⊤) _ _ (state g.S.Store c.args.conn.now) (state g.S.Store c.read_two-2.new.conn) (state g.S.Store c.read_two-3.new.conn) _ (Ok _)
    two (λ k known found. tt) c.in_ok-lots.ensures in
    looks_fail (λ _. ⊤) _ (λ k s. IsCopyOf s k) (state g.S.Store c.args.conn.now) (state g.S.Store c.read_nodes.new.conn) _ c.from_residual-in_err-nodes.result
    c.from_residual-in_err-nodes.ensures.1
    (looks_then (λ _. ⊤) (λ _. ⊤) _ _ (state g.S.Store c.args.conn.now) (state g.S.Store c.read_two-3.new.conn) (state g.S.Store c.read_nodes.new.conn) _ (Err _)
    three (λ k known found. tt) c.in_err-nodes.ensures)

pub returns : goal.returns
returns g c =
    let two = looks_then (λ _. ⊤) (λ _. ⊤) _ _ (state g.S.Store c.args.conn.now) (state g.S.Store c.read_two.new.conn) (state g.S.Store c.read_two-2.new.conn) _ (Ok _)
    c.in_ok-counters.ensures (λ k known found. tt) c.in_ok-blocks.ensures in
    let three = looks_then (λ _. ⊤) (λ _. ⊤) _ _ (state g.S.Store c.args.conn.now) (state g.S.Store c.read_two-2.new.conn) (state g.S.Store c.read_two-3.new.conn) _ (Ok _)
    two (λ k known found. tt) c.in_ok-lots.ensures in
    let four = looks_then (λ _. ⊤) (λ _. ⊤) _ _ (state g.S.Store c.args.conn.now) (state g.S.Store c.read_two-3.new.conn) (state g.S.Store c.read_nodes.new.conn) _ (Ok _)
    three (λ k known found. tt) c.in_ok-nodes.ensures in
    looks_told (λ _. ⊤) _ (λ k s. IsCopyOf s k) (state g.S.Store c.args.conn.now) (state g.S.Store c.read_nodes.new.conn) _ _
    (λ k known found. record {
      counters = found.0.0.0.0;
      entries = found.0.0.0.1;
      blocks = found.0.0.1.0;
      handles = found.0.0.1.1;
      lots = found.0.1.0;
      records = found.0.1.1;
      nodes = found.1.0;
      added = found.1.1;
    }) four

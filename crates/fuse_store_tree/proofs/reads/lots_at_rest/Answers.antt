use Rattle.std.proofs.Common.{◌≡◌, ap, length, ◌∙◌}
use Rattle.sqlite.specs.Held.{state}
use Rattle.fuse_store_tree.proofs.Rests.{rests_for, describes_for, safe_for}
use Rattle.fuse_store_tree.proofs.reads.lots_at_rest.Goals as goal

pub returns-clause-serves : goal.returns-clause-serves
returns-clause-serves g c file = rests_for file (state g.S.Store c.args.conn.now) (state g.S.Store c.count_lots.new.conn) c.count_lots.result c.count_lots.ensures.rests

pub returns-clause-value : goal.returns-clause-value
returns-clause-value g c =
    describes_for (state g.S.Store c.args.conn.now) (state g.S.Store c.count_lots.new.conn) c.count_lots.result (λ n k. n ≡ length k.lots)
    (λ n y. n ≡ length y.lots)
    (λ file n y at is. is ∙ ap length at.holds.held.2.lots) c.count_lots.ensures.value

pub returns-clause-fault : goal.returns-clause-fault
returns-clause-fault g c file = safe_for file (state g.S.Store c.args.conn.now) (state g.S.Store c.count_lots.new.conn) c.count_lots.result c.count_lots.ensures.fault

pub returns-clause-open : goal.returns-clause-open
returns-clause-open g c = c.count_lots.ensures.open

pub returns-clause-reads : goal.returns-clause-reads
returns-clause-reads g c = c.count_lots.ensures.reads

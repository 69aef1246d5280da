use Rattle.std.proofs.Common.{◌≡◌, ap, length, ◌∙◌}
use Rattle.sqlite.specs.Held.{state}
use Rattle.fuse_store_tree.proofs.Rests.{rests_for, describes_for, safe_for}
use Rattle.fuse_store_tree.proofs.reads.records_at_rest.Goals as goal

pub returns-clause-serves : goal.returns-clause-serves
returns-clause-serves g c file = rests_for file (state g.S.Store c.args.conn.now) (state g.S.Store c.count_kept.new.conn) c.count_kept.result c.count_kept.ensures.rests

pub returns-clause-value : goal.returns-clause-value
returns-clause-value g c =
    describes_for (state g.S.Store c.args.conn.now) (state g.S.Store c.count_kept.new.conn) c.count_kept.result (λ n k. n ≡ length k.kept)
    (λ n y. n ≡ length y.kept)
    (λ file n y at is. is ∙ ap length at.holds.held.2.kept) c.count_kept.ensures.value

pub returns-clause-fault : goal.returns-clause-fault
returns-clause-fault g c file = safe_for file (state g.S.Store c.args.conn.now) (state g.S.Store c.count_kept.new.conn) c.count_kept.result c.count_kept.ensures.fault

pub returns-clause-open : goal.returns-clause-open
returns-clause-open g c = c.count_kept.ensures.open

pub returns-clause-reads : goal.returns-clause-reads
returns-clause-reads g c = c.count_kept.ensures.reads

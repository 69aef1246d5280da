use Rattle.sqlite.specs.Held.{state}
use Rattle.guest_tables.proofs.PairHoldings.{delete_changes}
use Rattle.guest_tables.proofs.pairs.delete_pair.Goals as goal

pub returns-clause-held : goal.returns-clause-held
returns-clause-held g c =
    delete_changes c.args.key.now (state g.S.Store c.args.conn.now) (state g.S.Store c.remove_pair.new.conn) c.remove_pair.result c.remove_pair.ensures

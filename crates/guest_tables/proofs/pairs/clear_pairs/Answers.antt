use Rattle.sqlite.specs.Held.{state}
use Rattle.guest_tables.proofs.PairHoldings.{clear_changes}
use Rattle.guest_tables.proofs.pairs.clear_pairs.Goals as goal

pub returns-clause-held : goal.returns-clause-held
returns-clause-held g c =
    clear_changes c.args.from.now c.args.to.now (state g.S.Store c.args.conn.now) (state g.S.Store c.remove_range.new.conn) c.remove_range.result
    c.remove_range.ensures

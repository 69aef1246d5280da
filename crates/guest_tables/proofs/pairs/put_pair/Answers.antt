use Rattle.sqlite.specs.Held.{state}
use Rattle.guest_tables.proofs.PairHoldings.{put_changes}
use Rattle.guest_tables.proofs.pairs.put_pair.Goals as goal

pub returns-clause-held : goal.returns-clause-held
returns-clause-held g c right =
    put_changes c.args.key.now c.args.value.now (state g.S.Store c.args.conn.now) (state g.S.Store c.write_pair.new.conn) c.write_pair.result right
    c.write_pair.ensures

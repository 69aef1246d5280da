use Rattle.sqlite.specs.Held.{state}
use Rattle.guest_tables.proofs.PairJoins.{put_there, put_anew}
use Rattle.guest_tables.proofs.pairs.write_pair.Goals as goal

pub returns-in-Ok-true : goal.returns-in-Ok-true
returns-in-Ok-true g c =
    put_there c.args.key.now c.args.value.now (state g.S.Store c.args.conn.now) (state g.S.Store c.update_pair.new.conn) c.in-Ok-true.field-0
    c.in-Ok-true.ensures.made c.in-Ok-true.ensures.found c.in-Ok-true.field-0-test

pub returns-in-Ok-false : goal.returns-in-Ok-false
returns-in-Ok-false g c =
    put_anew c.args.key.now c.args.value.now (state g.S.Store c.args.conn.now) (state g.S.Store c.update_pair.new.conn) c.in-Ok-false.field-0
    c.in-Ok-false.ensures.made c.in-Ok-false.ensures.found (state g.S.Store c.insert_pair.new.conn) c.insert_pair.result c.in-Ok-false.field-0-test
    c.insert_pair.ensures

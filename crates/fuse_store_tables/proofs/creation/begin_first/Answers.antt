use Rattle.sqlite.specs.Held.{state}
use Rattle.fuse_store_tables.proofs.Control.{begins}
use Rattle.fuse_store_tables.proofs.Taken.{begin_fails}
use Rattle.fuse_store_tables.proofs.creation.begin_first.Goals as goal

pub returns-clause-begins : goal.returns-clause-begins
returns-clause-begins g c = begins (state g.S.Store c.args.conn.now) (state g.S.Store c.run.new.conn) c.run.result c.run.ensures.runs c.run.ensures.survives

pub returns-clause-fails : goal.returns-clause-fails
returns-clause-fails g c = begin_fails (state g.S.Store c.args.conn.now) (state g.S.Store c.run.new.conn) c.run.result c.run.ensures.runs

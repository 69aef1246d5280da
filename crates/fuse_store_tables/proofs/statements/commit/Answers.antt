use Rattle.sqlite.specs.Held.{state}
use Rattle.fuse_store_tables.proofs.Control.{ends}
use Rattle.fuse_store_tables.proofs.statements.commit.Goals as goal

pub returns : goal.returns
returns g c = ends (state g.S.Store c.args.conn.now) (state g.S.Store c.run.new.conn) c.run.result c.run.ensures.runs c.run.ensures.survives

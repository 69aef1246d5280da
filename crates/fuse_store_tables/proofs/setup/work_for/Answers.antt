use Rattle.sqlite.specs.Held.{state}
use Rattle.fuse_store_tables.specs.Opening.{IsStored, IsOpened}
use Rattle.fuse_store_tables.proofs.Alone.{reads_told}
use Rattle.fuse_store_tables.proofs.Readied.{outside_says}
use Rattle.fuse_store_tables.proofs.Wanted.{told_refused}
use Rattle.fuse_store_tables.proofs.Within.{within_told}
use Rattle.fuse_store_tables.proofs.setup.work_for.Goals as goal

-- ---- it could not be made ready

pub returns-in-Err-ready-clause-opened : goal.returns-in-Err-ready-clause-opened
returns-in-Err-ready-clause-opened g c = told_refused IsStored (IsOpened c.args.number) _ _ _ _ c.in-Ok.ensures.opened

pub returns-in-Err-ready-clause-fault : goal.returns-in-Err-ready-clause-fault
returns-in-Err-ready-clause-fault g c = λ clean at. c.in-Err-ready.ensures.outside

pub returns-in-Err-ready-clause-says : goal.returns-in-Err-ready-clause-says
returns-in-Err-ready-clause-says g c = λ clean. outside_says (state g.S.Store c.args.conn.now).now c.in-Err-ready.fault c.in-Err-ready.ensures.outside

pub returns-in-Err-ready-clause-alone : goal.returns-in-Err-ready-clause-alone
returns-in-Err-ready-clause-alone g c = λ other. reads_told _ _ _ _ (c.in-Ok.ensures.alone other)

pub returns-in-Err-ready-clause-within : goal.returns-in-Err-ready-clause-within
returns-in-Err-ready-clause-within g c = within_told _ _ _ _ c.in-Ok.ensures.within

use Rattle.sqlite.specs.Held.{state}
use Rattle.fuse_store_tables.specs.Opening.{IsStored, IsOpened}
use Rattle.fuse_store_tables.specs.inner.Versions.{tabled_says}
use Rattle.fuse_keeper.specs.declared.fault.StoreFault.TheVariants.{Damaged}
use Rattle.fuse_store_tables.proofs.Alone.{reads_told}
use Rattle.fuse_store_tables.proofs.Wanted.{told_refused, sure_wanted, unwanted}
use Rattle.fuse_store_tables.proofs.Within.{within_told}
use Rattle.fuse_store_tables.proofs.setup.work_wanted.Goals as goal

pub returns-in-Err-clause-fault : goal.returns-in-Err-clause-fault
returns-in-Err-clause-fault g c =
    sure_wanted c.args.wanted (state g.S.Store c.args.conn.now) (state g.S.Store c.work.new.conn) c.in-Err.fault c.in-Err.ensures.fault

-- ---- one that isn't wanted

pub returns-else-is_wanted-clause-opened : goal.returns-else-is_wanted-clause-opened
returns-else-is_wanted-clause-opened g c = told_refused IsStored (IsOpened c.args.number) _ _ _ _ c.in-Ok.ensures.opened

pub returns-else-is_wanted-clause-fault : goal.returns-else-is_wanted-clause-fault
returns-else-is_wanted-clause-fault g c =
    unwanted c.args.wanted (state g.S.Store c.args.conn.now) (state g.S.Store c.work.new.conn) c.in-Ok.profile c.in-Ok.ensures.profile
    (λ is. absurd (let e = c.if-is_wanted.ensures.1 is in cc))

pub returns-else-is_wanted-clause-says : goal.returns-else-is_wanted-clause-says
returns-else-is_wanted-clause-says g c = λ clean. tabled_says _ Damaged (c.in-Ok.ensures.tabled clean) tt

pub returns-else-is_wanted-clause-alone : goal.returns-else-is_wanted-clause-alone
returns-else-is_wanted-clause-alone g c = λ other. reads_told _ _ _ _ (c.in-Ok.ensures.alone other)

pub returns-else-is_wanted-clause-within : goal.returns-else-is_wanted-clause-within
returns-else-is_wanted-clause-within g c = within_told _ _ _ _ c.in-Ok.ensures.within
